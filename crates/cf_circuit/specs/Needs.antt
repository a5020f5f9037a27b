use Rattle.std.specs.Prelude.{◌≡◌, ◌<◌, ◌+◌, ℕ, Bool, true, false, List, [], ◌∷◌, length, All, slice_set, slice_index_or}
use Rattle.cf_hierarchy.specs.declared.gates.Gate.{Gate}
use Rattle.cf_flat.specs.declared.flat.Flat.{Flat}

-- with these wires marked
abbrev pub marked : List Bool → List ℕ → List Bool
marked needed [] = needed
marked needed (w ∷ wires) = marked (slice_set needed w true) wires

-- the gate at a place
abbrev pub gate_at : List Gate → ℕ → Gate
gate_at gates place = slice_index_or gates place (record { ins = []; cover = 0 })

-- whether a wire is marked
abbrev pub is_needed : List Bool → ℕ → Bool
is_needed needed w = slice_index_or needed w false

-- All wires of a gate are needed if its own is.
abbrev pub IsClosed : List Bool → ℕ → Gate → Type 0
IsClosed needed w g = is_needed needed w ≡ true → All (λ i. is_needed needed i ≡ true) g.ins

-- The outputs' wires are needed, and with a gate's wire those that it reads.
pub record AreNeeded (flat : Flat) (needed : List Bool) : Type 0 where
  pub full : length needed ≡ length flat.inputs + length flat.gates
  pub outputs : All (λ out. is_needed needed out.wire ≡ true) flat.outputs
  pub closed : (i : ℕ) → i < length flat.gates
      → IsClosed needed (length flat.inputs + i) (gate_at flat.gates i)
