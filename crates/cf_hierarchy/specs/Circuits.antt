use Rattle.std.specs.Prelude.{◌≡◌, ℕ, zero, suc, ◌+◌, ◌<◌, ◌≤◌, List, [], ◌∷◌, ◌++◌, Bool, false, Option, Some, None, map, length, slice_index, slice_index_or, All}
use Rattle.std.specs.List.{slice_get}
use Rattle.std.specs.Option.{option_map, option_and_then}
use Rattle.cf_hierarchy.specs.declared.gates.Gate.{Gate}
use Rattle.cf_hierarchy.specs.declared.gates.Node.{Node}
use Rattle.cf_hierarchy.specs.declared.gates.Node.TheVariants as node

-- what a node needs
abbrev pub needs : Node → List ℕ
needs (node.Input i) = []
needs (node.Output g) = g.ins
needs (node.Alias t) = t ∷ []

-- an input is one of n
abbrev pub IsNode : ℕ → Node → Type 0
IsNode n (node.Input i) = i < n
IsNode n (node.Output g) = Unit {0}
IsNode n (node.Alias t) = Unit {0}

-- what each cover gives on values
abbrev pub Meaning : Type 0
Meaning = ℕ → List Bool → Bool

-- the values, where each is there
abbrev pub all_of : List (Option Bool) → Option (List Bool)
all_of [] = Some []
all_of (None ∷ os) = None
all_of (Some b ∷ os) = option_map (λ bs. b ∷ bs) (all_of os)

-- a node's value from those of the signals
abbrev pub value_at : Meaning → List Bool → (ℕ → Option Bool) → Node → Option Bool
value_at means bits at (node.Input i) = slice_get bits i
value_at means bits at (node.Output g) = option_map (means g.cover) (all_of (map at g.ins))
value_at means bits at (node.Alias t) = at t

-- the value of a signal by recursion on m
unfoldable pub cval : Meaning → List Node → List Bool → ℕ → ℕ → Option Bool
cval means nodes bits zero s = None
cval means nodes bits (suc m) s =
    option_and_then (value_at means bits (cval means nodes bits m)) (slice_get nodes s)

-- each gate uses lower wires only, n being below it
abbrev pub UsesLower : ℕ → List Gate → Type 0
UsesLower n [] = Unit {0}
UsesLower n (g ∷ gs) = All (λ w. w < n) g.ins × UsesLower (suc n) gs

-- the values of all wires, where the first have these
abbrev pub wire_values : Meaning → List Bool → List Gate → List Bool
wire_values means vs [] = vs
wire_values means vs (g ∷ gs) =
    wire_values means (vs ++ means g.cover (map (λ w. slice_index_or vs w false) g.ins) ∷ []) gs

-- On each setting of n inputs the wire has the value of the signal, at every m from the number of
-- signals on.
abbrev pub Shows : List Node → ℕ → List Gate → ℕ → ℕ → Type 0
Shows nodes n gates s w =
    (means : Meaning) (bits : List Bool) → length bits ≡ n → (m : ℕ) → length nodes ≤ m
    → cval means nodes bits m s ≡ Some (slice_index_or (wire_values means bits gates) w false)

-- The gate is that of a node: it has the cover, over as many wires.
pub record IsGateOf (nodes : List Node) (g : Gate) : Type 0 where
  pub signal : ℕ
  pub made : Gate
  pub there : slice_get nodes signal ≡ Some (node.Output made)
  pub cover : g.cover ≡ made.cover
  pub ins : length g.ins ≡ length made.ins

-- Each signal's wire is an input or a gate's output.
abbrev pub HaveWires : List Node → ℕ → List Gate → List ℕ → Type 0
HaveWires nodes n gates wires = (s : ℕ) → s < length nodes → slice_index wires s < n + length gates

-- Each signal's wire has its value.
abbrev pub ShowAll : List Node → ℕ → List Gate → List ℕ → Type 0
ShowAll nodes n gates wires =
    (s : ℕ) → s < length nodes → Shows nodes n gates s (slice_index wires s)

-- One more node has the wire, and its gate, if it is one, comes behind the others.
abbrev pub AddsNode : ℕ → List ℕ → List Gate → List Gate → ℕ → Node → Type 0
AddsNode n wires old new w (node.Input i) = (w ≡ i) × (new ≡ old)
AddsNode n wires old new w (node.Alias t) = (w ≡ slice_index wires t) × (new ≡ old)
AddsNode n wires old new w (node.Output g) =
    (w ≡ n + length old)
    × (new ≡ old ++ record { ins = map (slice_index wires) g.ins; cover = g.cover } ∷ [])
