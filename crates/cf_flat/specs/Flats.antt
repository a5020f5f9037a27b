use Rattle.std.specs.Prelude.{◌≡◌, ◌<◌, ◌+◌, ℕ, Bool, true, false, List, [], length, All, slice_index_or}
use Rattle.cf_circuits.specs.declared.gates.Cover.{Cover}
use Rattle.cf_circuits.specs.Covers.{cover_value}
use Rattle.cf_hierarchy.specs.Circuits.{Meaning, UsesLower, wire_values}
use Rattle.cf_flat.specs.declared.flat.Flat.{Flat}

-- an empty cover, in place of one that isn't there
abbrev pub no_cover : Cover
no_cover = record { on = true; planes = [] }

-- the cover at a place
abbrev pub cover_at : List Cover → ℕ → Cover
cover_at covers place = slice_index_or covers place no_cover

-- Each gate reads lower wires only, its cover is there, each plane of it has a cell for each wire that the gate reads, and
-- each output has a wire of the circuit.
pub record IsFlat (flat : Flat) : Type 0 where
  pub lower : UsesLower (length flat.inputs) flat.gates
  pub covers : All (λ g. g.cover < length flat.covers) flat.gates
  pub cells : All (λ g. All (λ plane. length plane ≡ length g.ins) (cover_at flat.covers g.cover).planes) flat.gates
  pub wires : All (λ out. out.wire < length flat.inputs + length flat.gates) flat.outputs

-- what covers give on values, by their places
abbrev pub means_of : List Cover → Meaning
means_of covers place vs = cover_value (cover_at covers place) vs

-- the value of a wire where the inputs have these bits
abbrev pub wire_value : Flat → List Bool → ℕ → Bool
wire_value flat bits w = slice_index_or (wire_values (means_of flat.covers) bits flat.gates) w false
