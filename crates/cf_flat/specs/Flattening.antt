use Rattle.std.specs.Prelude.{◌≡◌, ℕ, ◌≤◌, List, Bool, Some, All, length, slice_index}
use Rattle.std.specs.Str.{bytes_eq}
use Rattle.cf_model.specs.Renumbering.{place}
use Rattle.cf_circuits.specs.declared.models.ModelDef.{ModelDef}
use Rattle.cf_circuits.specs.declared.faults.LinkFault.TheVariants as kind
use Rattle.cf_circuits.specs.Expansions.{circuit_value}
use Rattle.cf_circuits.specs.LinkFaults.{link}
use Rattle.cf_circuits.specs.Roots.{inputs_of}
use Rattle.cf_hierarchy.specs.declared.flat.Flat as hierarchy
use Rattle.cf_hierarchy.specs.declared.linking.LinkFault as numbered
use Rattle.cf_hierarchy.specs.declared.linking.LinkFault.TheVariants as block
use Rattle.cf_hierarchy.specs.Circuits.{UsesLower}
use Rattle.cf_hierarchy.specs.Flattening.{HaveRootWires, IsGateIn, ShowRoot}
use Rattle.cf_hierarchy.specs.Links.{signals_within}
use Rattle.cf_blocks.specs.Numbering.{blocks_of}
use Rattle.cf_flat.specs.declared.flat.Flat.{Flat}
use Rattle.cf_flat.specs.declared.flat.Out.{Out}
use Rattle.cf_flat.specs.declared.flattening.FlatFault.{FlatFault}
use Rattle.cf_flat.specs.declared.flattening.FlatFault.TheVariants as fault
use Rattle.cf_flat.specs.Flats.{wire_value}

-- What the flat circuit of a netlist is, and why there is none.

-- Where each input has a bit, the wire of each output has the value of the netlist's signal of that name.
abbrev pub HasValues : List ModelDef → Flat → Type 0
HasValues models flat =
    (bits : List Bool) → length bits ≡ length (inputs_of models)
    → All (λ out. circuit_value models bits out.name ≡ wire_value flat bits out.wire) flat.outputs

-- Want of memory says nothing of the netlist; the other is the first fault of its links.
abbrev pub IsFault : List ModelDef → FlatFault → Type 0
IsFault models fault.NoMemory = Unit {0}
IsFault models (fault.Link f) = link models ≡ Some f

-- the faults of blocks
abbrev pub of_blocks : numbered.LinkFault → FlatFault
of_blocks block.NoMemory = fault.NoMemory
of_blocks block.TooDeep = fault.Link kind.TooDeep
of_blocks block.TooLarge = fault.Link kind.TooLarge
of_blocks block.Cycle = fault.Link kind.Cycle

-- the output of a name, where signals have these wires
abbrev pub out_at : List (List ℕ) → List ℕ → List ℕ → Out
out_at signals wires name = record { name = name; wire = slice_index wires (place bytes_eq signals name) }

-- The gates are those of the netlist's blocks, over lower wires, and the wires of the root's signals have their values.
pub record IsLinked (models : List ModelDef) (flat : hierarchy.Flat) : Type 0 where
  pub lower : UsesLower (length (inputs_of models)) flat.gates
  pub made : All (IsGateIn (blocks_of models)) flat.gates
  pub few : length flat.wires ≤ signals_within (blocks_of models) 64
  pub wires : HaveRootWires (blocks_of models) (length (inputs_of models)) flat.gates flat.wires
  pub shows : ShowRoot (blocks_of models) (length (inputs_of models)) flat.gates flat.wires
