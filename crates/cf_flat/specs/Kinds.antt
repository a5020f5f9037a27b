use Rattle.std.specs.Prelude.{◌≡◌, ℕ, ◌≤◌, List, Some, None, length}
use Rattle.cf_circuits.specs.declared.models.ModelDef.{ModelDef}
use Rattle.cf_circuits.specs.declared.faults.LinkFault as named
use Rattle.cf_circuits.specs.declared.faults.LinkFault.TheVariants as kind
use Rattle.cf_circuits.specs.Kept.{IsNetlist}
use Rattle.cf_circuits.specs.LinkFaults.{weights_of, link}
use Rattle.cf_circuits.specs.Roots.{inputs_of}
use Rattle.cf_hierarchy.specs.declared.linking.LinkFault as numbered
use Rattle.cf_hierarchy.specs.declared.linking.LinkFault.TheVariants as fault
use Rattle.cf_hierarchy.specs.Flattening.{HaveValues}
use Rattle.cf_hierarchy.specs.Links.{signals_within, HasNoFault, HasFault}
use Rattle.cf_links.specs.Faults.{HasNoNameFault, IsNameFault}
use Rattle.cf_blocks.specs.Numbering.{blocks_of}

-- The faults that are found by names and by numbers are the first that stand in a netlist.

-- Those of names, the kinds 1 to 6.
abbrev pub NameFaultsAreFirst : Type 0
NameFaultsAreFirst = (models : List ModelDef) (f : named.LinkFault) → IsNameFault models f → link models ≡ Some f

-- Want of memory says nothing of the netlist; the others are its first fault.
abbrev pub IsFirst : List ModelDef → numbered.LinkFault → Type 0
IsFirst models fault.NoMemory = Unit {0}
IsFirst models fault.TooDeep = link models ≡ Some kind.TooDeep
IsFirst models fault.TooLarge = link models ≡ Some kind.TooLarge
IsFirst models fault.Cycle = link models ≡ Some kind.Cycle

-- Those of blocks, the kinds 7 to 9.
abbrev pub BlockFaultsAreFirst : Type 0
BlockFaultsAreFirst =
    (models : List ModelDef) (f : numbered.LinkFault) → IsNetlist models → HasNoNameFault models
    → HasFault (blocks_of models) (weights_of models) f → IsFirst models f

-- A netlist has none where its names have none, its blocks have none, and its signals have values.
abbrev pub FaultlessNetlists : Type 0
FaultlessNetlists =
    (models : List ModelDef) (wires : List ℕ) → IsNetlist models → HasNoNameFault models
    → HasNoFault (blocks_of models) (weights_of models)
    → HaveValues (blocks_of models) (length (inputs_of models)) wires → length wires ≤ signals_within (blocks_of models) 64
    → link models ≡ None
