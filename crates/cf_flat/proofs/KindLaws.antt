-- The faults that are found by names and by numbers are the first that stand in a netlist.
use Rattle.std.proofs.Common.{◌≡◌, ◌≤◌, ℕ, Bool, true, false, List, Option, Some, None, length, ap, ◌∙◌, arith, cond}
use Rattle.cf_circuits.specs.declared.models.ModelDef.{ModelDef}
use Rattle.cf_circuits.specs.declared.faults.LinkFault.{LinkFault}
use Rattle.cf_circuits.specs.declared.faults.LinkFault.TheVariants as kind
use Rattle.cf_hierarchy.specs.declared.linking.LinkFault.TheVariants as fault
use Rattle.cf_flat.specs.Kinds.{NameFaultsAreFirst, BlockFaultsAreFirst, FaultlessNetlists}
use Rattle.cf_flat.proofs.NameFacts.{no-kinds}
use Rattle.cf_flat.proofs.ShowLaws.{count-same}
use Rattle.cf_flat.proofs.LinkLaws.{name-fault-link, deep-link, large-link, small-link}
use Rattle.cf_flat.proofs.CycleLaws.{no-cycle, cycle}

pub names-first : NameFaultsAreFirst
names-first models f h = name-fault-link models f h

abbrev if_cycle : Bool → Option LinkFault
if_cycle b = cond b (Some kind.Cycle) None

pub blocks-first : BlockFaultsAreFirst
blocks-first models fault.NoMemory net none h = tt
blocks-first models fault.TooDeep net none h = deep-link models none h
blocks-first models fault.TooLarge net none h = large-link models net.root none h.0 h.1
blocks-first models fault.Cycle net none h =
    small-link models net.root none h.0 h.1 ∙ ap if_cycle (cycle models (no-kinds models none.none) h.0 h.2)

pub faultless : FaultlessNetlists
faultless models wires net none h known few =
    let same = count-same models in
    small-link models net.root none h.deep h.large
    ∙ ap if_cycle (no-cycle models wires (no-kinds models none.none) known (omega (arith, few, same)))
