use Rattle.std.proofs.Common.{◌≡◌, ◌++◌, drop, get_or}
use Rattle.cf_circuits.specs.Links.{no_model}
use Rattle.cf_blocks.specs.Numbering.{made_from}
use Rattle.cf_blocks.proofs.drivers.add_gates.Given as goal

abbrev pub invariant-loop-gate : goal.invariant-loop-gate
invariant-loop-gate l =
    l.drivers ++ made_from l.numbers (get_or l.numbers l.at no_model) l.next (drop l.gate-index l.gates)
    ≡ l.initial.drivers ++ made_from l.numbers (get_or l.numbers l.at no_model) l.cover l.gates
