use Rattle.std.proofs.Common.{◌≡◌, map, take, get_or}
use Rattle.cf_circuits.specs.Links.{no_model}
use Rattle.cf_blocks.specs.Numbering.{actual_of, number}
use Rattle.cf_blocks.proofs.calls.actuals_of.Given as goal

abbrev pub invariant-loop-name : goal.invariant-loop-name
invariant-loop-name l =
    l.wires.items ≡ map (λ name. number l.numbers (get_or l.numbers l.at no_model) (actual_of l.call.pins name)) (take l.name-index l.names)
