use Rattle.std.proofs.Common.{◌≡◌, map, take, get_or}
use Rattle.cf_circuits.specs.Links.{no_model}
use Rattle.cf_blocks.specs.Numbering.{number}
use Rattle.cf_blocks.proofs.numbers.Numbers.number_all.Given as goal

abbrev pub invariant-loop-name : goal.invariant-loop-name
invariant-loop-name l = l.wires.items ≡ map (number l.self (get_or l.self l.model no_model)) (take l.name-index l.names)
