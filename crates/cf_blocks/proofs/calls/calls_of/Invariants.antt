use Rattle.std.proofs.Common.{◌≡◌, map, take, get_or}
use Rattle.cf_circuits.specs.Links.{no_model}
use Rattle.cf_blocks.specs.Numbering.{call_of}
use Rattle.cf_blocks.proofs.calls.calls_of.Given as goal

abbrev pub invariant-loop-call : goal.invariant-loop-call
invariant-loop-call l = l.all ≡ map (call_of l.numbers (get_or l.numbers l.at no_model)) (take l.call-index l.calls)
