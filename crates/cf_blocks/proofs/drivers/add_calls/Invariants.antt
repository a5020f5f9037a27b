use Rattle.std.proofs.Common.{◌≡◌, ◌++◌, drop}
use Rattle.cf_blocks.specs.Numbering.{backs_from}
use Rattle.cf_blocks.proofs.drivers.add_calls.Given as goal

abbrev pub invariant-loop-place : goal.invariant-loop-place
invariant-loop-place l =
    l.drivers ++ backs_from l.numbers l.place (drop l.place l.calls) ≡ l.initial.drivers ++ backs_from l.numbers 0 l.calls
