use Rattle.std.proofs.Common.{◌≡◌, ◌++◌, drop}
use Rattle.cf_blocks.specs.Numbering.{formals_from}
use Rattle.cf_blocks.proofs.drivers.add_formals.Given as goal

abbrev pub invariant-loop-place : goal.invariant-loop-place
invariant-loop-place l =
    l.drivers ++ formals_from l.place (drop l.place l.inputs) ≡ l.initial.drivers ++ formals_from 0 l.inputs
