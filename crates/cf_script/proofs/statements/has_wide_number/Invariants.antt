use Rattle.std.proofs.Common.{◌≡◌, length}
use Rattle.cf_reference.specs.Words.{words}
use Rattle.cf_script.specs.Answers.{any_wide}
use Rattle.cf_script.proofs.statements.has_wide_number.Given as goal

abbrev pub invariant-loop-rest : goal.invariant-loop-rest
invariant-loop-rest l = any_wide (words l.text) ≡ any_wide (words l.rest)

abbrev pub decreases-loop-rest : goal.decreases-loop-rest
decreases-loop-rest l = length l.rest
