use Rattle.std.proofs.Common.{sym, ◌∙◌}
use mir.Syntax.{w128}
use mir.Val.{to_z}
use Rattle.cf_script.proofs.NumberFacts.{negative-none}
use Rattle.cf_script.proofs.numbers.negative.Goals as goal

pub returns-in_err-value : goal.returns-in_err-value
returns-in_err-value c =
    c.from_residual.ensures
    ∙ sym (negative-none c.args.digits.now c.loop-digit.digit-index (to_z w128 c.loop-digit.value-bits) c.loop-digit-test.true
    c.loop-digit.invariant (sym c.in_err-value.ensures))
