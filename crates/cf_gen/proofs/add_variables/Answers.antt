use Rattle.std.proofs.Common.{append-nil}
use Rattle.cf_gen.proofs.ScriptLaws.{no_variables, variable_lines-more, with_line}
use Rattle.cf_gen.proofs.add_variables.Goals as goal

pub loop-i-init : goal.loop-i-init
loop-i-init c = rw (no_variables, append-nil)

pub loop-i-preserved : goal.loop-i-preserved
loop-i-preserved c =
    with_line _ _ _ _ _ _ c.loop-i.invariant c.in_ok-add_variable.ensures (variable_lines-more c.loop-i.i)
