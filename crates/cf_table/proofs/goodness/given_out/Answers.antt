use Rattle.std.proofs.Common.{◌∙◌, ap, arith}
use Rattle.std.proofs.lemmas.List.{take_all}
use Rattle.cf_model.specs.Renumbering.{width}
use Rattle.cf_table.proofs.Numbered.{width_more}
use Rattle.cf_table.proofs.goodness.given_out.Goals as goal

pub loop-exit-preserved : goal.loop-exit-preserved
loop-exit-preserved c = width_more c.args.before c.args.list.now c.loop-exit.exit-index c.loop-exit.next c.max-next.result c.loop-exit-test.true c.loop-exit.invariant c.max-next.ensures

pub returns : goal.returns
returns c = c.loop-exit.invariant ∙ ap (width c.args.before) (take_all c.loop-exit.exit-index c.args.list.now (omega (arith, c.loop-exit-test.false)))
