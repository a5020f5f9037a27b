use Rattle.cf_blocks.proofs.CallLaws.{formals-next}
use Rattle.cf_blocks.proofs.drivers.add_formals.Goals as goal

pub loop-place-preserved : goal.loop-place-preserved
loop-place-preserved c =
    formals-next c.args.inputs.now c.loop-place.drivers c.push.new.self _ c.loop-place.place c.loop-place.invariant c.loop-place-test.true
    c.in_ok-push.ensures.pushed
