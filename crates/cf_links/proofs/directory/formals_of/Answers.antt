use Rattle.cf_links.proofs.DirectoriesNames.{listed-next}
use Rattle.cf_links.proofs.directory.formals_of.Goals as goal

pub loop-model-preserved : goal.loop-model-preserved
loop-model-preserved c =
    listed-next c.args.models.now _ _ c.model-item.result _ c.loop-model.model-index c.loop-model.invariant c.loop-model-test.true
    c.model-item.is c.in_ok-list_formals.ensures c.in_ok-push.ensures.items
