use Rattle.std.proofs.Common.{sym, subst}
use Rattle.std.specs.List.{All}
use Rattle.cf_circuits.specs.Kept.{IsModel}
use Rattle.cf_links.proofs.kinds.in_models.Goals as goal

pub in_model-requires : goal.in_model-requires
in_model-requires c =
    let all = subst (All IsModel) (sym c.models-model-items.ensures) c.requires in
    subst IsModel (sym c.model-item.is) (all c.loop-model.model-index c.model-item.result c.loop-model-test.true)
