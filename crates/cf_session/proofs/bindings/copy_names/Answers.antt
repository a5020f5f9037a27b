use Rattle.std.proofs.Common.{ap, ◌∙◌}
use Rattle.std.specs.Str.{bytes_eq}
use Rattle.cf_model.specs.Renumbering.{note}
use Rattle.cf_session.proofs.NameFacts.{note-next}
use Rattle.cf_session.proofs.bindings.copy_names.Goals as goal

pub loop-n-preserved : goal.loop-n-preserved
loop-n-preserved c =
    c.in_ok-number.ensures.noted ∙ ap (λ names. note bytes_eq names c.get.result.now) c.loop-n.invariant
    ∙ note-next c.args.names.now c.loop-n.n c.get.result.now c.requires c.get.ensures
