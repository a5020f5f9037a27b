use Rattle.std.proofs.Common.{subst}
use Rattle.cf_io.specs.Shown.{SinkView}
use Rattle.cf_session.specs.Stepping.{Puts}
use Rattle.cf_session.proofs.StepFacts.{puts}
use Rattle.cf_session.proofs.step.put_text.Goals as goal

pub returns : goal.returns
returns g c =
    let before : SinkView = g.K.Sink.shown c.args.out.now in
    let after : SinkView = g.K.Sink.shown c.put_all.new.out in
    subst (λ text. Puts before after text c.put_all.result) c.bytes.ensures.bytes
    (puts before after c.bytes.result.now c.put_all.result c.put_all.ensures.same c.put_all.ensures.later c.put_all.ensures.all c.put_all.ensures.front c.put_all.ensures.cause)
