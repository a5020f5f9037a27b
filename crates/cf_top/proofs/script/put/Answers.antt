use Rattle.cf_session.proofs.StepFacts.{puts}
use Rattle.cf_top.proofs.script.put.Goals as goal

pub returns : goal.returns
returns g c =
    puts (g.K.Sink.shown c.args.out.now) (g.K.Sink.shown c.put_all.new.out) c.args.bytes.now c.put_all.result
    c.put_all.ensures.same c.put_all.ensures.later c.put_all.ensures.all c.put_all.ensures.front c.put_all.ensures.cause
