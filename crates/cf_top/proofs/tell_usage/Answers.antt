use Rattle.std.proofs.Common.{◌∙◌, subst}
use Rattle.cf_session.specs.Stepping.{AppendsFront}
use Rattle.cf_top.proofs.Following.{front_of_take}
use Rattle.cf_top.proofs.tell_usage.Goals as goal

pub returns-else-put_all-clause-run : goal.returns-else-put_all-clause-run
returns-else-put_all-clause-run g c = λ told taken.
    subst (AppendsFront (g.K.Sink.shown c.args.out.now).written (g.K.Sink.shown c.put_all.new.out).written)
    (c.bytes.ensures.bytes ∙ c.usage_text.ensures)
    (front_of_take _ _ _ (c.put_all.ensures.front told))
