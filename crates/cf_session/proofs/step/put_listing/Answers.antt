use Rattle.cf_model.specs.Assignments.{bits}
use Rattle.cf_session.proofs.StepFacts.{one-listed, not-listed, all-listed}
use Rattle.cf_session.proofs.step.put_listing.Goals as goal

pub returns-then-not-put_text : goal.returns-then-not-put_text
returns-then-not-put_text g c =
    not-listed (g.K.Sink.shown c.args.out.now) (g.K.Sink.shown c.loop-at.out) (g.K.Sink.shown c.put_text.new.out) c.args.listing c.loop-at.at-iterator c.next.new.self (bits c.in-Some.at) c.loop-at.count c.bits_text.new.text
    c.loop-at.invariant.2 c.in-Some.ensures.steps c.bits_text.ensures c.if-not-put_text.ensures

pub loop-at-preserved : goal.loop-at-preserved
loop-at-preserved g c = (
  tt,
  tt,
  one-listed (g.K.Sink.shown c.args.out.now) (g.K.Sink.shown c.loop-at.out) (g.K.Sink.shown c.put_text.new.out) c.args.listing c.loop-at.at-iterator c.next.new.self (bits c.in-Some.at) c.loop-at.count c.bits_text.new.text
      c.loop-at.invariant.2 c.in-Some.ensures.steps c.bits_text.ensures c.if-not-put_text.ensures,
)

pub returns : goal.returns
returns g c =
    all-listed (g.K.Sink.shown c.args.out.now) (g.K.Sink.shown c.loop-at.out) (g.K.Sink.shown c.put_text-2.new.out) c.args.listing c.loop-at.at-iterator c.loop-at.count c.listed_text.new.text c.put_text-2.result
    c.loop-at.invariant.2 c.in-None.ensures.steps.0 c.listed_text.ensures c.put_text-2.ensures
