use Rattle.cf_session.proofs.StepFacts.{HasListed}
use Rattle.cf_session.proofs.step.put_listing.Given as goal

abbrev pub invariant-loop-at : goal.invariant-loop-at
invariant-loop-at g l =
    (goal.iterator-loop-at g).can_next l.at-iterator × (goal.iterator-loop-at g).is_finite l.at-iterator
    × HasListed (g.K.Sink.shown l.fn.out) (g.K.Sink.shown l.out) l.fn.listing l.at-iterator l.count
