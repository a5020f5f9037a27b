use Rattle.cf_session.proofs.OutputFacts.{HasBound}
use Rattle.cf_session.proofs.load.with_outputs.Given as goal

abbrev pub invariant-loop-place : goal.invariant-loop-place
invariant-loop-place l = HasBound l.functions l.bound l.prefix l.outputs l.built l.place
