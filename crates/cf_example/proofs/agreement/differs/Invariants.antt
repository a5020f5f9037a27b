use Rattle.cf_example.specs.Agreement.{some_differ}
use Rattle.cf_example.proofs.Agreeing.{IsOverPairs}
use Rattle.cf_example.proofs.agreement.differs.Given as goal

abbrev pub invariant-loop-i : goal.invariant-loop-i
invariant-loop-i g l = IsOverPairs some_differ l.fn.pkg l.pkg l.level l.pairs l.i l.any
