use Rattle.cf_example.specs.Agreement.{all_same}
use Rattle.cf_example.proofs.Agreeing.{IsOverPairs}
use Rattle.cf_example.proofs.agreement.agrees.Given as goal

abbrev pub invariant-loop-k : goal.invariant-loop-k
invariant-loop-k g l = IsOverPairs all_same l.fn.pkg l.pkg l.level l.pairs l.k l.all
