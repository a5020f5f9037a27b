use Rattle.cf_build.proofs.Turns.{if_ok}
use Rattle.cf_matmul.proofs.matmul.Goals as goal

pub returns-clause-values : goal.returns-clause-values
returns-clause-values c = if_ok c.make.result _ _ c.make.ensures.outcome.answer (λ r a. a.values)

pub returns-clause-overflow : goal.returns-clause-overflow
returns-clause-overflow c = c.make.ensures.outcome.overflow

pub returns-clause-parts : goal.returns-clause-parts
returns-clause-parts c = if_ok c.make.result _ _ c.make.ensures.outcome.answer (λ r a. a.parts)
