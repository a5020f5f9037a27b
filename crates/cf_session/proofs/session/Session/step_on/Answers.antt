use Rattle.std.proofs.Common.{ap, sym, ◌∙◌}
use Rattle.cf_script.specs.Views.{statement_of}
use Rattle.cf_session.proofs.StepFacts.{does-nothing, does-lack}
use Rattle.cf_session.proofs.session.Session.step_on.Goals as goal

pub returns-then-lacks_level-clause-does : goal.returns-then-lacks_level-clause-does
returns-then-lacks_level-clause-does g c = λ entries.
    does-lack entries c.args.self.now (statement_of c.args.statement.now) _ (sym c.lacks_level.ensures ∙ c.if-lacks_level.true)

pub returns-in-Empty-clause-does : goal.returns-in-Empty-clause-does
returns-in-Empty-clause-does g c = λ entries.
    does-nothing entries c.args.self.now (statement_of c.args.statement.now) _ (ap statement_of c.in-Empty.is)
