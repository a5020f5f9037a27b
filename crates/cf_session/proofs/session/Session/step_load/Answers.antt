use Rattle.std.proofs.Common.{ap, sym, ◌∙◌}
use Rattle.std.specs.Prelude.{is_some, not}
use Rattle.cf_session.specs.Sessions.{Held}
use Rattle.cf_session.proofs.StepFacts.{load-lacks}
use Rattle.cf_session.proofs.session.Session.step_load.Goals as goal

pub returns-then-is_none-clause-does : goal.returns-then-is_none-clause-does
returns-then-is_none-clause-does g c = λ told at.
    load-lacks (g.F.Files.shown c.args.files.now).entries c.args.self.now c.args.prefix.now c.args.file.now at
    (ap (λ (h : Held). is_some h.level) (sym c.self.view_is) ∙ c.is_none.ensures ∙ ap not c.if-is_none.true)
