use Rattle.std.proofs.Common.{ap, sym, refl, ◌∙◌, ◌&&◌}
use Rattle.cf_session.specs.Walks.{agrees}
use Rattle.cf_session.proofs.WalkFacts.{shows-function}
use Rattle.cf_session.proofs.walk.Walked.function.Goals as goal

pub returns-then-self : goal.returns-then-self
returns-then-self c =
    shows-function c.args.self _ c.args.level c.requires.low c.or.ensures
    (c.agrees.ensures ∙ ap (λ b. b && agrees c.args.self.common c.args.level) (sym c.if-self.true)) refl refl refl refl

pub returns-else-self : goal.returns-else-self
returns-else-self c =
    shows-function c.args.self _ c.args.level c.requires.low c.or.ensures
    (c.if-self.false ∙ ap (λ b. b && agrees c.args.self.common c.args.level) (sym c.if-self.false)) refl refl refl refl
