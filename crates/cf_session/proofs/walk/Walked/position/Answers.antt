use Rattle.std.proofs.Common.{ap, refl, ◌∙◌}
use Rattle.std.specs.Int.{w128}
use Rattle.std.proofs.lemmas.Int.{to_z-of_z}
use Rattle.cf_session.specs.Walks.{variables_for}
use Rattle.cf_session.proofs.WalkFacts.{shows-position, max-first, max-second}
use Rattle.cf_session.proofs.walk.Walked.position.Goals as goal

pub returns-then-wanted-self : goal.returns-then-wanted-self
returns-then-wanted-self c =
    shows-position c.args.self _ c.args.i refl refl
    (max-second c.args.self.wanted (variables_for c.args.i) c.variables_for-wanted.result (c.variables_for-wanted.ensures ∙ ap variables_for (to_z-of_z w128 c.args.i c.ranges.i)) c.if-wanted-self.true) refl refl refl

pub returns-else-wanted-self : goal.returns-else-wanted-self
returns-else-wanted-self c =
    shows-position c.args.self _ c.args.i refl refl
    (max-first c.args.self.wanted (variables_for c.args.i) c.variables_for-wanted.result (c.variables_for-wanted.ensures ∙ ap variables_for (to_z-of_z w128 c.args.i c.ranges.i)) c.if-wanted-self.false) refl refl refl
