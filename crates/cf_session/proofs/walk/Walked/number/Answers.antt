use Rattle.std.proofs.Common.{ap, refl, ◌∙◌, Some}
use Rattle.std.specs.Option.{option_or}
use Rattle.std.specs.Int.{w128}
use Rattle.std.proofs.lemmas.Int.{to_z-of_z}
use Rattle.cf_session.proofs.WalkFacts.{shows-first, shows-second, shows-third}
use Rattle.cf_session.proofs.walk.Walked.number.Goals as goal

pub returns-in-None : goal.returns-in-None
returns-in-None c =
    shows-first c.args.self _ c.args.n refl refl refl c.in-None.is (ap Some (to_z-of_z w128 c.args.n c.ranges.n)) refl refl

pub returns-in-None-row : goal.returns-in-None-row
returns-in-None-row c =
    shows-second c.args.self _ c.args.n _ refl refl refl c.in-Some.is c.in-None-row.is refl (ap Some (to_z-of_z w128 c.args.n c.ranges.n)) refl

pub returns-in-Some-row : goal.returns-in-Some-row
returns-in-Some-row c =
    shows-third c.args.self _ c.args.n _ _ refl refl refl c.in-Some.is c.in-Some-row.is refl refl
    (c.or.ensures ∙ ap (λ z. option_or c.args.self.column (Some z)) (to_z-of_z w128 c.args.n c.ranges.n))
