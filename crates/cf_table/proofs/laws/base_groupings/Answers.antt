use Rattle.std.proofs.Common.{◌≡◌, [], ◌∷◌, refl}
use Rattle.cf_model.specs.Diagrams.{Levels, pattern}
use Rattle.cf_table.proofs.laws.base_groupings.Goals as goal

dont_care : (t : Levels) → pattern t 0 0 ≡ 0 ∷ 0 ∷ []
unfolding pattern
dont_care t = refl

fork : (t : Levels) → pattern t 0 1 ≡ 0 ∷ 1 ∷ []
unfolding pattern
fork t = refl

pub returns-clause-dont_care : goal.returns-clause-dont_care
returns-clause-dont_care c = dont_care c.args.table.now.levels

pub returns-clause-fork : goal.returns-clause-fork
returns-clause-fork c = fork c.args.table.now.levels
