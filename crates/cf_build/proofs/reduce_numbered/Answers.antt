use Rattle.std.proofs.Common.{arith}
use Rattle.cf_build.proofs.Turns.{if_ok, if_ok2}
use Rattle.cf_model.proofs.Callees.{sub_in}
use Rattle.cf_model.proofs.Growing.{pattern_kept}
use Rattle.cf_table.proofs.Told.{inside}
use Rattle.cf_build.proofs.PartLaws.{only_sub}
use Rattle.cf_build.proofs.reduce_numbered.Goals as goal

pub returns-clause-added : goal.returns-clause-added
returns-clause-added c = if_ok2 c.merge.result _ _ _ c.merge.ensures.merged c.merge.ensures.added (λ h s a. only_sub c.args.table.now.levels c.merge.new.table.levels c.merge.ensures.good h.level h.at s.there a)

pub merge-requires-clause-level : goal.merge-requires-clause-level
merge-requires-clause-level c = omega (arith, inside c.args.table.now.levels c.args.g.level c.args.g.at c.requires.owned, c.law.ensures.eight)

pub returns-clause-parts : goal.returns-clause-parts
returns-clause-parts c = if_ok c.merge.result _ _ c.merge.ensures.merged (λ h s. sub_in c.merge.new.table.levels c.merge.ensures.good h.level h.at s.there)

pub returns-clause-patterns : goal.returns-clause-patterns
returns-clause-patterns c = pattern_kept c.args.table.now.levels c.merge.new.table.levels c.law.ensures.good c.merge.ensures.extends
