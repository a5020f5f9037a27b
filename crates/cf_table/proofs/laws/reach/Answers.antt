use Rattle.std.proofs.lemmas.Option.{slice_get-get_or}
use Rattle.std.proofs.Common.{get_or}
use Rattle.cf_model.specs.Diagrams.{pattern}
use Rattle.cf_model.proofs.Canonicity.{pattern_full}
use Rattle.cf_model.proofs.Callees.{pattern_own, exit_reached}
use Rattle.cf_model.proofs.Entries.{entry_is_exit}
use Rattle.cf_table.proofs.laws.reach.Goals as goal

pub returns-clause-full : goal.returns-clause-full
returns-clause-full c = pattern_full c.args.table.now.levels c.law.ensures.good c.args.g.level c.args.g.at c.requires.owned

pub returns-clause-renumbered : goal.returns-clause-renumbered
returns-clause-renumbered c = pattern_own c.args.table.now.levels c.law.ensures.good c.args.g.level c.args.g.at c.requires.owned

pub returns-clause-exits : goal.returns-clause-exits
returns-clause-exits c =
    let t = c.args.table.now.levels in
    let g = c.args.g in
    λ k d h. entry_is_exit t c.law.ensures.good g.level g.at c.requires.owned k (get_or (pattern t g.level g.at) k d) (slice_get-get_or (pattern t g.level g.at) k d h)

pub returns-clause-reached : goal.returns-clause-reached
returns-clause-reached c = λ e h. (let r = exit_reached c.args.table.now.levels c.law.ensures.good c.args.g.level c.args.g.at c.requires.owned e h in (r.0, r.2))
