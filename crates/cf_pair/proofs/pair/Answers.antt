use Rattle.std.proofs.Common.{suc, List, ℕ, sym, subst}
use Rattle.std.specs.List.{zip}
use Rattle.cf_table.specs.Groupings.{pattern_of, patterns_of}
use Rattle.cf_build.specs.Assembling.{HasCanon}
use Rattle.cf_pair.proofs.Bounds.{charged_bound}
use Rattle.cf_model.proofs.Callees.{sub_in}
use Rattle.cf_model.proofs.Growing.{pattern_kept}
use Rattle.cf_pair.proofs.pair.Goals as goal

pub returns-clause-paired : goal.returns-clause-paired
returns-clause-paired g c =
    let old = c.args.table.now in
    let new = c.pair_groupings.new.table in
    subst (λ (v : List (ℕ × ℕ)). HasCanon new.levels c.in_ok-head.head c.args.g.level (zip (pattern_of old c.args.g) (pattern_of old c.args.h)) v) (sym c.in_ok-pairs.ensures) c.in_ok-head.ensures.paired.pairs

pub returns-clause-parts : goal.returns-clause-parts
returns-clause-parts g c =
    let q = c.in_ok-head.ensures in
    sub_in c.pair_groupings.new.table.levels q.good c.in_ok-head.head.level c.in_ok-head.head.at q.paired.pairs.there

pub returns-clause-patterns : goal.returns-clause-patterns
returns-clause-patterns g c = pattern_kept c.args.table.now.levels c.pair_groupings.new.table.levels c.law.ensures.good c.in_ok-head.ensures.extends

pub returns-clause-steps : goal.returns-clause-steps
returns-clause-steps g c =
    let old = c.args.table.now in
    let k = patterns_of old.levels c.args.g c.args.h in
    charged_bound old.products c.pair_groupings.new.table.products k.0 k.1 (suc c.args.g.level) c.args.steps.now c.pair_groupings.new.steps _ c.in_ok-head.ensures.charged c.law.ensures.products_differ

pub returns-in_err-head-clause-patterns : goal.returns-in_err-head-clause-patterns
returns-in_err-head-clause-patterns g c = pattern_kept c.args.table.now.levels c.pair_groupings.new.table.levels c.law.ensures.good c.in_err-head.ensures.extends

pub returns-in_err-head-clause-steps : goal.returns-in_err-head-clause-steps
returns-in_err-head-clause-steps g c =
    let old = c.args.table.now in
    let k = patterns_of old.levels c.args.g c.args.h in
    charged_bound old.products c.pair_groupings.new.table.products k.0 k.1 (suc c.args.g.level) c.args.steps.now c.pair_groupings.new.steps _ c.in_err-head.ensures.charged c.law.ensures.products_differ

pub returns-in_err-pairs-clause-patterns : goal.returns-in_err-pairs-clause-patterns
returns-in_err-pairs-clause-patterns g c = pattern_kept c.args.table.now.levels c.pair_groupings.new.table.levels c.law.ensures.good c.in_ok-head.ensures.extends

pub returns-in_err-pairs-clause-steps : goal.returns-in_err-pairs-clause-steps
returns-in_err-pairs-clause-steps g c =
    let old = c.args.table.now in
    let k = patterns_of old.levels c.args.g c.args.h in
    charged_bound old.products c.pair_groupings.new.table.products k.0 k.1 (suc c.args.g.level) c.args.steps.now c.pair_groupings.new.steps _ c.in_ok-head.ensures.charged c.law.ensures.products_differ
