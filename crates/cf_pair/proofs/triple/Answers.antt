use Rattle.std.proofs.Common.{List, ℕ, sym, subst}
use Rattle.cf_table.specs.Groupings.{pattern_of}
use Rattle.cf_table.specs.Triples.{zip3}
use Rattle.cf_build.specs.Assembling.{HasCanon}
use Rattle.cf_model.proofs.Callees.{sub_in}
use Rattle.cf_model.proofs.Growing.{pattern_kept}
use Rattle.cf_pair.proofs.triple.Goals as goal

pub returns-clause-tripled : goal.returns-clause-tripled
returns-clause-tripled g c =
    let old = c.args.table.now in
    let new = c.triple_groupings.new.table in
    subst (λ (v : List (ℕ × ℕ × ℕ)). HasCanon new.levels c.in_ok-head.head c.args.f.level (zip3 (pattern_of old c.args.f) (pattern_of old c.args.g) (pattern_of old c.args.h)) v) (sym c.in_ok-triples.ensures) c.in_ok-head.ensures.tripled.triples

pub returns-clause-parts : goal.returns-clause-parts
returns-clause-parts g c =
    let q = c.in_ok-head.ensures in
    sub_in c.triple_groupings.new.table.levels q.good c.in_ok-head.head.level c.in_ok-head.head.at q.tripled.triples.there

pub returns-clause-patterns : goal.returns-clause-patterns
returns-clause-patterns g c = pattern_kept c.args.table.now.levels c.triple_groupings.new.table.levels c.law.ensures.good c.in_ok-head.ensures.extends

pub returns-in_err-head-clause-patterns : goal.returns-in_err-head-clause-patterns
returns-in_err-head-clause-patterns g c = pattern_kept c.args.table.now.levels c.triple_groupings.new.table.levels c.law.ensures.good c.in_err-head.ensures.extends

pub returns-in_err-triples-clause-patterns : goal.returns-in_err-triples-clause-patterns
returns-in_err-triples-clause-patterns g c = pattern_kept c.args.table.now.levels c.triple_groupings.new.table.levels c.law.ensures.good c.in_ok-head.ensures.extends
