use Rattle.std.proofs.Common.{◌<◌, sym, subst, MatchOption}
use Rattle.cf_model.specs.Renumbering.{IsNew}
use Rattle.cf_model.specs.Diagrams.{count}
use Rattle.cf_table.specs.Groupings.{Groupings, three_patterns_of}
use Rattle.cf_table.specs.Triples.{IsTriple}
use Rattle.cf_table.specs.Kept.{shown_levels}
use Rattle.cf_table.proofs.Triples.{looked_up}
use Rattle.cf_table.proofs.Table.triple_of.Goals as goal

pub returns : goal.returns
returns c =
    let f = c.args.f in
    let g = c.args.g in
    let h = c.args.h in
    subst (λ (t : Groupings). MatchOption c.get.result (IsNew t.triples (three_patterns_of t.levels f g h)) (λ r. IsTriple t.levels f g h r.now.head r.now.triples.items)) c.self.view_is
    (looked_up (shown_levels c.self.inside.levels c.self.inside.book) c.self.invariant.groupings.good c.self.inside.triples.entries c.self.invariant.triples f g h
    (subst (λ (t : Groupings). f.at < count t.levels f.level) (sym c.self.view_is) c.requires.first) (subst (λ (t : Groupings). g.at < count t.levels g.level) (sym c.self.view_is) c.requires.second)
    (subst (λ (t : Groupings). h.at < count t.levels h.level) (sym c.self.view_is) c.requires.third) c.get.result c.get.ensures.value)
