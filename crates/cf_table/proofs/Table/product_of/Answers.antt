use Rattle.std.proofs.Common.{◌<◌, sym, subst, MatchOption}
use Rattle.cf_model.specs.Renumbering.{IsNew}
use Rattle.cf_model.specs.Diagrams.{count}
use Rattle.cf_table.specs.Groupings.{Groupings, IsProduct, patterns_of}
use Rattle.cf_table.specs.Kept.{shown_levels}
use Rattle.cf_table.proofs.Products.{looked_up}
use Rattle.cf_table.proofs.Table.product_of.Goals as goal

pub returns : goal.returns
returns c =
    let g = c.args.g in
    let h = c.args.h in
    subst (λ (t : Groupings). MatchOption c.get.result (IsNew t.products (patterns_of t.levels g h)) (λ r. IsProduct t.levels g h r.now.head r.now.pairs.items)) c.self.view_is
    (looked_up (shown_levels c.self.inside.levels c.self.inside.book) c.self.invariant.groupings.good c.self.inside.products.entries c.self.invariant.products g h
    (subst (λ (t : Groupings). g.at < count t.levels g.level) (sym c.self.view_is) c.requires.first) (subst (λ (t : Groupings). h.at < count t.levels h.level) (sym c.self.view_is) c.requires.second) c.get.result c.get.ensures.value)
