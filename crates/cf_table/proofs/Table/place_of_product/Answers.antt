use Rattle.std.proofs.Common.{◌≡◌, ◌<◌, Some, sym, subst, MatchOption}
use Rattle.std.specs.List.{slice_get}
use Rattle.cf_model.specs.Renumbering.{IsNew}
use Rattle.cf_model.specs.Diagrams.{count}
use Rattle.cf_table.specs.Groupings.{Groupings, patterns_of}
use Rattle.cf_table.specs.Kept.{shown_levels}
use Rattle.cf_table.proofs.Products.{placed}
use Rattle.cf_table.proofs.Table.place_of_product.Goals as goal

pub returns : goal.returns
returns c =
    let g = c.args.g in
    let h = c.args.h in
    subst (λ (t : Groupings). MatchOption c.get_index_of.result (IsNew t.products (patterns_of t.levels g h)) (λ i. slice_get t.products i ≡ Some (patterns_of t.levels g h))) c.self.view_is
    (placed (shown_levels c.self.inside.levels c.self.inside.book) c.self.invariant.groupings.good c.self.inside.products.entries c.self.invariant.products g h
    (subst (λ (t : Groupings). g.at < count t.levels g.level) (sym c.self.view_is) c.requires.first) (subst (λ (t : Groupings). h.at < count t.levels h.level) (sym c.self.view_is) c.requires.second) c.get_index_of.result c.get_index_of.ensures.index c.get_index_of.ensures.found)
