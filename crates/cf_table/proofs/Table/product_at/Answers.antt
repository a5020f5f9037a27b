use Rattle.std.proofs.Common.{Option, Bor, IfSome, option_map, length, sym, ◌∙◌, ap, subst, arith}
use Rattle.std.specs.List.{slice_get}
use Rattle.std.specs.Map.Iter.{deref_pair}
use Rattle.std.proofs.lemmas.List.{length-map}
use Rattle.cf_table.specs.declared.Operands.{Operands}
use Rattle.cf_table.specs.declared.Product.{Product}
use Rattle.cf_table.specs.Groupings.{Groupings, IsProductOf, patterns_of}
use Rattle.cf_table.specs.Kept.{shown_levels}
use Rattle.cf_table.proofs.Products.{product_shown}
use Rattle.cf_table.proofs.Table.product_at.Goals as goal

pub unwrap-requires : goal.unwrap-requires
unwrap-requires c =
    let t = shown_levels c.self.inside.levels c.self.inside.book in
    let es = c.self.inside.products.entries in
    c.get_index.ensures.found.1 (omega (arith, c.requires, ap (λ (t : Groupings). length t.products) c.self.view_is, length-map es (λ (e : Operands × Product). patterns_of t e.0.left e.0.right)))

pub returns : goal.returns
returns c =
    let r = c.unwrap.result in
    subst (λ (t : Groupings). IfSome (slice_get t.products c.args.place) (λ k. IsProductOf t.levels k r.1.now.head r.1.now.pairs.items)) c.self.view_is
    (product_shown (shown_levels c.self.inside.levels c.self.inside.book) c.self.inside.products.entries c.self.invariant.products c.args.place (r.0.now, r.1.now)
    (sym c.get_index.ensures.entry ∙ ap (λ (o : Option (Bor Operands × Bor Product)). option_map deref_pair o) c.unwrap.ensures))
