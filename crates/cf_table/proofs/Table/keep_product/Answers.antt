use Rattle.std.proofs.Common.{◌≡◌, List, [], ◌∷◌, ◌++◌, length, sym, ◌∙◌, ap, subst}
use Rattle.std.proofs.lemmas.List.{map_push, length-map}
use Rattle.cf_model.specs.Renumbering.{IsNew}
use Rattle.cf_model.specs.Diagrams.{Levels}
use Rattle.indexmap.proofs.CallerLemmas.{insert_entry-new}
use Rattle.cf_table.specs.declared.Operands.{Operands}
use Rattle.cf_table.specs.declared.Product.{Product}
use Rattle.cf_table.specs.Groupings.{Groupings, IsProduct, patterns_of}
use Rattle.cf_table.specs.Kept.{shown_levels, shown_products, HoldsProducts}
use Rattle.cf_table.proofs.Products.{same, key, not_found, pushed_product}
use Rattle.cf_table.proofs.Table.keep_product.Goals as goal

abbrev value : goal.Joined-branch-2 → Product
value c = record { head = c.args.head; pairs = c.args.pairs }

abbrev levels : goal.Joined-branch-2 → Levels
levels c = shown_levels c.self.inside.levels c.self.inside.book

new : (c : goal.Joined-branch-2) → IsNew (shown_products (levels c) c.self.inside.products.entries) (patterns_of (levels c) c.args.g c.args.h)
new c = subst (λ (t : Groupings). IsNew t.products (patterns_of t.levels c.args.g c.args.h)) (sym c.self.view_is) c.requires.new

entries : (c : goal.Joined-branch-2) → c.insert.new.self.entries ≡ c.self.inside.products.entries ++ (key c.args.g c.args.h, value c) ∷ []
entries c = c.in_ok-insert.ensures.entries ∙ insert_entry-new same c.self.inside.products (key c.args.g c.args.h) (value c) (not_found (levels c) c.self.inside.products.entries c.args.g c.args.h (new c))

pub invariant_of-self-2 : goal.invariant_of-self-2
invariant_of-self-2 c = record {
  groupings = c.self.invariant.groupings;
  products = subst (λ (es : List (Operands × Product)). HoldsProducts (levels c) es) (sym (entries c))
      (pushed_product (levels c) c.self.inside.products.entries c.args.g c.args.h (value c) c.self.invariant.products
      (subst (λ (t : Groupings). IsProduct t.levels c.args.g c.args.h c.args.head c.args.pairs.items) (sym c.self.view_is) c.requires.product)
      (new c));
  triples = c.self.invariant.triples;
  reductions = c.self.invariant.reductions;
}

pub returns-clause-kept : goal.returns-clause-kept
returns-clause-kept c =
    ap (λ (es : List (Operands × Product)). shown_products (levels c) es) (entries c)
    ∙ map_push (λ (e : Operands × Product). patterns_of (levels c) e.0.left e.0.right) c.self.inside.products.entries (key c.args.g c.args.h, value c)
    ∙ ap (λ (t : Groupings). t.products ++ patterns_of t.levels c.args.g c.args.h ∷ []) c.self.view_is

pub returns-clause-place : goal.returns-clause-place
returns-clause-place c =
    c.len-place.ensures.len ∙ sym (length-map c.self.inside.products.entries (λ (e : Operands × Product). patterns_of (levels c) e.0.left e.0.right)) ∙ ap (λ (t : Groupings). length t.products) c.self.view_is
