use Rattle.std.proofs.Common.{◌∙◌, ap, sym, subst}
use Rattle.cf_table.specs.Groupings.{Groupings}
use Rattle.cf_model.specs.Diagrams.{Levels}
use Rattle.cf_table.specs.Kept.{shown_products, shown_triples, HoldsProducts, HoldsTriples, Each, KeepsReduction}
use Rattle.cf_table.proofs.Shown.{shown_by_longer, holds_longer}
use Rattle.cf_table.proofs.Table.intern_tuple.Goals as goal

pub invariant_of-self : goal.invariant_of-self
invariant_of-self c = record {
  groupings = holds_longer c.self.inside.levels c.self.inside.book c.intern.new.self c.self.invariant.groupings c.intern.ensures.kept c.intern.ensures.differ;
  products = subst (λ (t : Levels). HoldsProducts t c.self.inside.products.entries) (sym (shown_by_longer c.self.inside.levels c.self.inside.book c.intern.new.self c.self.invariant.groupings c.intern.ensures.kept)) c.self.invariant.products;
  triples = subst (λ (t : Levels). HoldsTriples t c.self.inside.triples.entries) (sym (shown_by_longer c.self.inside.levels c.self.inside.book c.intern.new.self c.self.invariant.groupings c.intern.ensures.kept)) c.self.invariant.triples;
  reductions = subst (λ (t : Levels). Each (KeepsReduction t) c.self.inside.reductions.entries) (sym (shown_by_longer c.self.inside.levels c.self.inside.book c.intern.new.self c.self.invariant.groupings c.intern.ensures.kept)) c.self.invariant.reductions;
}

pub returns-clause-levels : goal.returns-clause-levels
returns-clause-levels c = shown_by_longer c.self.inside.levels c.self.inside.book c.intern.new.self c.self.invariant.groupings c.intern.ensures.kept ∙ ap (λ (t : Groupings). t.levels) c.self.view_is

pub returns-clause-products : goal.returns-clause-products
returns-clause-products c = ap (λ (t : Levels). shown_products t c.self.inside.products.entries) (shown_by_longer c.self.inside.levels c.self.inside.book c.intern.new.self c.self.invariant.groupings c.intern.ensures.kept) ∙ ap (λ (t : Groupings). t.products) c.self.view_is

pub returns-clause-triples : goal.returns-clause-triples
returns-clause-triples c = ap (λ (t : Levels). shown_triples t c.self.inside.triples.entries) (shown_by_longer c.self.inside.levels c.self.inside.book c.intern.new.self c.self.invariant.groupings c.intern.ensures.kept) ∙ ap (λ (t : Groupings). t.triples) c.self.view_is
