use Rattle.std.proofs.Common.{◌≡◌, List, [], ◌∷◌, ◌++◌, length, sym, ◌∙◌, ap, subst}
use Rattle.std.proofs.lemmas.List.{map_push, length-map}
use Rattle.cf_model.specs.Renumbering.{IsNew}
use Rattle.cf_model.specs.Diagrams.{Levels}
use Rattle.indexmap.proofs.CallerLemmas.{insert_entry-new}
use Rattle.cf_table.specs.declared.ThreeOperands.{ThreeOperands}
use Rattle.cf_table.specs.declared.TripleProduct.{TripleProduct}
use Rattle.cf_table.specs.Groupings.{Groupings, three_patterns_of}
use Rattle.cf_table.specs.Triples.{IsTriple}
use Rattle.cf_table.specs.Kept.{shown_levels, shown_triples, HoldsTriples}
use Rattle.cf_table.proofs.Triples.{same, key, not_found, pushed_triple}
use Rattle.cf_table.proofs.Table.keep_triple.Goals as goal

abbrev value : goal.Joined-branch-2 → TripleProduct
value c = record { head = c.args.head; triples = c.args.triples }

abbrev levels : goal.Joined-branch-2 → Levels
levels c = shown_levels c.self.inside.levels c.self.inside.book

new : (c : goal.Joined-branch-2) → IsNew (shown_triples (levels c) c.self.inside.triples.entries) (three_patterns_of (levels c) c.args.f c.args.g c.args.h)
new c = subst (λ (t : Groupings). IsNew t.triples (three_patterns_of t.levels c.args.f c.args.g c.args.h)) (sym c.self.view_is) c.requires.new

entries : (c : goal.Joined-branch-2) → c.insert.new.self.entries ≡ c.self.inside.triples.entries ++ (key c.args.f c.args.g c.args.h, value c) ∷ []
entries c =
    c.in_ok-insert.ensures.entries
    ∙ insert_entry-new same c.self.inside.triples (key c.args.f c.args.g c.args.h) (value c) (not_found (levels c) c.self.inside.triples.entries c.args.f c.args.g c.args.h (new c))

pub invariant_of-self-2 : goal.invariant_of-self-2
invariant_of-self-2 c = record {
  groupings = c.self.invariant.groupings;
  products = c.self.invariant.products;
  triples = subst (λ (es : List (ThreeOperands × TripleProduct)). HoldsTriples (levels c) es) (sym (entries c))
      (pushed_triple (levels c) c.self.inside.triples.entries c.args.f c.args.g c.args.h (value c) c.self.invariant.triples
      (subst (λ (t : Groupings). IsTriple t.levels c.args.f c.args.g c.args.h c.args.head c.args.triples.items) (sym c.self.view_is) c.requires.product)
      (new c));
  reductions = c.self.invariant.reductions;
}

pub returns-clause-kept : goal.returns-clause-kept
returns-clause-kept c =
    ap (λ (es : List (ThreeOperands × TripleProduct)). shown_triples (levels c) es) (entries c)
    ∙ map_push (λ (e : ThreeOperands × TripleProduct). three_patterns_of (levels c) e.0.first e.0.second e.0.third) c.self.inside.triples.entries (key c.args.f c.args.g c.args.h, value c)
    ∙ ap (λ (t : Groupings). t.triples ++ three_patterns_of t.levels c.args.f c.args.g c.args.h ∷ []) c.self.view_is

pub returns-clause-place : goal.returns-clause-place
returns-clause-place c =
    c.len-place.ensures.len ∙ sym (length-map c.self.inside.triples.entries (λ (e : ThreeOperands × TripleProduct). three_patterns_of (levels c) e.0.first e.0.second e.0.third))
    ∙ ap (λ (t : Groupings). length t.triples) c.self.view_is
