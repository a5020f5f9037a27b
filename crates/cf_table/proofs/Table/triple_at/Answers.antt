use Rattle.std.proofs.Common.{Option, Bor, IfSome, option_map, length, sym, ◌∙◌, ap, subst, arith}
use Rattle.std.specs.List.{slice_get}
use Rattle.std.specs.Map.Iter.{deref_pair}
use Rattle.std.proofs.lemmas.List.{length-map}
use Rattle.cf_table.specs.declared.ThreeOperands.{ThreeOperands}
use Rattle.cf_table.specs.declared.TripleProduct.{TripleProduct}
use Rattle.cf_table.specs.Groupings.{Groupings, three_patterns_of}
use Rattle.cf_table.specs.Triples.{IsTripleOf}
use Rattle.cf_table.specs.Kept.{shown_levels}
use Rattle.cf_table.proofs.Triples.{triple_shown}
use Rattle.cf_table.proofs.Table.triple_at.Goals as goal

pub unwrap-requires : goal.unwrap-requires
unwrap-requires c =
    let t = shown_levels c.self.inside.levels c.self.inside.book in
    let es = c.self.inside.triples.entries in
    c.get_index.ensures.found.1 (omega (arith, c.requires, ap (λ (t : Groupings). length t.triples) c.self.view_is, length-map es (λ (e : ThreeOperands × TripleProduct). three_patterns_of t e.0.first e.0.second e.0.third)))

pub returns : goal.returns
returns c =
    let r = c.unwrap.result in
    subst (λ (t : Groupings). IfSome (slice_get t.triples c.args.place) (λ k. IsTripleOf t.levels k r.1.now.head r.1.now.triples.items)) c.self.view_is
    (triple_shown (shown_levels c.self.inside.levels c.self.inside.book) c.self.inside.triples.entries c.self.invariant.triples c.args.place (r.0.now, r.1.now)
    (sym c.get_index.ensures.entry ∙ ap (λ (o : Option (Bor ThreeOperands × Bor TripleProduct)). option_map deref_pair o) c.unwrap.ensures))
