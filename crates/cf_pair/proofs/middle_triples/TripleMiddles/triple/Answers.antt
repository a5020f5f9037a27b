use Rattle.std.proofs.Common.{ℕ, ◌<◌, List, length, get_or, sym, ◌∙◌, ap, subst, arith}
use Rattle.std.proofs.lemmas.List.{get_or_default, get_or-map, length-map}
use Rattle.cf_pair.specs.declared.middle_triples.TripleMiddles.{TripleMiddles}
use Rattle.cf_pair.specs.Products.{pairs_at}
use Rattle.cf_pair.specs.Triples.{zero_put, triples_at, IsTriplePlace}
use Rattle.cf_pair.proofs.TriplePlaces.{stand_at}
use Rattle.cf_pair.proofs.middle_triples.TripleMiddles.triple.Goals as goal

pub pair-requires : goal.pair-requires
pair-requires c =
    let t = c.args.table.now in
    let ps = pairs_at t.products c.in-Beside.pairs in
    record {
      place = subst (IsTriplePlace t) c.in-Beside.is c.requires.place;
      within = omega (arith, c.requires.within, ap (λ (m : TripleMiddles). length (triples_at t m)) c.in-Beside.is, length-map ps (zero_put c.in-Beside.place));
    }

pub returns-in-Beside : goal.returns-in-Beside
returns-in-Beside c =
    let t = c.args.table.now in
    let ps = pairs_at t.products c.in-Beside.pairs in
    let i = c.args.number in
    let put = zero_put c.in-Beside.place in
    let lt : i < length ps = omega (arith, c.requires.within, ap (λ (m : TripleMiddles). length (triples_at t m)) c.in-Beside.is, length-map ps put) in
    c.with_zero.ensures ∙ ap put c.pair.ensures ∙ sym (get_or-map put ps i (0, 0) (0, 0, 0) lt) ∙ ap (λ (m : TripleMiddles). get_or (triples_at t m) i (0, 0, 0)) (sym c.in-Beside.is)

pub triple_at-requires : goal.triple_at-requires
triple_at-requires c = subst (IsTriplePlace c.args.table.now) c.in-Kept.is c.requires.place

pub index-requires : goal.index-requires
index-requires c =
    let t = c.args.table.now in
    let r = c.triple_at.result.now in
    let here = subst (IsTriplePlace t) c.in-Kept.is c.requires.place in
    omega (arith, c.requires.within, r.triples.ok, ap length (stand_at t c.in-Kept.place r.head r.triples.items here c.triple_at.ensures), ap (λ (m : TripleMiddles). length (triples_at t m)) c.in-Kept.is)

pub returns-in-Kept : goal.returns-in-Kept
returns-in-Kept c =
    let t = c.args.table.now in
    let r = c.triple_at.result.now in
    let here = subst (IsTriplePlace t) c.in-Kept.is c.requires.place in
    let same = stand_at t c.in-Kept.place r.head r.triples.items here c.triple_at.ensures ∙ ap (triples_at t) (sym c.in-Kept.is) in
    let x = c.index.result.now in
    c.index.ensures ∙ ap (λ (v : List (ℕ × ℕ × ℕ)). get_or v c.args.number x) same ∙ get_or_default (triples_at t c.args.self) c.args.number x (0, 0, 0) c.requires.within
