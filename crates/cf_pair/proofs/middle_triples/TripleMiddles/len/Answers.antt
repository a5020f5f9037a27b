use Rattle.std.proofs.Common.{length, sym, ◌∙◌, ap, subst, arith}
use Rattle.std.proofs.lemmas.List.{length-map}
use Rattle.cf_pair.specs.declared.middle_triples.TripleMiddles.{TripleMiddles}
use Rattle.cf_pair.specs.Products.{pairs_at}
use Rattle.cf_pair.specs.Triples.{zero_put, triples_at, IsTriplePlace}
use Rattle.cf_pair.proofs.TriplePlaces.{stand_at}
use Rattle.cf_pair.proofs.middle_triples.TripleMiddles.len.Goals as goal

pub returns-in-DontCare : goal.returns-in-DontCare
returns-in-DontCare c = ap (λ (m : TripleMiddles). length (triples_at c.args.table.now m)) (sym c.in-DontCare.is)

pub returns-in-Fork : goal.returns-in-Fork
returns-in-Fork c = ap (λ (m : TripleMiddles). length (triples_at c.args.table.now m)) (sym c.in-Fork.is)

pub len-requires : goal.len-requires
len-requires c = subst (IsTriplePlace c.args.table.now) c.in-Beside.is c.requires

pub returns-in-Beside : goal.returns-in-Beside
returns-in-Beside c =
    let t = c.args.table.now in
    c.len.ensures ∙ sym (length-map (pairs_at t.products c.in-Beside.pairs) (zero_put c.in-Beside.field-0)) ∙ ap (λ (m : TripleMiddles). length (triples_at t m)) (sym c.in-Beside.is)

pub triple_at-requires : goal.triple_at-requires
triple_at-requires c = subst (IsTriplePlace c.args.table.now) c.in-Kept.is c.requires

pub returns-in-Kept : goal.returns-in-Kept
returns-in-Kept c =
    let t = c.args.table.now in
    let r = c.triple_at.result.now in
    let here = subst (IsTriplePlace t) c.in-Kept.is c.requires in
    omega (arith, c.len-in-Kept.ensures, r.triples.ok, ap length (stand_at t c.in-Kept.place r.head r.triples.items here c.triple_at.ensures), ap (λ (m : TripleMiddles). length (triples_at t m)) c.in-Kept.is)
