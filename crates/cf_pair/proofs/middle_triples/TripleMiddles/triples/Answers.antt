use Rattle.std.proofs.Common.{ℕ, ◌<◌, List, [], ◌∷◌, ◌++◌, take, length, sym, ◌∙◌, ap, subst, arith}
use Rattle.std.proofs.lemmas.List.{take_more}
use Rattle.cf_pair.specs.Triples.{triples_at, IsTriplePlace}
use Rattle.cf_build.proofs.Turns.{if_ok}
use Rattle.cf_pair.proofs.TriplePlaces.{stand_at}
use Rattle.cf_pair.proofs.middle_triples.TripleMiddles.triples.Goals as goal

pub triple_at-requires : goal.triple_at-requires
triple_at-requires c = subst (IsTriplePlace c.args.table.now) c.in-Kept.is c.requires

pub returns-in-Kept : goal.returns-in-Kept
returns-in-Kept c =
    let t = c.args.table.now in
    let r = c.triple_at.result.now in
    let here = subst (IsTriplePlace t) c.in-Kept.is c.requires in
    let same = stand_at t c.in-Kept.place r.head r.triples.items here c.triple_at.ensures ∙ ap (triples_at t) (sym c.in-Kept.is) in
    if_ok c.from_slice.result _ _ c.from_slice.ensures.items (λ v e. e ∙ c.as_slice.ensures.value ∙ same)

pub loop-number-preserved : goal.loop-number-preserved
loop-number-preserved c =
    let ts = triples_at c.args.table.now c.args.self in
    let i = c.loop-number.number in
    let lt : i < length ts = omega (arith, c.loop-number-test.true, c.len-count.ensures) in
    c.in_ok-push.ensures.items ∙ ap (λ (v : List (ℕ × ℕ × ℕ)). v ++ c.triple.result ∷ []) c.loop-number.invariant ∙ ap (λ (t : ℕ × ℕ × ℕ). take i ts ++ t ∷ []) c.triple.ensures
    ∙ sym (take_more ts i (0, 0, 0) lt)
