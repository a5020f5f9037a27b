use Rattle.std.proofs.Common.{◌≡◌, ℕ, ◌<◌, List, [], ◌∷◌, ◌++◌, map, length, sym, ◌∙◌, ap, subst, arith}
use Rattle.std.specs.List.{All}
use Rattle.std.proofs.lemmas.Result.{on_ok_weaker}
use Rattle.cf_pair.specs.Products.{returned3}
use Rattle.cf_pair.specs.Triples.{triples_at, IsTriplePlace}
use Rattle.cf_pair.proofs.Pushing.{begun_more, with_begun}
use Rattle.cf_pair.proofs.TriplePlaces.{stand_at}
use Rattle.cf_pair.proofs.Zips.{Three}
use Rattle.cf_pair.proofs.tripling.push_middles.Goals as goal

pub triple_at-requires : goal.triple_at-requires
triple_at-requires c = subst (IsTriplePlace c.args.table.now) c.in-Kept.is c.requires.place

pub push_triples-requires : goal.push_triples-requires
push_triples-requires c =
    let t = c.args.table.now in
    let r = c.triple_at.result.now in
    let here = subst (IsTriplePlace t) c.in-Kept.is c.requires.place in
    let same : c.as_slice-triples.result.now ≡ triples_at t c.args.middles = c.as_slice-triples.ensures.value ∙ stand_at t c.in-Kept.place r.head r.triples.items here c.triple_at.ensures ∙ ap (triples_at t) (sym c.in-Kept.is) in
    record { within = subst (λ (v : List (ℕ × ℕ × ℕ)). All (Three (length c.args.left.now) (length c.args.middle.now) (length c.args.right.now)) v) (sym same) c.requires.within }

pub returns-in-Kept : goal.returns-in-Kept
returns-in-Kept c =
    let t = c.args.table.now in
    let r = c.triple_at.result.now in
    let here = subst (IsTriplePlace t) c.in-Kept.is c.requires.place in
    let same : c.as_slice-triples.result.now ≡ triples_at t c.args.middles = c.as_slice-triples.ensures.value ∙ stand_at t c.in-Kept.place r.head r.triples.items here c.triple_at.ensures ∙ ap (triples_at t) (sym c.in-Kept.is) in
    let f = returned3 c.args.left.now c.args.middle.now c.args.right.now in
    on_ok_weaker c.push_triples.result (λ e. e ∙ ap (λ (v : List (ℕ × ℕ × ℕ)). with_begun c.args.rows.now.rows (c.args.rows.now.begun ++ map f v)) same) c.push_triples.ensures

pub loop-i-preserved : goal.loop-i-preserved
loop-i-preserved c =
    let ts = triples_at c.args.table.now c.args.middles in
    let f = returned3 c.args.left.now c.args.middle.now c.args.right.now in
    let i = c.loop-i.i in
    let lt : i < length ts = omega (arith, c.loop-i-test.true, c.len-i-end.ensures) in
    begun_more f ts i (0, 0, 0) c.args.rows.now c.loop-i.rows c.push_label.new.self lt c.loop-i.invariant
    (c.in_ok-push_label.ensures.pushed ∙ ap (λ (x : ℕ × ℕ × ℕ). with_begun c.loop-i.rows.rows (c.loop-i.rows.begun ++ f x ∷ [])) c.triple-triple.ensures)
