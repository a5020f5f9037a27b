use Rattle.std.proofs.Common.{◌≡◌, refl, ℕ, List, length, map, ◌∙◌, ap, subst, arith}
use Rattle.std.proofs.lemmas.Result.{on_ok_weaker}
use Rattle.cf_model.specs.Diagrams.{pattern}
use Rattle.cf_table.specs.Groupings.{connection_of}
use Rattle.cf_table.specs.Triples.{zip3}
use Rattle.cf_build.specs.Assembling.{HasCanon}
use Rattle.cf_pair.specs.Products.{returned3, IsReturned}
use Rattle.cf_pair.specs.Triples.{row_triples, triples_at}
use Rattle.cf_pair.proofs.Triples.{triples_in, triple_lists}
use Rattle.cf_pair.proofs.Pushing.{gains}
use Rattle.cf_pair.proofs.tripling.push_returned.Goals as goal

pub push_middles-requires : goal.push_middles-requires
push_middles-requires c =
    let t = c.args.table.now in
    let l = c.args.x.«to».level in
    let x = connection_of t.tuples c.args.x in
    let y = connection_of t.tuples c.args.y in
    let z = connection_of t.tuples c.args.z in
    let e = c.args.«to» in
    let ts = triples_at t c.args.middles in
    let p : HasCanon t.levels e l (zip3 (pattern t.levels l x.callee) (pattern t.levels l y.callee) (pattern t.levels l z.callee)) ts =
    subst (λ (m : ℕ). HasCanon t.levels e l (zip3 (pattern t.levels l x.callee) (pattern t.levels l y.callee) (pattern t.levels m z.callee)) ts) c.requires.third.over.level
    (subst (λ (m : ℕ). HasCanon t.levels e l (zip3 (pattern t.levels l x.callee) (pattern t.levels m y.callee) (pattern t.levels c.args.z.«to».level z.callee)) ts) c.requires.second.over.level c.requires.product.triples) in
    record {
      place = c.requires.product.there;
      within = λ j d lj. (let r = triples_in t.levels c.requires.good l x y z c.requires.first.good c.requires.second.good c.requires.third.good (pattern t.levels e.level e.at) ts p.canon j d lj in
          (omega (arith, r.0, ap length c.tuple.ensures), omega (arith, r.1, ap length c.tuple-2.ensures), omega (arith, r.2, ap length c.tuple-3.ensures)));
    }

pub returns : goal.returns
returns c =
    let t = c.args.table.now in
    let l = c.args.x.«to».level in
    let x = connection_of t.tuples c.args.x in
    let y = connection_of t.tuples c.args.y in
    let z = connection_of t.tuples c.args.z in
    let e = c.args.«to» in
    let ts = triples_at t c.args.middles in
    let p : HasCanon t.levels e l (zip3 (pattern t.levels l x.callee) (pattern t.levels l y.callee) (pattern t.levels l z.callee)) ts =
    subst (λ (m : ℕ). HasCanon t.levels e l (zip3 (pattern t.levels l x.callee) (pattern t.levels l y.callee) (pattern t.levels m z.callee)) ts) c.requires.third.over.level
    (subst (λ (m : ℕ). HasCanon t.levels e l (zip3 (pattern t.levels l x.callee) (pattern t.levels m y.callee) (pattern t.levels c.args.z.«to».level z.callee)) ts) c.requires.second.over.level c.requires.product.triples) in
    let labels = map (returned3 c.tuple.result.now c.tuple-2.result.now c.tuple-3.result.now) ts in
    let said : labels ≡ map (returned3 x.returns y.returns z.returns) ts =
    ap (λ (v : List ℕ). map (returned3 v c.tuple-2.result.now c.tuple-3.result.now) ts) c.tuple.ensures ∙ ap (λ (v : List ℕ). map (returned3 x.returns v c.tuple-3.result.now) ts) c.tuple-2.ensures
    ∙ ap (λ (v : List ℕ). map (returned3 x.returns y.returns v) ts) c.tuple-3.ensures in
    on_ok_weaker c.end_row.result
    (λ k. gains (IsReturned t.levels e l (row_triples t c.args.x c.args.y c.args.z)) c.args.rows.now c.push_middles.new.rows c.end_row.new.self e labels c.requires.ended c.in_ok-push_middles.ensures k
    (record { head = refl; lists = triple_lists t.levels t.levels c.requires.good c.requires.good l x y z c.requires.first.good c.requires.second.good c.requires.third.good e ts labels p said })) c.end_row.ensures.ended
