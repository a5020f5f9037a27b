use Rattle.std.proofs.Common.{◌≡◌, refl, ℕ, List, length, map, ◌∙◌, ap, subst, arith}
use Rattle.std.specs.List.{zip}
use Rattle.std.proofs.lemmas.Result.{on_ok_weaker}
use Rattle.cf_model.specs.Diagrams.{pattern}
use Rattle.cf_table.specs.Groupings.{connection_of}
use Rattle.cf_build.specs.Assembling.{HasCanon}
use Rattle.cf_pair.specs.Products.{returned2, row_pairs, IsReturned}
use Rattle.cf_pair.proofs.Pairs.{pairs_in, pair_lists}
use Rattle.cf_pair.proofs.Pushing.{gains}
use Rattle.cf_pair.proofs.pairing.push_returned.Goals as goal

pub push_pairs-requires : goal.push_pairs-requires
push_pairs-requires c =
    let t = c.args.table.now in
    let l = c.args.b.«to».level in
    let b = connection_of t.tuples c.args.b in
    let d = connection_of t.tuples c.args.c in
    let p : HasCanon t.levels c.args.«to» l (zip (pattern t.levels l b.callee) (pattern t.levels l d.callee)) c.args.pairs.now =
    subst (λ (m : ℕ). HasCanon t.levels c.args.«to» l (zip (pattern t.levels l b.callee) (pattern t.levels m d.callee)) c.args.pairs.now) c.requires.second.over.level c.requires.product in
    record {
      within = λ j x lj. (let r = pairs_in t.levels c.requires.good l b d c.requires.first.good c.requires.second.good (pattern t.levels c.args.«to».level c.args.«to».at) c.args.pairs.now p.canon j x lj in
          (omega (arith, r.0, ap length c.tuple.ensures), omega (arith, r.1, ap length c.tuple-2.ensures)));
    }

pub returns : goal.returns
returns c =
    let t = c.args.table.now in
    let l = c.args.b.«to».level in
    let b = connection_of t.tuples c.args.b in
    let d = connection_of t.tuples c.args.c in
    let ps = c.args.pairs.now in
    let labels = map (returned2 c.tuple.result.now c.tuple-2.result.now) ps in
    let p : HasCanon t.levels c.args.«to» l (zip (pattern t.levels l b.callee) (pattern t.levels l d.callee)) ps =
    subst (λ (m : ℕ). HasCanon t.levels c.args.«to» l (zip (pattern t.levels l b.callee) (pattern t.levels m d.callee)) ps) c.requires.second.over.level c.requires.product in
    let said : labels ≡ map (returned2 b.returns d.returns) ps = ap (λ (v : List ℕ). map (returned2 v c.tuple-2.result.now) ps) c.tuple.ensures ∙ ap (λ (v : List ℕ). map (returned2 b.returns v) ps) c.tuple-2.ensures in
    on_ok_weaker c.end_row.result (λ e. gains (IsReturned t.levels c.args.«to» l (row_pairs t c.args.b c.args.c)) c.args.rows.now c.push_pairs.new.rows c.end_row.new.self c.args.«to» labels c.requires.ended c.in_ok-push_pairs.ensures e
    (record { head = refl; lists = pair_lists t.levels t.levels c.requires.good c.requires.good l b d c.requires.first.good c.requires.second.good c.args.«to» ps labels p said })) c.end_row.ensures.ended
