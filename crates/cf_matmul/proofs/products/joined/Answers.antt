use Rattle.std.proofs.Common.{◌≡◌, ℕ, List, [], length, map, get_or, refl, sym, ◌∙◌, ap, subst, arith}
use Rattle.std.specs.Prelude.{All}
use Rattle.std.specs.List.{zip}
use Rattle.std.proofs.lemmas.List.{length-map}
use Rattle.cf_model.specs.Renumbering.{IsCanon}
use Rattle.cf_model.specs.Diagrams.{pattern}
use Rattle.cf_build.specs.Assembling.{HasCanon, listed}
use Rattle.cf_pair.proofs.Zips.{Both}
use Rattle.cf_comb.specs.declared.CombId.{CombId}
use Rattle.cf_comb.specs.CombBooks.{sum_of}
use Rattle.cf_matmul.specs.Symbolic.{sums_of, added_at}
use Rattle.cf_matmul.proofs.JoinLaws.{join_rows, pairs_range}
use Rattle.cf_matmul.proofs.products.joined.Goals as goal

abbrev Range : (c : goal.After-as_slice-3) → Type 0
Range c = All (Both (length (sums_of c.args.book.now c.args.x.now.1.items)) (length (sums_of c.args.book.now c.args.y.now.1.items))) c.as_slice-3.result.now

range : (c : goal.After-as_slice-3) → Range c
range c =
    let t = c.args.table.now.levels in
    let x = listed c.args.x.now in
    let y = listed c.args.y.now in
    let e = c.in_ok-to.«to» in
    let h = c.in_ok-to.ensures.paired in
    let canon : IsCanon (zip (pattern t x.0.level x.0.at) (pattern t x.0.level y.0.at)) (pattern c.pair_uncounted.new.table.levels e.level e.at) c.as_slice-3.result.now =
    subst (λ (v : List (ℕ × ℕ)). IsCanon (zip (pattern t x.0.level x.0.at) (pattern t x.0.level y.0.at)) (pattern c.pair_uncounted.new.table.levels e.level e.at) v) (sym c.as_slice-3.ensures.value)
    (subst (λ (m : ℕ). IsCanon (zip (pattern t x.0.level x.0.at) (pattern t m y.0.at)) (pattern c.pair_uncounted.new.table.levels e.level e.at) c.in_ok-to.pairs.items) c.requires.levels h.canon) in
    pairs_range t c.requires.good c.args.book.now x.0.level x y (pattern c.pair_uncounted.new.table.levels e.level e.at) c.as_slice-3.result.now c.requires.first c.requires.second canon

pub added_sums-requires-clause-within : goal.added_sums-requires-clause-within
added_sums-requires-clause-within c k d lk =
    let r = range c k d lk in
    let ex : c.as_slice.result.now ≡ c.args.x.now.1.items = c.as_slice.ensures.value in
    let ey : c.as_slice-2.result.now ≡ c.args.y.now.1.items = c.as_slice-2.ensures.value in
    (omega (arith, r.0, ap length ex, length-map c.args.x.now.1.items (sum_of c.args.book.now)), omega (arith, r.1, ap length ey, length-map c.args.y.now.1.items (sum_of c.args.book.now)))

pub added_sums-requires-clause-bounded : goal.added_sums-requires-clause-bounded
added_sums-requires-clause-bounded c =
    let ex : c.as_slice.result.now ≡ c.args.x.now.1.items = c.as_slice.ensures.value in
    let ey : c.as_slice-2.result.now ≡ c.args.y.now.1.items = c.as_slice-2.ensures.value in
    rw ex (rw ey (λ k d lk. (let r = range c k d lk in c.requires.bounded (get_or c.as_slice-3.result.now k d).0 [] r.0 (get_or c.as_slice-3.result.now k d).1 [] r.1)))

pub returns-clause-joined : goal.returns-clause-joined
returns-clause-joined c =
    let t = c.args.table.now.levels in
    let u = c.pair_uncounted.new.table.levels in
    let x = listed c.args.x.now in
    let y = listed c.args.y.now in
    let e = c.in_ok-to.«to» in
    let ex : c.as_slice.result.now ≡ x.1 = c.as_slice.ensures.value in
    let ey : c.as_slice-2.result.now ≡ y.1 = c.as_slice-2.ensures.value in
    let h : HasCanon u e x.0.level (zip (pattern t x.0.level x.0.at) (pattern t x.0.level y.0.at)) c.in_ok-to.pairs.items =
    subst (λ (m : ℕ). HasCanon u e x.0.level (zip (pattern t x.0.level x.0.at) (pattern t m y.0.at)) c.in_ok-to.pairs.items) c.requires.levels c.in_ok-to.ensures.paired in
    let book = c.args.book.now in
    let is : sums_of c.added_sums.new.book c.in_ok-labels.labels.items ≡ map (added_at (sums_of book x.1) (sums_of book y.1)) c.in_ok-to.pairs.items =
    c.in_ok-labels.ensures.sums ∙ ap (λ (v : List CombId). map (added_at (sums_of book v) (sums_of book c.as_slice-2.result.now)) c.as_slice-3.result.now) ex
    ∙ ap (λ (v : List CombId). map (added_at (sums_of book x.1) (sums_of book v)) c.as_slice-3.result.now) ey
    ∙ ap (λ (v : List (ℕ × ℕ)). map (added_at (sums_of book x.1) (sums_of book y.1)) v) c.as_slice-3.ensures.value in
    join_rows t u c.requires.good c.in_ok-to.ensures.good book c.added_sums.new.book x.0.level x y e c.in_ok-to.pairs.items c.in_ok-labels.labels.items refl c.requires.levels h c.in_ok-labels.ensures.owned is

pub returns-clause-grown : goal.returns-clause-grown
returns-clause-grown c = record { good = c.in_ok-to.ensures.good; extends = c.in_ok-to.ensures.kept; longer = c.in_ok-to.ensures.tuples; book = c.in_ok-labels.ensures.kept }
