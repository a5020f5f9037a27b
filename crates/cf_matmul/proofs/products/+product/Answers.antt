use Rattle.std.proofs.Common.{rules, ◌≡◌, ℕ, suc, ◌<◌, ◌≤◌, ◌*◌, ◌-◌, ◌^◌, List, [], length, map, take, get_or, refl, sym, ◌∙◌, ap, subst, arith}
use Rattle.std.specs.Prelude.{All}
use Rattle.std.proofs.lemmas.List.{length-map, map_push}
use Rattle.std.proofs.lemmas.Option.{slice_get_within}
use Rattle.cf_model.specs.PairSums.{PairSum, total}
use Rattle.cf_model.specs.Diagrams.{Node, count, IsGood}
use Rattle.cf_model.proofs.Canonicity.{level_holds}
use Rattle.cf_model.proofs.Growing.{exits_kept}
use Rattle.cf_tuple.proofs.BookLaws.{Lengthens-same, Lengthens-trans}
use Rattle.cf_table.specs.declared.Gid.{Gid}
use Rattle.cf_table.specs.Groupings.{node_of, tuple_of}
use Rattle.cf_build.specs.Assembling.{IsRow, listed}
use Rattle.cf_build.proofs.Turns.{if_ok}
use Rattle.cf_pair.proofs.Pushing.{on_ok_always}
use Rattle.cf_comb.specs.declared.CombId.{CombId}
use Rattle.cf_comb.specs.CombBooks.{OwnsSum, PairsBelow, sum_of}
use Rattle.cf_matmul.specs.Symbolic.{sums_of, row_sums, term_row_sums, carried, HasSumRow, HaveSumRows, HasGrown, IsSumIn}
use Rattle.cf_matmul.specs.Memos.{summed_pair, IsProduct, AreProducts}
use Rattle.cf_matmul.proofs.MemoFacts.{product_later, known_grown, known_longer, known_at, kept_at, at_place}
use Rattle.cf_matmul.proofs.SumRows.{owned_kept}
use Rattle.cf_matmul.proofs.Turns.{MiddleCall, middle_each, middle_tuples, middle_made, small, within_square, one_of_many, term_facts, grown_trans, OuterCall, outer_each, outer_made}
use Rattle.cf_matmul.proofs.Loops.{sum_at, no_id}
use Rattle.cf_matmul.proofs.RowTurns.{Given, no_term, middles_kept, term_ready, row_turn, row_first, row_more, row_last, rows_bounded, some_terms, row_kept, have_more}
use Rattle.cf_matmul.proofs.products.+product.Goals as goal

pub product_once-returns-in-Some-clause-made : goal.product_once-returns-in-Some-clause-made
product_once-returns-in-Some-clause-made t c = known_at c.args.table.now.levels c.args.book.now c.args.done.now.entries c.args.g c.args.h c.in-Some.place c.requires.known c.in-Some.ensures

pub product_once-returns-clause-made : goal.product_once-returns-clause-made
product_once-returns-clause-made t c =
    if_ok c.keep.result _ _ c.keep.ensures.kept
    (λ place h. kept_at c.args.table.now.levels c.product_sums.new.table.levels c.product_sums.new.book c.keep.new.done.entries c.args.g c.args.h (record { head = c.in_ok-head.head; sums = c.in_ok-head.sums }) place c.in_ok-head.ensures.summed h)

pub product_once-returns-clause-known : goal.product_once-returns-clause-known
product_once-returns-clause-known t c =
    let q = c.in_ok-head.ensures in
    let x = q.grown.extends in
    let left = c.requires.first in
    let right = c.requires.second in
    c.keep.ensures.known c.product_sums.new.table.levels c.product_sums.new.book q.known
    (record {
      left_owned = omega (arith, left, x.more c.args.g.level);
      right_owned = omega (arith, right, x.more c.args.h.level);
      is_it = product_later c.args.table.now.levels c.product_sums.new.table.levels c.product_sums.new.table.levels c.requires.good x c.product_sums.new.book c.args.g c.args.h (c.in_ok-head.head, c.in_ok-head.sums.items) left right q.summed;
    })

pub middle_row-summed_at-inner-requires : goal.middle_row-summed_at-inner-requires
middle_row-summed_at-inner-requires t c =
    let r = c.in_ok-place.ensures.made in
    slice_get_within c.product_once.new.done.entries c.in_ok-place.place r.entry r.there

pub middle_row-carried_sums-requires-clause-owned : goal.middle_row-carried_sums-requires-clause-owned
middle_row-carried_sums-requires-clause-owned t c =
    let old = c.args.table.now in
    let u = c.product_once.new.table in
    let now = c.product_once.new.book in
    let b = c.connection-b.result in
    let d = c.connection-c.result in
    let inner = c.summed_at-inner.result.now in
    let v = c.summed_at-inner.ensures in
    let made : IsProduct old.levels u.levels now b.«to» d.«to» (summed_pair inner) =
    at_place old.levels u.levels now c.product_once.new.done.entries b.«to» d.«to» c.in_ok-place.place (summed_pair inner) v.entry c.in_ok-place.ensures.made v.there (ap summed_pair v.is_it) in
    let w : MiddleCall old u c.args.book.now now c.args.g c.args.h c.args.term.0.0 c.args.term.0.1 b d (summed_pair inner) = record {
      above = c.requires.above;
      levels = c.requires.levels;
      good = c.requires.good;
      first = c.requires.first;
      second = c.requires.second;
      left = c.requires.left;
      right = c.requires.right;
      b_level = c.connection-b.ensures.level;
      c_level = c.connection-c.ensures.level;
      b_is = c.connection-b.ensures.connection;
      c_is = c.connection-c.ensures.connection;
      b_tuple = c.connection-b.ensures.tuple;
      c_tuple = c.connection-c.ensures.tuple;
      summed = made;
      grown = c.in_ok-place.ensures.grown;
    } in
    subst (λ (v : List CombId). All (OwnsSum now) v) (sym c.as_slice.ensures.value) made.owned

pub middle_row-carried_sums-requires-clause-bounded : goal.middle_row-carried_sums-requires-clause-bounded
middle_row-carried_sums-requires-clause-bounded t c =
    let old = c.args.table.now in
    let u = c.product_once.new.table in
    let now = c.product_once.new.book in
    let b = c.connection-b.result in
    let d = c.connection-c.result in
    let inner = c.summed_at-inner.result.now in
    let v = c.summed_at-inner.ensures in
    let made : IsProduct old.levels u.levels now b.«to» d.«to» (summed_pair inner) =
    at_place old.levels u.levels now c.product_once.new.done.entries b.«to» d.«to» c.in_ok-place.place (summed_pair inner) v.entry c.in_ok-place.ensures.made v.there (ap summed_pair v.is_it) in
    let w : MiddleCall old u c.args.book.now now c.args.g c.args.h c.args.term.0.0 c.args.term.0.1 b d (summed_pair inner) = record {
      above = c.requires.above;
      levels = c.requires.levels;
      good = c.requires.good;
      first = c.requires.first;
      second = c.requires.second;
      left = c.requires.left;
      right = c.requires.right;
      b_level = c.connection-b.ensures.level;
      c_level = c.connection-c.ensures.level;
      b_is = c.connection-b.ensures.connection;
      c_is = c.connection-c.ensures.connection;
      b_tuple = c.connection-b.ensures.tuple;
      c_tuple = c.connection-c.ensures.tuple;
      summed = made;
      grown = c.in_ok-place.ensures.grown;
    } in
    let each = middle_each old u c.args.book.now now c.args.g c.args.h c.args.term.0.0 c.args.term.0.1 b d (summed_pair inner) w in
    subst (λ (v : List CombId). All (λ s. (total s ≤ 2 ^ 127) × (c.args.term.1 * total s ≤ 2 ^ 127)) (sums_of now v)) (sym c.as_slice.ensures.value)
    (λ k x lk.
    (let e = (each k x lk).total_is in
    let n = 2 ^ (2 ^ (c.args.g.level - 2)) in
    let l : n ≤ 2 ^ 127 = one_of_many c.args.term.1 n (2 ^ 127) c.requires.positive c.requires.bounded in
    (subst (λ (y : ℕ). y ≤ 2 ^ 127) (sym e) l, subst (λ (y : ℕ). c.args.term.1 * y ≤ 2 ^ 127) (sym e) c.requires.bounded)))

pub middle_row-carried_sums-requires-clause-within : goal.middle_row-carried_sums-requires-clause-within
middle_row-carried_sums-requires-clause-within t c =
    let old = c.args.table.now in
    let u = c.product_once.new.table in
    let now = c.product_once.new.book in
    let b = c.connection-b.result in
    let d = c.connection-c.result in
    let inner = c.summed_at-inner.result.now in
    let v = c.summed_at-inner.ensures in
    let made : IsProduct old.levels u.levels now b.«to» d.«to» (summed_pair inner) =
    at_place old.levels u.levels now c.product_once.new.done.entries b.«to» d.«to» c.in_ok-place.place (summed_pair inner) v.entry c.in_ok-place.ensures.made v.there (ap summed_pair v.is_it) in
    let w : MiddleCall old u c.args.book.now now c.args.g c.args.h c.args.term.0.0 c.args.term.0.1 b d (summed_pair inner) = record {
      above = c.requires.above;
      levels = c.requires.levels;
      good = c.requires.good;
      first = c.requires.first;
      second = c.requires.second;
      left = c.requires.left;
      right = c.requires.right;
      b_level = c.connection-b.ensures.level;
      c_level = c.connection-c.ensures.level;
      b_is = c.connection-b.ensures.connection;
      c_is = c.connection-c.ensures.connection;
      b_tuple = c.connection-b.ensures.tuple;
      c_tuple = c.connection-c.ensures.tuple;
      summed = made;
      grown = c.in_ok-place.ensures.grown;
    } in
    let each = middle_each old u c.args.book.now now c.args.g c.args.h c.args.term.0.0 c.args.term.0.1 b d (summed_pair inner) w in
    let q = middle_tuples old u c.args.book.now now c.args.g c.args.h c.args.term.0.0 c.args.term.0.1 b d (summed_pair inner) w in
    let eb = c.tuple.ensures ∙ q.0 in
    let ec = c.tuple-2.ensures ∙ q.1 in
    subst (λ (v : List CombId). All (PairsBelow (length c.tuple.result.now) (length c.tuple-2.result.now)) (sums_of now v)) (sym c.as_slice.ensures.value)
    (λ k x lk k2 x2 lk2. (let r = (each k x lk).within k2 x2 lk2 in (omega (arith, r.0, ap length eb), omega (arith, r.1, ap length ec))))

pub middle_row-returns-clause-row : goal.middle_row-returns-clause-row
middle_row-returns-clause-row t c =
    let old = c.args.table.now in
    let u = c.product_once.new.table in
    let now = c.product_once.new.book in
    let b = c.connection-b.result in
    let d = c.connection-c.result in
    let inner = c.summed_at-inner.result.now in
    let v = c.summed_at-inner.ensures in
    let made : IsProduct old.levels u.levels now b.«to» d.«to» (summed_pair inner) =
    at_place old.levels u.levels now c.product_once.new.done.entries b.«to» d.«to» c.in_ok-place.place (summed_pair inner) v.entry c.in_ok-place.ensures.made v.there (ap summed_pair v.is_it) in
    let w : MiddleCall old u c.args.book.now now c.args.g c.args.h c.args.term.0.0 c.args.term.0.1 b d (summed_pair inner) = record {
      above = c.requires.above;
      levels = c.requires.levels;
      good = c.requires.good;
      first = c.requires.first;
      second = c.requires.second;
      left = c.requires.left;
      right = c.requires.right;
      b_level = c.connection-b.ensures.level;
      c_level = c.connection-c.ensures.level;
      b_is = c.connection-b.ensures.connection;
      c_is = c.connection-c.ensures.connection;
      b_tuple = c.connection-b.ensures.tuple;
      c_tuple = c.connection-c.ensures.tuple;
      summed = made;
      grown = c.in_ok-place.ensures.grown;
    } in
    let ids = inner.sums.items in
    let is : sums_of c.carried_sums.new.book c.in_ok-labels.labels.items ≡ map (carried c.args.term.1 (tuple_of u.tuples b.ret) (tuple_of u.tuples d.ret)) (sums_of now ids) =
    c.in_ok-labels.ensures.sums ∙ ap (λ (v : List CombId). map (carried c.args.term.1 c.tuple.result.now c.tuple-2.result.now) (sums_of now v)) c.as_slice.ensures.value
    ∙ ap (λ (v : List ℕ). map (carried c.args.term.1 v c.tuple-2.result.now) (sums_of now ids)) c.tuple.ensures
    ∙ ap (λ (v : List ℕ). map (carried c.args.term.1 (tuple_of u.tuples b.ret) v) (sums_of now ids)) c.tuple-2.ensures in
    middle_made old u c.args.book.now now c.carried_sums.new.book c.args.g c.args.h c.args.term.0.0 c.args.term.0.1 c.args.term.1 b d inner.head ids c.in_ok-labels.labels.items w c.in_ok-labels.ensures.owned is

pub middle_row-returns-clause-known : goal.middle_row-returns-clause-known
middle_row-returns-clause-known t c =
    known_longer c.product_once.new.table.levels c.product_once.new.book c.carried_sums.new.book c.in_ok-place.ensures.grown.good c.in_ok-labels.ensures.kept c.product_once.new.done.entries c.in_ok-place.ensures.known

pub middle_row-returns-clause-grown : goal.middle_row-returns-clause-grown
middle_row-returns-clause-grown t c =
    let x = c.in_ok-place.ensures.grown in
    record { good = x.good; extends = x.extends; longer = x.longer; book = Lengthens-trans c.args.book.now c.product_once.new.book c.carried_sums.new.book x.book c.in_ok-labels.ensures.kept }

pub product_sums-returns-then-g-eq1-clause-known : goal.product_sums-returns-then-g-eq1-clause-known
product_sums-returns-then-g-eq1-clause-known t c =
    on_ok_always c.base_sums.result (known_grown c.args.table.now c.base_sums.new.table c.args.book.now c.base_sums.new.book c.requires.good c.base_sums.ensures.grown c.args.done.now.entries c.requires.known)

pub product_sums-copied_at-requires : goal.product_sums-copied_at-requires
product_sums-copied_at-requires t c =
    let r = c.in_ok-place.ensures.made in
    slice_get_within c.product_once.new.done.entries c.in_ok-place.place r.entry r.there

pub product_sums-sum_rows-requires : goal.product_sums-sum_rows-requires
product_sums-sum_rows-requires t c =
    let old = c.args.table.now in
    let new = c.product_once.new.table in
    let now = c.product_once.new.book in
    let a = c.a_callee-a.result in
    let b = c.a_callee-b.result in
    let copy = c.in_ok-callee.ensures in
    let callee = c.in_ok-callee.callee in
    let ids = c.in_ok-callee.middles.items in
    let made : IsProduct old.levels new.levels now a b (callee, ids) =
    at_place old.levels new.levels now c.product_once.new.done.entries a b c.in_ok-place.place (callee, ids) copy.entry c.in_ok-place.ensures.made copy.there copy.is_it in
    let o : OuterCall old new c.args.book.now now c.args.g c.args.h a b (callee, ids) = record {
      above = omega (arith, c.requires.above, c.if-g-eq1.false);
      levels = c.requires.levels;
      good = c.requires.good;
      first = c.requires.first;
      second = c.requires.second;
      a_level = c.a_callee-a.ensures.level;
      b_level = c.a_callee-b.ensures.level;
      a_is = c.a_callee-a.ensures.callee;
      b_is = c.a_callee-b.ensures.callee;
      summed = made;
      grown = c.in_ok-place.ensures.grown;
    } in
    let x = c.in_ok-place.ensures.grown.extends in
    let two : 2 ≤ c.args.g.level = o.above in
    let good : IsGood new.levels = c.in_ok-place.ensures.grown.good in
    let known : AreProducts new.levels now c.product_once.new.done.entries = c.in_ok-place.ensures.known in
    let gu : c.args.g.at < count new.levels c.args.g.level = omega (arith, c.requires.first, x.more c.args.g.level) in
    let hu : c.args.h.at < count new.levels c.args.h.level = omega (arith, c.requires.second, x.more c.args.h.level) in
    let owned : All (OwnsSum now) c.as_slice.result.now = subst (λ (v : List CombId). All (OwnsSum now) v) (sym c.as_slice.ensures.value) made.owned in
    let each : All (IsSumIn (length (node_of new c.args.g).connections) (length (node_of new c.args.h).connections) (2 ^ (2 ^ (c.args.g.level - 2)))) (sums_of now c.as_slice.result.now) =
    subst (λ (v : List CombId). All (IsSumIn (length (node_of new c.args.g).connections) (length (node_of new c.args.h).connections) (2 ^ (2 ^ (c.args.g.level - 2)))) (sums_of now v)) (sym c.as_slice.ensures.value)
    (outer_each old new c.args.book.now now c.args.g c.args.h a b (callee, ids) o) in
    let falls : 5 * c.args.g.level - 2 < 5 * c.args.g.level - 1 = omega (arith, two) in
    search rules

pub product_sums-assemble-requires-clause-middles : goal.product_sums-assemble-requires-clause-middles
product_sums-assemble-requires-clause-middles t c =
    let old = c.args.table.now in
    let new = c.product_once.new.table in
    let now = c.product_once.new.book in
    let a = c.a_callee-a.result in
    let b = c.a_callee-b.result in
    let copy = c.in_ok-callee.ensures in
    let callee = c.in_ok-callee.callee in
    let ids = c.in_ok-callee.middles.items in
    let made : IsProduct old.levels new.levels now a b (callee, ids) =
    at_place old.levels new.levels now c.product_once.new.done.entries a b c.in_ok-place.place (callee, ids) copy.entry c.in_ok-place.ensures.made copy.there copy.is_it in
    let o : OuterCall old new c.args.book.now now c.args.g c.args.h a b (callee, ids) = record {
      above = omega (arith, c.requires.above, c.if-g-eq1.false);
      levels = c.requires.levels;
      good = c.requires.good;
      first = c.requires.first;
      second = c.requires.second;
      a_level = c.a_callee-a.ensures.level;
      b_level = c.a_callee-b.ensures.level;
      a_is = c.a_callee-a.ensures.callee;
      b_is = c.a_callee-b.ensures.callee;
      summed = made;
      grown = c.in_ok-place.ensures.grown;
    } in
    ap length c.as_slice-2.ensures.value ∙ sym (length-map c.in_ok-rows.rows.items listed) ∙ c.in_ok-rows.ensures.rows.long ∙ ap length c.as_slice.ensures.value ∙ sym (length-map ids (sum_of now)) ∙ sym made.canon.reached
    ∙ (level_holds new.levels c.in_ok-place.ensures.grown.good callee.level).reaches callee.at made.there ∙ sym (exits_kept new.levels c.sum_rows.new.table.levels c.in_ok-rows.ensures.grown.extends callee.level callee.at made.there)

pub product_sums-assemble-requires-clause-rows : goal.product_sums-assemble-requires-clause-rows
product_sums-assemble-requires-clause-rows t c k x lk =
    let old = c.args.table.now in
    let new = c.product_once.new.table in
    let now = c.product_once.new.book in
    let a = c.a_callee-a.result in
    let b = c.a_callee-b.result in
    let copy = c.in_ok-callee.ensures in
    let callee = c.in_ok-callee.callee in
    let ids = c.in_ok-callee.middles.items in
    let made : IsProduct old.levels new.levels now a b (callee, ids) =
    at_place old.levels new.levels now c.product_once.new.done.entries a b c.in_ok-place.place (callee, ids) copy.entry c.in_ok-place.ensures.made copy.there copy.is_it in
    let o : OuterCall old new c.args.book.now now c.args.g c.args.h a b (callee, ids) = record {
      above = omega (arith, c.requires.above, c.if-g-eq1.false);
      levels = c.requires.levels;
      good = c.requires.good;
      first = c.requires.first;
      second = c.requires.second;
      a_level = c.a_callee-a.ensures.level;
      b_level = c.a_callee-b.ensures.level;
      a_is = c.a_callee-a.ensures.callee;
      b_is = c.a_callee-b.ensures.callee;
      summed = made;
      grown = c.in_ok-place.ensures.grown;
    } in
    let v = c.sum_rows.new.table.levels in
    let q = ap (map listed) c.as_slice-2.ensures.value in
    let w = c.in_ok-rows.ensures.rows in
    let r = (w.rows_are k x (omega (arith, lk, ap length q, w.long))).is_row in
    let two : 2 ≤ c.args.g.level = o.above in
    let lev : suc (c.args.g.level - 2) ≡ callee.level = omega (arith, made.level, c.a_callee-a.ensures.level, two) in
    subst (λ (l : ℕ). IsRow v l (get_or (map listed c.as_slice-2.result.now) k x)) lev (subst (λ (y : List (Gid × List CombId)). IsRow v (suc (c.args.g.level - 2)) (get_or y k x)) (sym q) r)

pub product_sums-returns-clause-summed : goal.product_sums-returns-clause-summed
product_sums-returns-clause-summed t c =
    let old = c.args.table.now in
    let new = c.product_once.new.table in
    let now = c.product_once.new.book in
    let a = c.a_callee-a.result in
    let b = c.a_callee-b.result in
    let copy = c.in_ok-callee.ensures in
    let callee = c.in_ok-callee.callee in
    let ids = c.in_ok-callee.middles.items in
    let made : IsProduct old.levels new.levels now a b (callee, ids) =
    at_place old.levels new.levels now c.product_once.new.done.entries a b c.in_ok-place.place (callee, ids) copy.entry c.in_ok-place.ensures.made copy.there copy.is_it in
    let o : OuterCall old new c.args.book.now now c.args.g c.args.h a b (callee, ids) = record {
      above = omega (arith, c.requires.above, c.if-g-eq1.false);
      levels = c.requires.levels;
      good = c.requires.good;
      first = c.requires.first;
      second = c.requires.second;
      a_level = c.a_callee-a.ensures.level;
      b_level = c.a_callee-b.ensures.level;
      a_is = c.a_callee-a.ensures.callee;
      b_is = c.a_callee-b.ensures.callee;
      summed = made;
      grown = c.in_ok-place.ensures.grown;
    } in
    let v = c.sum_rows.new.table in
    let after = c.sum_rows.new.book in
    let rows = map listed c.as_slice-2.result.now in
    let each = 2 ^ (2 ^ (c.args.g.level - 2)) * 2 ^ (2 ^ (c.args.g.level - 2)) in
    let wanted : List CombId → ℕ → List PairSum = λ is i. row_sums new c.args.g c.args.h (get_or (sums_of now is) i []) in
    let hr : HaveSumRows v.levels after (suc (c.args.g.level - 2)) (wanted ids) each (length ids) rows =
    subst (λ (x : List (Gid × List CombId)). HaveSumRows v.levels after (suc (c.args.g.level - 2)) (wanted ids) each (length ids) x) (sym (ap (map listed) c.as_slice-2.ensures.value))
    (subst (λ (x : List CombId). HaveSumRows v.levels after (suc (c.args.g.level - 2)) (wanted x) each (length x) (map listed c.in_ok-rows.rows.items)) c.as_slice.ensures.value c.in_ok-rows.ensures.rows) in
    if_ok c.assemble.result _ _ c.assemble.ensures.assembled
    (λ r s. outer_made old new v c.assemble.new.table c.args.book.now now after c.args.g c.args.h a b callee ids rows each (listed r) o c.in_ok-rows.ensures.grown c.law.ensures.once hr s)

pub product_sums-returns-clause-known : goal.product_sums-returns-clause-known
product_sums-returns-clause-known t c =
    let q = c.in_ok-rows.ensures in
    let v = c.sum_rows.new.table in
    let w = c.assemble.new.table in
    let after = c.sum_rows.new.book in
    let grown : HasGrown v w after after = record { good = c.assemble.ensures.good; extends = c.assemble.ensures.kept; longer = c.assemble.ensures.tuples; book = Lengthens-same after after refl } in
    on_ok_always c.assemble.result (known_grown v w after after q.grown.good grown c.sum_rows.new.done.entries q.known)

pub product_sums-returns-clause-grown : goal.product_sums-returns-clause-grown
product_sums-returns-clause-grown t c =
    let q = c.in_ok-rows.ensures in
    let v = c.sum_rows.new.table in
    let w = c.assemble.new.table in
    let after = c.sum_rows.new.book in
    let grown : HasGrown v w after after = record { good = c.assemble.ensures.good; extends = c.assemble.ensures.kept; longer = c.assemble.ensures.tuples; book = Lengthens-same after after refl } in
    let x = c.in_ok-place.ensures.grown in
    grown_trans c.args.table.now v w c.args.book.now after after (grown_trans c.args.table.now c.product_once.new.table v c.args.book.now c.product_once.new.book after x q.grown) grown

pub sum_row-middle_row-requires : goal.sum_row-middle_row-requires
sum_row-middle_row-requires t c =
    let v : Given c.args.table.now c.args.g c.args.h = record { above = c.requires.above; level = c.requires.level; levels = c.requires.levels; good = c.requires.good; first = c.requires.first; second = c.requires.second } in
    let old = c.args.table.now in
    let m = c.args.g.level - 2 in
    let n = 2 ^ (2 ^ m) in
    let terms = c.args.terms.now in
    let gs = length (node_of old c.args.g).connections in
    let hs = length (node_of old c.args.h).connections in
    let some : 0 < length terms = some_terms gs hs m terms c.requires.sum in
    let f = term_facts gs hs n terms c.requires.sum 0 no_term some in
    let left : (get_or terms 0 no_term).0.0 < gs = f.0 in
    let right : (get_or terms 0 no_term).0.1 < hs = f.1 in
    let one : 1 ≤ (get_or terms 0 no_term).1 = f.2 in
    let bounded : (get_or terms 0 no_term).1 * n ≤ 2 ^ 127 = within_square (get_or terms 0 no_term).1 n (2 ^ 127) f.3 (small m (omega (arith, c.requires.level))) in
    let falls : 5 * c.args.g.level - 4 < 5 * c.args.g.level - 3 = omega (arith, c.requires.above) in
    search rules

pub sum_row-middle_row-requires-in-loop-i : goal.sum_row-middle_row-requires-in-loop-i
sum_row-middle_row-requires-in-loop-i t c =
    let v : Given c.args.table.now c.args.g c.args.h = record { above = c.requires.above; level = c.requires.level; levels = c.requires.levels; good = c.requires.good; first = c.requires.first; second = c.requires.second } in
    let old = c.args.table.now in
    let m = c.args.g.level - 2 in
    let n = 2 ^ (2 ^ m) in
    let terms = c.args.terms.now in
    let i = c.loop-i.i in
    let f = term_ready old c.loop-i.table c.args.book.now c.loop-i.book c.args.g c.args.h terms v c.loop-i.invariant.grown c.requires.sum i c.loop-i-test.true in
    let good : IsGood c.loop-i.table.levels = c.loop-i.invariant.grown.good in
    let known : AreProducts c.loop-i.table.levels c.loop-i.book c.loop-i.done.entries = c.loop-i.invariant.known in
    let gu : c.args.g.at < count c.loop-i.table.levels c.args.g.level = f.0 in
    let hu : c.args.h.at < count c.loop-i.table.levels c.args.h.level = f.1 in
    let left : (get_or terms i no_term).0.0 < length (node_of c.loop-i.table c.args.g).connections = f.2 in
    let right : (get_or terms i no_term).0.1 < length (node_of c.loop-i.table c.args.h).connections = f.3 in
    let one : 1 ≤ (get_or terms i no_term).1 = f.4 in
    let bounded : (get_or terms i no_term).1 * n ≤ 2 ^ 127 = f.5 in
    let falls : 5 * c.args.g.level - 4 < 5 * c.args.g.level - 3 = omega (arith, c.requires.above) in
    search rules

pub sum_row-joined-requires-clause-good : goal.sum_row-joined-requires-clause-good
sum_row-joined-requires-clause-good t c =
    c.in_ok-next.ensures.grown.good

pub sum_row-joined-requires-clause-levels : goal.sum_row-joined-requires-clause-levels
sum_row-joined-requires-clause-levels t c =
    let v : Given c.args.table.now c.args.g c.args.h = record { above = c.requires.above; level = c.requires.level; levels = c.requires.levels; good = c.requires.good; first = c.requires.first; second = c.requires.second } in
    let old = c.args.table.now in
    let m = c.args.g.level - 2 in
    let n = 2 ^ (2 ^ m) in
    let terms = c.args.terms.now in
    let i = c.loop-i.i in
    let mid = c.loop-i.table in
    let new = c.middle_row-in-loop-i.new.table in
    let row = listed c.loop-i.row in
    let next = listed c.in_ok-next.next in
    let q = c.in_ok-next.ensures in
    let r = row_turn old mid new c.args.book.now c.loop-i.book c.middle_row-in-loop-i.new.book c.args.g c.args.h terms i row next v c.loop-i.invariant.grown q.grown c.requires.sum c.loop-i-test.true c.loop-i.invariant.row_is q.row in
    r.1.is_row.level ∙ sym r.0.is_row.level

pub sum_row-joined-requires-clause-first : goal.sum_row-joined-requires-clause-first
sum_row-joined-requires-clause-first t c =
    let v : Given c.args.table.now c.args.g c.args.h = record { above = c.requires.above; level = c.requires.level; levels = c.requires.levels; good = c.requires.good; first = c.requires.first; second = c.requires.second } in
    let old = c.args.table.now in
    let m = c.args.g.level - 2 in
    let n = 2 ^ (2 ^ m) in
    let terms = c.args.terms.now in
    let i = c.loop-i.i in
    let mid = c.loop-i.table in
    let new = c.middle_row-in-loop-i.new.table in
    let row = listed c.loop-i.row in
    let next = listed c.in_ok-next.next in
    let q = c.in_ok-next.ensures in
    let r = row_turn old mid new c.args.book.now c.loop-i.book c.middle_row-in-loop-i.new.book c.args.g c.args.h terms i row next v c.loop-i.invariant.grown q.grown c.requires.sum c.loop-i-test.true c.loop-i.invariant.row_is q.row in
    subst (λ (l : ℕ). IsRow new.levels l row) (sym r.0.is_row.level) r.0.is_row

pub sum_row-joined-requires-clause-second : goal.sum_row-joined-requires-clause-second
sum_row-joined-requires-clause-second t c =
    let v : Given c.args.table.now c.args.g c.args.h = record { above = c.requires.above; level = c.requires.level; levels = c.requires.levels; good = c.requires.good; first = c.requires.first; second = c.requires.second } in
    let old = c.args.table.now in
    let m = c.args.g.level - 2 in
    let n = 2 ^ (2 ^ m) in
    let terms = c.args.terms.now in
    let i = c.loop-i.i in
    let mid = c.loop-i.table in
    let new = c.middle_row-in-loop-i.new.table in
    let row = listed c.loop-i.row in
    let next = listed c.in_ok-next.next in
    let q = c.in_ok-next.ensures in
    let r = row_turn old mid new c.args.book.now c.loop-i.book c.middle_row-in-loop-i.new.book c.args.g c.args.h terms i row next v c.loop-i.invariant.grown q.grown c.requires.sum c.loop-i-test.true c.loop-i.invariant.row_is q.row in
    subst (λ (l : ℕ). IsRow new.levels l next) (sym r.0.is_row.level) r.1.is_row

pub sum_row-joined-requires-clause-first_ids : goal.sum_row-joined-requires-clause-first_ids
sum_row-joined-requires-clause-first_ids t c =
    let v : Given c.args.table.now c.args.g c.args.h = record { above = c.requires.above; level = c.requires.level; levels = c.requires.levels; good = c.requires.good; first = c.requires.first; second = c.requires.second } in
    let old = c.args.table.now in
    let m = c.args.g.level - 2 in
    let n = 2 ^ (2 ^ m) in
    let terms = c.args.terms.now in
    let i = c.loop-i.i in
    let mid = c.loop-i.table in
    let new = c.middle_row-in-loop-i.new.table in
    let row = listed c.loop-i.row in
    let next = listed c.in_ok-next.next in
    let q = c.in_ok-next.ensures in
    let r = row_turn old mid new c.args.book.now c.loop-i.book c.middle_row-in-loop-i.new.book c.args.g c.args.h terms i row next v c.loop-i.invariant.grown q.grown c.requires.sum c.loop-i-test.true c.loop-i.invariant.row_is q.row in
    r.0.owned

pub sum_row-joined-requires-clause-second_ids : goal.sum_row-joined-requires-clause-second_ids
sum_row-joined-requires-clause-second_ids t c =
    let v : Given c.args.table.now c.args.g c.args.h = record { above = c.requires.above; level = c.requires.level; levels = c.requires.levels; good = c.requires.good; first = c.requires.first; second = c.requires.second } in
    let old = c.args.table.now in
    let m = c.args.g.level - 2 in
    let n = 2 ^ (2 ^ m) in
    let terms = c.args.terms.now in
    let i = c.loop-i.i in
    let mid = c.loop-i.table in
    let new = c.middle_row-in-loop-i.new.table in
    let row = listed c.loop-i.row in
    let next = listed c.in_ok-next.next in
    let q = c.in_ok-next.ensures in
    let r = row_turn old mid new c.args.book.now c.loop-i.book c.middle_row-in-loop-i.new.book c.args.g c.args.h terms i row next v c.loop-i.invariant.grown q.grown c.requires.sum c.loop-i-test.true c.loop-i.invariant.row_is q.row in
    r.1.owned

pub sum_row-joined-requires-clause-bounded : goal.sum_row-joined-requires-clause-bounded
sum_row-joined-requires-clause-bounded t c =
    let v : Given c.args.table.now c.args.g c.args.h = record { above = c.requires.above; level = c.requires.level; levels = c.requires.levels; good = c.requires.good; first = c.requires.first; second = c.requires.second } in
    let old = c.args.table.now in
    let m = c.args.g.level - 2 in
    let n = 2 ^ (2 ^ m) in
    let terms = c.args.terms.now in
    let i = c.loop-i.i in
    let mid = c.loop-i.table in
    let new = c.middle_row-in-loop-i.new.table in
    let row = listed c.loop-i.row in
    let next = listed c.in_ok-next.next in
    let q = c.in_ok-next.ensures in
    let r = row_turn old mid new c.args.book.now c.loop-i.book c.middle_row-in-loop-i.new.book c.args.g c.args.h terms i row next v c.loop-i.invariant.grown q.grown c.requires.sum c.loop-i-test.true c.loop-i.invariant.row_is q.row in
    rows_bounded new.levels c.middle_row-in-loop-i.new.book (suc m) n i terms (row_sums old c.args.g c.args.h (take i terms)) (term_row_sums old c.args.g c.args.h (get_or terms i no_term)) row next c.loop-i-test.true c.requires.sum.total_is
    (small m (omega (arith, c.requires.level))) r.0 r.1

pub sum_row-loop-i-init : goal.sum_row-loop-i-init
sum_row-loop-i-init t c =
    let v : Given c.args.table.now c.args.g c.args.h = record { above = c.requires.above; level = c.requires.level; levels = c.requires.levels; good = c.requires.good; first = c.requires.first; second = c.requires.second } in
    let old = c.args.table.now in
    let m = c.args.g.level - 2 in
    let n = 2 ^ (2 ^ m) in
    let terms = c.args.terms.now in
    let gs = length (node_of old c.args.g).connections in
    let hs = length (node_of old c.args.h).connections in
    let some : 0 < length terms = some_terms gs hs m terms c.requires.sum in
    let f = term_facts gs hs n terms c.requires.sum 0 no_term some in
    record {
      grown = c.in_ok-row.ensures.grown;
      known = c.in_ok-row.ensures.known;
      from = omega arith;
      row_is = row_first c.middle_row.new.table.levels c.middle_row.new.book old c.args.g c.args.h terms n (listed c.in_ok-row.row) some f.2 c.in_ok-row.ensures.row;
    }

pub sum_row-loop-i-preserved : goal.sum_row-loop-i-preserved
sum_row-loop-i-preserved t c =
    let v : Given c.args.table.now c.args.g c.args.h = record { above = c.requires.above; level = c.requires.level; levels = c.requires.levels; good = c.requires.good; first = c.requires.first; second = c.requires.second } in
    let old = c.args.table.now in
    let m = c.args.g.level - 2 in
    let n = 2 ^ (2 ^ m) in
    let terms = c.args.terms.now in
    let i = c.loop-i.i in
    let mid = c.loop-i.table in
    let new = c.middle_row-in-loop-i.new.table in
    let row = listed c.loop-i.row in
    let next = listed c.in_ok-next.next in
    let q = c.in_ok-next.ensures in
    let r = row_turn old mid new c.args.book.now c.loop-i.book c.middle_row-in-loop-i.new.book c.args.g c.args.h terms i row next v c.loop-i.invariant.grown q.grown c.requires.sum c.loop-i-test.true c.loop-i.invariant.row_is q.row in
    let after = c.joined.new.table in
    let j = c.in_ok-row-2.ensures in
    record {
      grown = grown_trans old new after c.args.book.now c.middle_row-in-loop-i.new.book c.joined.new.book (grown_trans old mid new c.args.book.now c.loop-i.book c.middle_row-in-loop-i.new.book c.loop-i.invariant.grown q.grown) j.grown;
      known = known_grown new after c.middle_row-in-loop-i.new.book c.joined.new.book q.grown.good j.grown c.middle_row-in-loop-i.new.done.entries q.known;
      from = omega arith;
      row_is = row_more new.levels after.levels c.middle_row-in-loop-i.new.book c.joined.new.book old c.args.g c.args.h terms n i row next (listed c.in_ok-row-2.row) c.loop-i-test.true j.joined r.0 r.1;
    }

pub sum_row-returns-in_err-next-clause-grown : goal.sum_row-returns-in_err-next-clause-grown
sum_row-returns-in_err-next-clause-grown t c =
    grown_trans c.args.table.now c.loop-i.table c.middle_row-in-loop-i.new.table c.args.book.now c.loop-i.book c.middle_row-in-loop-i.new.book c.loop-i.invariant.grown c.in_err-next.ensures.grown

pub sum_row-returns-in_err-row-2-clause-grown : goal.sum_row-returns-in_err-row-2-clause-grown
sum_row-returns-in_err-row-2-clause-grown t c =
    grown_trans c.args.table.now c.middle_row-in-loop-i.new.table c.joined.new.table c.args.book.now c.middle_row-in-loop-i.new.book c.joined.new.book
    (grown_trans c.args.table.now c.loop-i.table c.middle_row-in-loop-i.new.table c.args.book.now c.loop-i.book c.middle_row-in-loop-i.new.book c.loop-i.invariant.grown c.in_ok-next.ensures.grown) c.in_err-row-2.ensures.grown

pub sum_row-returns-clause-row : goal.sum_row-returns-clause-row
sum_row-returns-clause-row t c =
    let v : Given c.args.table.now c.args.g c.args.h = record { above = c.requires.above; level = c.requires.level; levels = c.requires.levels; good = c.requires.good; first = c.requires.first; second = c.requires.second } in
    let old = c.args.table.now in
    let m = c.args.g.level - 2 in
    let n = 2 ^ (2 ^ m) in
    row_last c.loop-i.table.levels c.loop-i.book old c.args.g c.args.h c.args.terms.now n c.loop-i.i (listed c.loop-i.row) c.loop-i-test.false c.requires.sum.total_is c.loop-i.invariant.row_is

pub sum_rows-get-requires : goal.sum_rows-get-requires
sum_rows-get-requires t c =
    owned_kept c.args.book.now c.loop-i.book c.loop-i.invariant.grown.book c.args.sums.now c.requires.owned c.loop-i.i no_id c.loop-i-test.true

pub sum_rows-sum_row-requires : goal.sum_rows-sum_row-requires
sum_rows-sum_row-requires t c =
    let v : Given c.args.table.now c.args.g c.args.h = record { above = c.requires.above; level = c.requires.level; levels = c.requires.levels; good = c.requires.good; first = c.requires.first; second = c.requires.second } in
    let old = c.args.table.now in
    let m = c.args.g.level - 2 in
    let n = 2 ^ (2 ^ m) in
    let i = c.loop-i.i in
    let mid = c.loop-i.table in
    let sums = sums_of c.args.book.now c.args.sums.now in
    let li : i < length sums = omega (arith, c.loop-i-test.true, length-map c.args.sums.now (sum_of c.args.book.now)) in
    let is : c.as_slice.result.now ≡ get_or sums i [] =
    c.as_slice.ensures.value ∙ c.in_ok-terms.ensures.items ∙ c.get.ensures.sum ∙ sum_at c.args.book.now c.loop-i.book c.loop-i.invariant.grown.book c.args.sums.now c.requires.owned i no_id c.loop-i-test.true in
    let gs = length (node_of old c.args.g).connections in
    let hs = length (node_of old c.args.h).connections in
    let each : IsSumIn gs hs n (get_or sums i []) = c.requires.each i [] li in
    let k = middles_kept old mid c.args.book.now c.loop-i.book c.args.g c.args.h v c.loop-i.invariant.grown in
    let good : IsGood mid.levels = c.loop-i.invariant.grown.good in
    let known : AreProducts mid.levels c.loop-i.book c.loop-i.done.entries = c.loop-i.invariant.known in
    let gu : c.args.g.at < count mid.levels c.args.g.level = omega (arith, c.requires.first, c.loop-i.invariant.grown.extends.more c.args.g.level) in
    let hu : c.args.h.at < count mid.levels c.args.h.level = omega (arith, c.requires.second, c.loop-i.invariant.grown.extends.more c.args.h.level) in
    let ready : IsSumIn (length (node_of mid c.args.g).connections) (length (node_of mid c.args.h).connections) n c.as_slice.result.now =
    subst (λ (d : Node). IsSumIn (length d.connections) (length (node_of mid c.args.h).connections) n c.as_slice.result.now) (sym k.0)
    (subst (λ (d : Node). IsSumIn gs (length d.connections) n c.as_slice.result.now) (sym k.1) (subst (λ (s : PairSum). IsSumIn gs hs n s) (sym is) each)) in
    let falls : 5 * c.args.g.level - 3 < 5 * c.args.g.level - 2 = omega (arith, c.requires.above) in
    search rules

pub sum_rows-loop-i-preserved : goal.sum_rows-loop-i-preserved
sum_rows-loop-i-preserved t c =
    let v : Given c.args.table.now c.args.g c.args.h = record { above = c.requires.above; level = c.requires.level; levels = c.requires.levels; good = c.requires.good; first = c.requires.first; second = c.requires.second } in
    let old = c.args.table.now in
    let m = c.args.g.level - 2 in
    let n = 2 ^ (2 ^ m) in
    let i = c.loop-i.i in
    let mid = c.loop-i.table in
    let sums = sums_of c.args.book.now c.args.sums.now in
    let li : i < length sums = omega (arith, c.loop-i-test.true, length-map c.args.sums.now (sum_of c.args.book.now)) in
    let is : c.as_slice.result.now ≡ get_or sums i [] =
    c.as_slice.ensures.value ∙ c.in_ok-terms.ensures.items ∙ c.get.ensures.sum ∙ sum_at c.args.book.now c.loop-i.book c.loop-i.invariant.grown.book c.args.sums.now c.requires.owned i no_id c.loop-i-test.true in
    let gs = length (node_of old c.args.g).connections in
    let hs = length (node_of old c.args.h).connections in
    let each : IsSumIn gs hs n (get_or sums i []) = c.requires.each i [] li in
    let new = c.sum_row.new.table in
    let q = c.in_ok-row.ensures in
    let wanted : ℕ → List PairSum = λ j. row_sums old c.args.g c.args.h (get_or sums j []) in
    let row : HasSumRow new.levels c.sum_row.new.book (suc m) (wanted i) (n * n) (listed c.in_ok-row.row) =
    subst (λ (w : List PairSum). HasSumRow new.levels c.sum_row.new.book (suc m) w (n * n) (listed c.in_ok-row.row))
    (ap (row_sums mid c.args.g c.args.h) is ∙ row_kept old mid c.args.book.now c.loop-i.book c.args.g c.args.h (get_or sums i []) v c.loop-i.invariant.grown each.within) q.row in
    record {
      grown = grown_trans old mid new c.args.book.now c.loop-i.book c.sum_row.new.book c.loop-i.invariant.grown q.grown;
      known = q.known;
      rows_are = have_more mid new c.loop-i.book c.sum_row.new.book (suc m) (n * n) i wanted (map listed c.loop-i.rows.items) (map listed c.push.new.self.items) (listed c.in_ok-row.row) c.loop-i.invariant.grown.good q.grown c.loop-i.invariant.rows_are row
          (ap (map listed) c.in_ok-push.ensures.items ∙ map_push listed c.loop-i.rows.items c.in_ok-row.row);
    }

pub sum_rows-returns-clause-rows : goal.sum_rows-returns-clause-rows
sum_rows-returns-clause-rows t c =
    let v : Given c.args.table.now c.args.g c.args.h = record { above = c.requires.above; level = c.requires.level; levels = c.requires.levels; good = c.requires.good; first = c.requires.first; second = c.requires.second } in
    let old = c.args.table.now in
    let m = c.args.g.level - 2 in
    let n = 2 ^ (2 ^ m) in
    let end : c.loop-i.i ≡ length c.args.sums.now = omega (arith, c.loop-i-test.false, c.loop-i.auto.i-end) in
    subst (λ (k : ℕ). HaveSumRows c.loop-i.table.levels c.loop-i.book (suc m) (λ i. row_sums old c.args.g c.args.h (get_or (sums_of c.args.book.now c.args.sums.now) i [])) (n * n) k (map listed c.loop-i.rows.items)) end c.loop-i.invariant.rows_are
