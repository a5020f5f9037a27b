use Rattle.std.proofs.Common.{◌≡◌, ℕ, zero, suc, ◌<◌, List, [], ◌∷◌, ◌++◌, map, refl, sym, ◌∙◌, ap, subst, length, get_or, arith, Some}
use Rattle.std.specs.List.{flat_map, slice_get}
use Rattle.std.specs.Option.{option_to_list}
use Rattle.std.proofs.lemmas.Option.{same_Some}
use Rattle.std.proofs.lemmas.List.{length-map}
use Rattle.cf_model.specs.Renumbering.{width, IsApart, AllDiffer, IsCanon}
use Rattle.cf_model.specs.FlatFunctions.{points}
use Rattle.cf_model.specs.Diagrams.{Levels, exit_at, connection_at, count, node, row, pattern, all_returns, exits, IsGoodNode, IsGood}
use Rattle.cf_model.proofs.Growth.{Under, Under-width, unique}
use Rattle.cf_model.proofs.CanonLaws.{apart}
use Rattle.cf_model.proofs.RenumberingLaws.{map_map}
use Rattle.cf_model.proofs.Canonicity.{level_holds, pattern-above, same_rows, row_tells, row_points}
use Rattle.cf_build.specs.Assembling.{label_at, row_labels, labels_over}
use Rattle.cf_build.proofs.Joins.{flat_map_under, map_words}
use Rattle.cf_build.proofs.Loops.{returned_under, Under-at}

-- a list of numbers in range is told by what they name
injected : {A : Type 0} (f : ℕ → A) (k : ℕ) → IsApart f k → (xs ys : List ℕ) → Under k xs → Under k ys → map f xs ≡ map f ys → xs ≡ ys
injected f k a [] [] ux uy e = refl
injected f k a [] (y ∷ ys) ux uy e = cc
injected f k a (x ∷ xs) [] ux uy e = cc
injected f k a (x ∷ xs) (y ∷ ys) ux uy e =
    let head : f x ≡ f y = cc in
    let rest : map f xs ≡ map f ys = cc in
    let top : x ≡ y = a x y ux.0 uy.0 head in
    let r : xs ≡ ys = injected f k a xs ys ux.1 uy.1 rest in
    cc

some_tells : {A : Type 0} (xs ys : List A) → map Some xs ≡ map Some ys → xs ≡ ys
some_tells [] [] e = refl
some_tells [] (y ∷ ys) e = cc
some_tells (x ∷ xs) [] e = cc
some_tells (x ∷ xs) (y ∷ ys) e =
    let head : Some x ≡ Some y = cc in
    let rest : map Some xs ≡ map Some ys = cc in
    let top : x ≡ y = same_Some x y head in
    let r : xs ≡ ys = some_tells xs ys rest in
    cc

read_under : (k n : ℕ) (xs q : List ℕ) → n ≡ length xs → Under k xs → Under n q → Under k (map (λ i. get_or xs i 0) q)
read_under k n xs [] e u v = tt
read_under k n xs (i ∷ q) e u v = (Under-at k xs u i 0 (omega (arith, v.0, e)), read_under k n xs q e u v.1)

-- the labels of a row, read off its grouping's pattern
pub labels_read : {A : Type 0} (labels : List A) (q : List ℕ) → Under (length labels) q → map Some (flat_map (label_at labels) q) ≡ map (slice_get labels) q
labels_read labels [] u = refl
labels_read labels (i ∷ q) u = by (slice_get labels i) (labels_read labels q u.1) (there labels i u.0)
  where
    there : {A : Type 0} (labels : List A) (i : ℕ) → i < length labels → (x : A) × (slice_get labels i ≡ Some x)
    there [] i h = absurd (omega (arith, h))
    there (x ∷ labels) zero h = (x, refl)
    there (x ∷ labels) (suc i) h = there labels i (omega (arith, h))

    by : (o : _) → map Some (flat_map (label_at labels) q) ≡ map (slice_get labels) q → ((x : _) × (o ≡ Some x)) → map Some (option_to_list o ++ flat_map (label_at labels) q) ≡ o ∷ map (slice_get labels) q
    by o rest w = subst (λ (v : _). map Some (option_to_list v ++ flat_map (label_at labels) q) ≡ v ∷ map (slice_get labels) q) (sym w.1) (ap (λ (v : List _). Some w.0 ∷ v) rest)

-- What is known of rows whose words differ, and of a grouping over them, in one table.
pub record Over {A : Type 0} (t : Levels) (l c i : ℕ) (rows : List (ℕ × List A)) (words : ℕ → List A) (ds : List A) : Type 0 where
  pub good : IsGood t
  pub callee_exists : c < count t l
  pub middles : length rows ≡ exits t l c
  pub exists : i < count t (suc l)
  pub canon : IsCanon (labels_over (pattern t l) c rows) (pattern t (suc l) i) ds
  pub owned : (j : ℕ) → j < length rows → (get_or rows j (0, [])).0 < count t l
  pub labelled : (j : ℕ) → j < length rows → length (get_or rows j (0, [])).1 ≡ exits t l (get_or rows j (0, [])).0
  pub words_are : (j : ℕ) → j < length rows → row_labels (pattern t l) (get_or rows j (0, [])) ≡ words j
  pub full : (j : ℕ) → j < length rows → length (words j) ≡ points l
  pub differ : (j : ℕ) → j < length rows → AllDiffer (get_or rows j (0, [])).1
  pub apart : IsApart words (length rows)

-- then its A-callee has the pattern of the first one, and its B-callees have those of the rows' groupings
pub faithful : {A : Type 0} (t : Levels) (l c i : ℕ) (rows : List (ℕ × List A)) (words : ℕ → List A) (ds : List A) → Over t l c i rows words ds
    → (pattern t l (node t (suc l) i).a_callee ≡ pattern t l c) × (length (node t (suc l) i).connections ≡ length rows)
    × ((j : ℕ) → j < length rows → pattern t l (connection_at (node t (suc l) i).connections j).callee ≡ pattern t l (get_or rows j (0, [])).0)
faithful {A} t l c i rows words ds h =
    let p = pattern t l in
    let u = level_holds t h.good l in
    let n = node t (suc l) i in
    let cs = n.connections in
    let good : IsGoodNode (count t l) (exits t l) n = h.good.good_nodes l i h.exists in
    let k = length rows in
    let f : ℕ → List _ = λ j. map (slice_get ds) (row p (connection_at cs j)) in
    let w : ℕ → List _ = λ j. map Some (words j) in
    let fullA : width 0 (p n.a_callee) ≡ length cs = u.reaches n.a_callee good.callee_exists ∙ sym good.middles in
    let fullC : width 0 (p c) ≡ k = u.reaches c h.callee_exists ∙ sym h.middles in
    let underC : Under k (p c) = Under-width 0 k (p c) (omega (arith, fullC)) in
    let underA : Under (length cs) (p n.a_callee) = Under-width 0 (length cs) (p n.a_callee) (omega (arith, fullA)) in
    let spelled : flat_map f (p n.a_callee) ≡ flat_map w (p c) =
    sym (map_words (slice_get ds) (λ j. row p (connection_at cs j)) (p n.a_callee)) ∙ ap (map (slice_get ds)) (sym (pattern-above t l i)) ∙ h.canon.spells
    ∙ map_words Some (λ j. row_labels p (get_or rows j (0, []))) (p c) ∙ flat_map_under (λ j. map Some (row_labels p (get_or rows j (0, [])))) w k (p c) underC (λ j lj. ap (map Some) (h.words_are j lj)) in
    let above = level_holds t h.good (suc l) in
    let given : width 0 (all_returns cs) ≡ length ds = sym (above.reaches i h.exists) ∙ h.canon.reached in
    let exits_in : (j : ℕ) → j < length cs → Under (length ds) (connection_at cs j).returns = λ j lj. returned_under (length ds) cs (Under-width 0 (length ds) (all_returns cs) (omega (arith, given))) j lj in
    let row_in : (j : ℕ) → j < length cs → Under (length ds) (row p (connection_at cs j)) = λ j lj.
    (let b = good.good_connections j lj in
    read_under (length ds) (length (connection_at cs j).returns) (connection_at cs j).returns (p (connection_at cs j).callee) refl (exits_in j lj)
    (Under-width 0 (length (connection_at cs j).returns) (p (connection_at cs j).callee) (omega (arith, u.reaches (connection_at cs j).callee b.callee_exists, b.entries)))) in
    let dsa : IsApart (slice_get ds) (length ds) = apart ds h.canon.differ in
    let apart_f : IsApart f (length cs) = λ a b ha hb e.
    good.differ a b ha hb (row_tells (count t l) (points l) (exits t l) p u (connection_at cs a) (connection_at cs b) (good.good_connections a ha) (good.good_connections b hb)
    (injected (slice_get ds) (length ds) dsa (row p (connection_at cs a)) (row p (connection_at cs b)) (row_in a ha) (row_in b hb) e)) in
    let apart_w : IsApart w k = λ a b ha hb e. h.apart a b ha hb (some_tells (words a) (words b) e) in
    let mapped : map f (p n.a_callee) ≡ map w (p c) = same_rows f w (points l) (length cs) k (p n.a_callee) (p c)
    (λ j lj. length-map (row p (connection_at cs j)) (slice_get ds) ∙ row_points (count t l) (points l) (exits t l) p u (connection_at cs j) (good.good_connections j lj))
    (λ j lj. length-map (words j) Some ∙ h.full j lj) underA underC (u.points n.a_callee good.callee_exists ∙ sym (u.points c h.callee_exists)) spelled in
    let r = unique f w (length cs) k apart_f apart_w (p n.a_callee) (p c) 0 (λ j lj. absurd (omega (arith, lj))) (u.grows n.a_callee good.callee_exists) (u.grows c h.callee_exists) (omega (arith, fullA)) (omega (arith, fullC)) mapped in
    let long : length cs ≡ k = sym fullA ∙ ap (width 0) r.0 ∙ fullC in (
      r.0,
      long,
      λ j lj.
          (let hj : j < length cs = omega (arith, lj, long) in
          let b = good.good_connections j hj in
          let conn = connection_at cs j in
          let labels = (get_or rows j (0, [])).1 in
          let q = p (get_or rows j (0, [])).0 in
          let fullB : width 0 (p conn.callee) ≡ length conn.returns = u.reaches conn.callee b.callee_exists ∙ sym b.entries in
          let fullQ : width 0 q ≡ length labels = u.reaches (get_or rows j (0, [])).0 (h.owned j lj) ∙ sym (h.labelled j lj) in
          let x : ℕ → _ = λ e. slice_get ds (exit_at conn e) in
          let apart_x : IsApart x (length conn.returns) = λ a c ha hc e. b.once a c ha hc (dsa (exit_at conn a) (exit_at conn c) (Under-at (length ds) conn.returns (exits_in j hj) a 0 ha) (Under-at (length ds) conn.returns (exits_in j hj) c 0 hc) e) in
          let same : map x (p conn.callee) ≡ map (slice_get labels) q =
          sym (map_map (slice_get ds) (exit_at conn) (p conn.callee)) ∙ r.1 j (omega (arith, hj, fullA)) ∙ ap (map Some) (sym (h.words_are j lj)) ∙ labels_read labels q (Under-width 0 (length labels) q (omega (arith, fullQ))) in
          (unique x (slice_get labels) (length conn.returns) (length labels) apart_x (apart labels (h.differ j lj)) (p conn.callee) q 0 (λ m lm. absurd (omega (arith, lm))) (u.grows conn.callee b.callee_exists) (u.grows (get_or rows j (0, [])).0 (h.owned j lj)) (omega (arith, fullB)) (omega (arith, fullQ)) same).0),
    )
