use Rattle.std.proofs.Common.{◌≡◌, ℕ, suc, ◌<◌, List, map, length, get_or, Some, option_map, sym, ◌∙◌, ap, subst}
use Rattle.std.specs.List.{slice_get}
use Rattle.std.proofs.lemmas.List.{length-map}
use Rattle.std.proofs.lemmas.Option.{slice_get-map, slice_get-get_or}
use Rattle.cf_model.specs.Renumbering.{IsCanon}
use Rattle.cf_model.specs.FlatFunctions.{points}
use Rattle.cf_model.specs.Patterns.{rows, a_pattern, b_patterns, distinct_rows, return_lists}
use Rattle.cf_model.specs.Diagrams.{Levels, no_connection, connection_at, count, node, row, pattern, exits, IsGood}
use Rattle.cf_model.proofs.Canonicity.{level_holds}
use Rattle.cf_model.proofs.Callees.{a_law, b_rows, callees_law, returns_law, rows_canon, rows_are}

-- The laws of a grouping of level k, one above l.

pub a_above : (t : Levels) → IsGood t → (k l i : ℕ) → suc l ≡ k → i < count t k → pattern t l (node t k i).a_callee ≡ a_pattern l (pattern t k i)
a_above t g k l i e = subst (λ (m : ℕ). i < count t m → pattern t l (node t m i).a_callee ≡ a_pattern l (pattern t m i)) e (a_law t g l i)

rows_at : (t : Levels) → IsGood t → (l i : ℕ) → i < count t (suc l) → IsCanon (rows l (pattern t (suc l) i)) (pattern t l (node t (suc l) i).a_callee) (map (row (pattern t l)) (node t (suc l) i).connections)
rows_at t g l i h =
    let n = node t (suc l) i in
    subst (λ (rs : List (List ℕ)). IsCanon rs (pattern t l n.a_callee) (map (row (pattern t l)) n.connections)) (sym (rows_are t g l i h))
    (rows_canon (count t l) (points l) (exits t l) (pattern t l) (level_holds t g l) n (g.good_nodes l i h))

pub rows_above : (t : Levels) → IsGood t → (k l i : ℕ) → suc l ≡ k → i < count t k → IsCanon (rows l (pattern t k i)) (pattern t l (node t k i).a_callee) (map (row (pattern t l)) (node t k i).connections)
rows_above t g k l i e = subst (λ (m : ℕ). i < count t m → IsCanon (rows l (pattern t m i)) (pattern t l (node t m i).a_callee) (map (row (pattern t l)) (node t m i).connections)) e (rows_at t g l i)

pub middles_above : (t : Levels) → IsGood t → (k l i : ℕ) → suc l ≡ k → i < count t k → length (node t k i).connections ≡ length (distinct_rows l (pattern t k i))
middles_above t g k l i e = subst (λ (m : ℕ). i < count t m → length (node t m i).connections ≡ length (distinct_rows l (pattern t m i))) e
    (λ h. sym (length-map (node t (suc l) i).connections (row (pattern t l))) ∙ ap length (b_rows t g l i h))

read : {A B : Type 0} (f : A → B) (d : A) (xs : List A) (ys : List B) (j : ℕ) → map f xs ≡ ys → j < length xs → slice_get ys j ≡ Some (f (get_or xs j d))
read f d xs ys j e h = ap (λ (zs : List _). slice_get zs j) (sym e) ∙ slice_get-map f xs j ∙ ap (λ o. option_map f o) (slice_get-get_or xs j d h)

pub b_above : (t : Levels) → IsGood t → (k l i j : ℕ) → suc l ≡ k → i < count t k → j < length (node t k i).connections → slice_get (b_patterns l (pattern t k i)) j ≡ Some (pattern t l (connection_at (node t k i).connections j).callee)
b_above t g k l i j e =
    subst (λ (m : ℕ). i < count t m → j < length (node t m i).connections → slice_get (b_patterns l (pattern t m i)) j ≡ Some (pattern t l (connection_at (node t m i).connections j).callee)) e
    (λ h hj. read (λ b. pattern t l b.callee) no_connection (node t (suc l) i).connections (b_patterns l (pattern t (suc l) i)) j (callees_law t g l i h) hj)

pub returns_above : (t : Levels) → IsGood t → (k l i j : ℕ) → suc l ≡ k → i < count t k → j < length (node t k i).connections → slice_get (return_lists l (pattern t k i)) j ≡ Some (connection_at (node t k i).connections j).returns
returns_above t g k l i j e =
    subst (λ (m : ℕ). i < count t m → j < length (node t m i).connections → slice_get (return_lists l (pattern t m i)) j ≡ Some (connection_at (node t m i).connections j).returns) e
    (λ h hj. read (λ b. b.returns) no_connection (node t (suc l) i).connections (return_lists l (pattern t (suc l) i)) j (returns_law t g l i h) hj)
