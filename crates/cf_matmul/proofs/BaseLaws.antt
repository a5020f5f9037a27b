use Rattle.std.proofs.Common.{inl, inr, ◌≡◌, ◌≢◌, ℕ, zero, suc, ◌<◌, ◌+◌, ◌*◌, ◌/◌, ◌%◌, Bool, true, false, List, [], ◌∷◌, ◌++◌, map, get_or, refl, sym, ◌∙◌, ap, subst, arith}
use Rattle.std.specs.Prelude.{◌⊎◌, ◌==◌, All, flat_map}
use Rattle.cf_model.specs.Renumbering.{AllDiffer, IsCanon}
use Rattle.cf_model.specs.Assignments.{number_of, row_of as row_index, column_of as column_index, all_bits}
use Rattle.cf_model.specs.FlatFunctions.{points}
use Rattle.cf_model.specs.PairSums.{PairSum, single, added}
use Rattle.cf_model.specs.Diagrams.{Levels, connection_at, count, node, pattern, exit_at, IsGood}
use Rattle.cf_model.proofs.AssignmentLaws.{all_bits-more}
use Rattle.cf_model.proofs.Canonicity.{pattern-dont_care, pattern-fork}
use Rattle.cf_model.proofs.Entries.{Halves, halves, middle_at}
use Rattle.cf_table.specs.declared.Gid.{Gid}
use Rattle.std.proofs.lemmas.List.Elements.{All-cons}
use Rattle.cf_build.specs.Assembling.{label_at, row_labels, labels_over, HasCanon}
use Rattle.cf_pair.proofs.Zips.{all_labels_of}
use Rattle.cf_comb.specs.ExitSums.{exit_sum}
use Rattle.cf_comb.specs.declared.CombId.{CombId}
use Rattle.cf_comb.specs.CombBooks.{OwnsSum, sum_of}
use Rattle.cf_comb.proofs.ExitSumLaws.{exit_sum-base, all_bits-one}
use Rattle.cf_matmul.specs.Symbolic.{exit_in, exit_sums, two_sums, sums_of, HasMade, HasSums}
use Rattle.cf_matmul.proofs.SumRows.{canon_named, over_map, all_over, all_none, owned_kept, sums_kept}

-- what the code works out: 0 at DONT_CARE, the bit at FORK
abbrev pub IsExitAt : ℕ → ℕ → ℕ → Type 0
IsExitAt at bit j = ((at ≡ 0) × (j ≡ 0)) ⊎ ((at ≢ 0) × (j ≡ bit))

-- the exit that a grouping of level 0 has at a bit
base_exit : (t : Levels) (at bit j : ℕ) → at < 2 → bit < 2 → IsExitAt at bit j → get_or (pattern t 0 at) bit 0 ≡ j
base_exit t zero zero j ha hb e = ap (λ (p : List ℕ). get_or p 0 0) (pattern-dont_care t) ∙ sym (by e)
  where
    by : IsExitAt 0 0 j → j ≡ 0
    by (inl h) = h.1
    by (inr h) = h.1
base_exit t zero (suc zero) j ha hb e = ap (λ (p : List ℕ). get_or p 1 0) (pattern-dont_care t) ∙ sym (by e)
  where
    by : IsExitAt 0 1 j → j ≡ 0
    by (inl h) = h.1
    by (inr h) = absurd (h.0 refl)
base_exit t (suc zero) zero j ha hb e = ap (λ (p : List ℕ). get_or p 0 0) (pattern-fork t 0) ∙ sym (by e)
  where
    by : IsExitAt 1 0 j → j ≡ 0
    by (inl h) = h.1
    by (inr h) = h.1
base_exit t (suc zero) (suc zero) j ha hb e = ap (λ (p : List ℕ). get_or p 1 0) (pattern-fork t 0) ∙ sym (by e)
  where
    by : IsExitAt 1 1 j → j ≡ 1
    by (inl h) = absurd (omega (arith, h.0))
    by (inr h) = h.1
base_exit t (suc (suc at)) bit j ha hb e = absurd (omega (arith, ha))
base_exit t at (suc (suc bit)) j ha hb e = absurd (omega (arith, hb))

-- the exit of a grouping of level 1 at two bits
two_exit_1 : (t : Levels) → IsGood t → (i row col : ℕ) → i < count t 1 → row < 2 → col < 2 → (j e : ℕ) → IsExitAt (node t 1 i).a_callee row j → IsExitAt (connection_at (node t 1 i).connections j).callee col e
    → get_or (connection_at (node t 1 i).connections j).returns e 0 ≡ get_or (pattern t 1 i) (2 * row + col) 0
two_exit_1 t g i row col hi hr hc j e ej ee =
    let n = 2 * row + col in
    let hn : n < points 1 = omega (arith, hr, hc) in
    let h : Halves t 1 0 i n = halves t g 1 0 i n (omega arith) hi hn in
    let left : n / points 0 ≡ row = omega (arith, hc) in
    let right : n % points 0 ≡ col = omega (arith, hc) in
    let a : (node t 1 i).a_callee < 2 = omega (arith, h.a_callee_exists, g.base) in
    let middle : middle_at t 1 0 i n ≡ j = ap (λ (k : ℕ). get_or (pattern t 0 (node t 1 i).a_callee) k 0) left ∙ base_exit t (node t 1 i).a_callee row j a hr ej in
    let b : (connection_at (node t 1 i).connections j).callee < 2 = omega (arith, h.b_callee_exists, g.base, ap (λ (k : ℕ). (connection_at (node t 1 i).connections k).callee) middle) in
    sym (h.entry ∙ ap (λ (k : ℕ). exit_at (connection_at (node t 1 i).connections k) (get_or (pattern t 0 (connection_at (node t 1 i).connections k).callee) (n % points 0) 0)) middle
    ∙ ap (λ (k : ℕ). exit_at (connection_at (node t 1 i).connections j) (get_or (pattern t 0 (connection_at (node t 1 i).connections j).callee) k 0)) right
    ∙ ap (exit_at (connection_at (node t 1 i).connections j)) (base_exit t (connection_at (node t 1 i).connections j).callee col e b hc ee))

pub two_exit : (t : Levels) → IsGood t → (l i row col : ℕ) → l ≡ 1 → i < count t l → row < 2 → col < 2 → (j e : ℕ) → IsExitAt (node t l i).a_callee row j → IsExitAt (connection_at (node t l i).connections j).callee col e
    → get_or (connection_at (node t l i).connections j).returns e 0 ≡ get_or (pattern t l i) (2 * row + col) 0
two_exit t g l i row col el = subst (λ (l : ℕ). i < count t l → row < 2 → col < 2 → (j e : ℕ) → IsExitAt (node t l i).a_callee row j → IsExitAt (connection_at (node t l i).connections j).callee col e
    → get_or (connection_at (node t l i).connections j).returns e 0 ≡ get_or (pattern t l i) (2 * row + col) 0) (sym el) (two_exit_1 t g i row col)

-- the number of two bits
pub number_of_two : (row col : ℕ) → row < 2 → col < 2 → number_of ((row == 1) ∷ (col == 1) ∷ []) ≡ 2 * row + col
number_of_two zero zero a b = refl
number_of_two zero (suc zero) a b = refl
number_of_two (suc zero) zero a b = refl
number_of_two (suc zero) (suc zero) a b = refl
number_of_two (suc (suc row)) col a b = absurd (omega (arith, a))
number_of_two row (suc (suc col)) a b = absurd (omega (arith, b))

-- the sum that is made of four exits
pub sum_of_two : (p q : List ℕ) (row col left top right bottom : ℕ) → row < 2 → col < 2 → left ≡ get_or p (2 * row + 0) 0 → top ≡ get_or q (2 * 0 + col) 0 → right ≡ get_or p (2 * row + 1) 0 → bottom ≡ get_or q (2 * 1 + col) 0
    → added (single left top) (single right bottom) ≡ exit_sum 1 (exit_in p) (exit_in q) ((row == 1) ∷ []) ((col == 1) ∷ [])
sum_of_two p q row col left top right bottom hr hc el et er eb =
    let at : List ℕ → ℕ → ℕ = λ v k. get_or v k 0 in
    ap (λ (x : ℕ). added (single x top) (single right bottom)) (el ∙ ap (at p) (sym (number_of_two row 0 hr (omega arith))))
    ∙ ap (λ (x : ℕ). added (single (exit_in p ((row == 1) ∷ false ∷ [])) x) (single right bottom)) (et ∙ ap (at q) (sym (number_of_two 0 col (omega arith) hc)))
    ∙ ap (λ (x : ℕ). added (single (exit_in p ((row == 1) ∷ false ∷ [])) (exit_in q (false ∷ (col == 1) ∷ []))) (single x bottom)) (er ∙ ap (at p) (sym (number_of_two row 1 hr (omega arith))))
    ∙ ap (λ (x : ℕ). added (single (exit_in p ((row == 1) ∷ false ∷ [])) (exit_in q (false ∷ (col == 1) ∷ []))) (single (exit_in p ((row == 1) ∷ true ∷ [])) x)) (eb ∙ ap (at q) (sym (number_of_two 1 col (omega arith) hc)))
    ∙ sym (exit_sum-base (exit_in p) (exit_in q) (row == 1) (col == 1))

-- the lists of two bits
all_bits-two : all_bits 2 ≡ (false ∷ false ∷ []) ∷ (false ∷ true ∷ []) ∷ (true ∷ false ∷ []) ∷ (true ∷ true ∷ []) ∷ []
all_bits-two = all_bits-more 1 ∙ ap (λ (ts : List (List Bool)). map (λ z. false ∷ z) ts ++ map (λ z. true ∷ z) ts) all_bits-one

pub base_list : (p q : List ℕ) → two_sums p q false ++ two_sums p q true ≡ exit_sums 0 p q
base_list p q = sym (ap (map (λ bits. exit_sum 1 (exit_in p) (exit_in q) (row_index bits) (column_index bits))) all_bits-two)

-- THE BASE: two rows over FORK
pub base_made : (t w : Levels) (start mid book : List PairSum) → AllDiffer book → (p q : List ℕ) (top bottom : List CombId) → HasMade start mid top (two_sums p q false) → HasMade mid book bottom (two_sums p q true)
    → (r : Gid × List CombId) → HasCanon w r.0 1 (labels_over (pattern t 0) 1 ((1, top) ∷ (1, bottom) ∷ [])) r.1 → HasSums w book 1 (exit_sums 0 p q) r
unfolding pattern
base_made t w start mid book d p q top bottom ht hb r c =
    let f : CombId → PairSum = sum_of book in
    let rs : List (ℕ × List CombId) = (1, top) ∷ (1, bottom) ∷ [] in
    let labels = labels_over (pattern t 0) 1 rs in
    let owned_top = owned_kept mid book hb.kept top ht.owned in
    let owned : All (OwnsSum book) labels = all_over (OwnsSum book) (pattern t 0) 1 rs
    (All-cons (λ (r : ℕ × List CombId). All (OwnsSum book) r.1) (1, top) ((1, bottom) ∷ []) owned_top (All-cons (λ (r : ℕ × List CombId). All (OwnsSum book) r.1) (1, bottom) [] hb.owned (all_none (λ (r : ℕ × List CombId). All (OwnsSum book) r.1)))) in
    let ids_owned : All (OwnsSum book) r.1 = all_labels_of (OwnsSum book) labels (pattern w r.0.level r.0.at) r.1 (record { at = 0 }) c.canon owned in
    let over : (ℕ → List ℕ) → List PairSum → List PairSum → List PairSum = λ q x y. labels_over q 1 ((1, x) ∷ (1, y) ∷ []) in
    let is : sums_of book labels ≡ exit_sums 0 p q =
    over_map f (pattern t 0) 1 rs
    ∙ ap (λ (x : List PairSum). over (pattern t 0) x (sums_of book bottom)) (sums_kept mid book hb.kept top ht.owned ∙ ht.sums_are)
    ∙ ap (λ (y : List PairSum). over (pattern t 0) (two_sums p q false) y) hb.sums_are
    ∙ ap (λ (v : List ℕ). flat_map (λ j. row_labels (pattern t 0) (get_or ((1, two_sums p q false) ∷ (1, two_sums p q true) ∷ []) j (0, []))) v) (pattern-fork t 0)
    ∙ ap (λ (v : List ℕ). flat_map (label_at (two_sums p q false)) v ++ flat_map (label_at (two_sums p q true)) v ++ []) (pattern-fork t 0)
    ∙ base_list p q in
    record {
      level = c.level;
      there = c.there;
      owned = ids_owned;
      canon = subst (λ (x : List PairSum). IsCanon x (pattern w r.0.level r.0.at) (sums_of book r.1)) is (canon_named book d labels (pattern w r.0.level r.0.at) r.1 c.canon ids_owned);
    }
