use Rattle.std.proofs.Common.{◌≡◌, ℕ, zero, suc, ◌<◌, ◌≤◌, ◌+◌, ◌*◌, Bool, true, false, List, [], ◌∷◌, ◌++◌, length, map, take, get_or, refl, sym, ◌∙◌, ap, subst, arith, inl, inr, Less, Equal, is_lt, nat_cmp}
use Rattle.std.specs.Prelude.{All}
use Rattle.std.proofs.lemmas.List.{take_all}
use Rattle.std.proofs.lemmas.List.Elements.{All-map}
use Rattle.std.proofs.lemmas.List.Sorted.{All-permutation, sum_by-IsPermutation}
use Rattle.std.proofs.lemmas.List.Sums.{sum_by_more_le}
use Rattle.std.specs.Bool.{Decides}
use Rattle.std.specs.Cmp.{nat_cmp_is}
use Rattle.std.specs.List.Sorted.{IsPermutation}
use Rattle.std.specs.declared.cmp.Ordering.{Ordering}
use Rattle.std.specs.Ordering.{ordering_then}
use Rattle.cf_model.specs.PairSums.{PairTerm, PairSum, IsPairBefore, IsPairSum, same_pair, pair_before, total, added, relabelled_pair, relabelled}
use Rattle.cf_model.proofs.PairSumLaws.{pair_decides, before_decides, pairs_ordered, before_before, pair_sum-nil, pair_sum-added, pair_sum-relabelled}
use Rattle.cf_comb.specs.Merges.{no_term, IsInOrder}
use Rattle.cf_comb.proofs.TallyLaws.{tally, tally-added, total-tally}
use Rattle.cf_comb.proofs.BitLaws.{sum_by-map}
use Rattle.cf_comb.proofs.ExitSumLaws.{tallies_tell}
use Rattle.cf_comb.proofs.MergeLaws.{AllBefore, push_sum, before_push, tally_push, tally_more}

refuted : (b : Bool) (P : Type 0) → Decides b P → (P → ⊥) → b ≡ false
refuted true P d n = absurd (n (d.0 refl))
refuted false P d n = refl

-- The sum of terms up to place i: a sum, and a last pair that comes after all of its pairs, so often.
pub record IsGathered (terms : List PairTerm) (i : ℕ) (sum : PairSum) (pair : ℕ × ℕ) (count : ℕ) : Type 0 where
  pub from : 1 ≤ i
  pub within : i ≤ length terms
  pub is_sum : IsPairSum sum
  pub before : AllBefore sum pair
  pub some : 0 < count
  pub last : (k : ℕ) → k + 1 ≡ i → (get_or terms k no_term).0 ≡ pair
  pub tallies : (w : ℕ × ℕ → ℕ) → tally w sum + count * w pair ≡ tally w (take i terms)

pub gathered_one : (terms : List PairTerm) (sum : PairSum) → 0 < length terms → All (λ t. 0 < t.1) terms → sum ≡ [] → IsGathered terms 1 sum (get_or terms 0 no_term).0 (get_or terms 0 no_term).1
gathered_one terms sum h pos e = subst (λ (s : PairSum). IsGathered terms 1 s (get_or terms 0 no_term).0 (get_or terms 0 no_term).1) (sym e) (record {
  from = omega arith;
  within = omega (arith, h);
  is_sum = pair_sum-nil;
  before = λ k d lk. absurd (omega (arith, lk));
  some = pos 0 no_term h;
  last = λ k ek. (let zero_is : k ≡ 0 = omega (arith, ek) in ap (λ (n : ℕ). (get_or terms n no_term).0) zero_is);
  tallies = λ w. omega (arith, tally_more w terms 0 h);
})

-- the last pair isn't after the next one
not_after : (terms : List PairTerm) (i : ℕ) (sum : PairSum) (pair : ℕ × ℕ) (count : ℕ) → IsInOrder terms → IsGathered terms i sum pair count → i < length terms → IsPairBefore (get_or terms i no_term).0 pair → ⊥
not_after terms zero sum pair count order g h b = absurd (omega (arith, g.from))
not_after terms (suc k) sum pair count order g h b =
    let one : suc k ≡ k + 1 = omega arith in
    order k (omega (arith, h)) (subst (λ (p : ℕ × ℕ). IsPairBefore (get_or terms (k + 1) no_term).0 p) (sym (g.last k (sym one))) (subst (λ (n : ℕ). IsPairBefore (get_or terms n no_term).0 pair) one b))

last_at : (terms : List PairTerm) (i : ℕ) (pair : ℕ × ℕ) → (get_or terms i no_term).0 ≡ pair → (k : ℕ) → k + 1 ≡ i + 1 → (get_or terms k no_term).0 ≡ pair
last_at terms i pair e k ek = ap (λ (n : ℕ). (get_or terms n no_term).0) (let same : k ≡ i = omega (arith, ek) in same) ∙ e

spread : (m n k x : ℕ) → x + (m + n) * k ≡ x + m * k + n * k
spread m n k x = omega arith

-- the next pair is the last one again
pub gathered_same : (terms : List PairTerm) (i : ℕ) (sum : PairSum) (pair : ℕ × ℕ) (count : ℕ) → IsGathered terms i sum pair count → i < length terms → (get_or terms i no_term).0 ≡ pair → IsGathered terms (i + 1) sum pair (count + (get_or terms i no_term).1)
gathered_same terms i sum pair count g h e = record {
  from = omega arith;
  within = omega (arith, h);
  is_sum = g.is_sum;
  before = g.before;
  some = omega (arith, g.some);
  last = last_at terms i pair e;
  tallies = λ w. spread count (get_or terms i no_term).1 (w pair) (tally w sum) ∙ omega (arith, g.tallies w, tally_more w terms i h, ap (λ (p : ℕ × ℕ). (get_or terms i no_term).1 * w p) e);
}

-- or one that comes after it
pub gathered_other : (terms : List PairTerm) (i : ℕ) (sum : PairSum) (pair : ℕ × ℕ) (count : ℕ) → IsInOrder terms → All (λ t. 0 < t.1) terms → IsGathered terms i sum pair count → i < length terms → ((get_or terms i no_term).0 ≡ pair → ⊥)
    → IsGathered terms (i + 1) (sum ++ (pair, count) ∷ []) (get_or terms i no_term).0 (get_or terms i no_term).1
gathered_other terms i sum pair count order pos g h n =
    let next = (get_or terms i no_term).0 in
    let after : IsPairBefore pair next =
    pairs_ordered next pair (refuted (same_pair next pair) (next ≡ pair) (pair_decides next pair) n)
    (refuted (pair_before next pair) (IsPairBefore next pair) (before_decides next pair) (not_after terms i sum pair count order g h)) in
    record {
      from = omega arith;
      within = omega (arith, h);
      is_sum = push_sum sum (pair, count) g.is_sum g.before g.some;
      before = before_push sum (pair, count) next (λ k d lk. before_before (get_or sum k d).0 pair next (g.before k d lk) after) after;
      some = pos i no_term h;
      last = last_at terms i next refl;
      tallies = λ w. omega (arith, tally_push w sum (pair, count), g.tallies w, tally_more w terms i h);
    }

-- all terms
pub gathered_all : (terms : List PairTerm) (i : ℕ) (sum : PairSum) (pair : ℕ × ℕ) (count : ℕ) → All (λ t. 0 < t.1) terms → IsGathered terms i sum pair count → length terms ≤ i → sum ++ (pair, count) ∷ [] ≡ added [] terms
gathered_all terms i sum pair count pos g h =
    tallies_tell (sum ++ (pair, count) ∷ []) (added [] terms) (push_sum sum (pair, count) g.is_sum g.before g.some) (pair_sum-added [] terms pair_sum-nil pos)
    (λ w. tally_push w sum (pair, count) ∙ g.tallies w ∙ ap (tally w) (take_all i terms h) ∙ sym (tally-added w [] terms ∙ omega arith))

-- the coefficients are within the total
pub gathered_room : (terms : List PairTerm) (i : ℕ) (sum : PairSum) (pair : ℕ × ℕ) (count : ℕ) → IsGathered terms i sum pair count → i < length terms → count + (get_or terms i no_term).1 ≤ total terms
gathered_room terms i sum pair count g h =
    omega (arith, g.tallies (λ p. 1), total-tally (take i terms), sum_by_more_le (λ (t : PairTerm). t.1) terms i no_term h)

-- the same, by equal parts
pub gathered_alike : (terms : List PairTerm) (i : ℕ) (sum sum2 : PairSum) (pair pair2 : ℕ × ℕ) (count count2 : ℕ) → sum2 ≡ sum → pair2 ≡ pair → count2 ≡ count → IsGathered terms i sum pair count → IsGathered terms i sum2 pair2 count2
gathered_alike terms i sum sum2 pair pair2 count count2 es ep ec g =
    subst (λ (s : PairSum). IsGathered terms i s pair2 count2) (sym es) (subst (λ (p : ℕ × ℕ). IsGathered terms i sum p count2) (sym ep) (subst (λ (n : ℕ). IsGathered terms i sum pair n) (sym ec) g))

-- a term whose pair comes before another one's is less, as terms are sorted
pub before_less : (u t : PairTerm) → IsPairBefore u.0 t.0 → is_lt (ordering_then (ordering_then (nat_cmp u.0.0 t.0.0) (nat_cmp u.0.1 t.0.1)) (nat_cmp u.1 t.1)) ≡ true
before_less u t (inl h) = ap (λ (o : Ordering). is_lt (ordering_then (ordering_then o (nat_cmp u.0.1 t.0.1)) (nat_cmp u.1 t.1))) (sym (nat_cmp_is u.0.0 t.0.0 Less h))
before_less u t (inr h) =
    ap (λ (o : Ordering). is_lt (ordering_then (ordering_then o (nat_cmp u.0.1 t.0.1)) (nat_cmp u.1 t.1))) (sym (nat_cmp_is u.0.0 t.0.0 Equal h.0))
    ∙ ap (λ (o : Ordering). is_lt (ordering_then o (nat_cmp u.1 t.1))) (sym (nat_cmp_is u.0.1 t.0.1 Less h.1))

-- terms of a sum that were relabelled and sorted
pub moved_positive : (ps qs : List ℕ) (sum terms : PairSum) → IsPairSum sum → IsPermutation (map (relabelled_pair ps qs) sum) terms → All (λ t. 0 < t.1) terms
moved_positive ps qs sum terms s p =
    All-permutation (λ (t : PairTerm). 0 < t.1) (map (relabelled_pair ps qs) sum) terms p (All-map (λ (t : PairTerm). 0 < t.1) (relabelled_pair ps qs) sum s.positive)

pub moved_total : (ps qs : List ℕ) (sum terms : PairSum) → IsPermutation (map (relabelled_pair ps qs) sum) terms → total terms ≡ total sum
moved_total ps qs sum terms p =
    sum_by-IsPermutation (λ (t : PairTerm). t.1) (map (relabelled_pair ps qs) sum) terms p ∙ sum_by-map (λ (t : PairTerm). t.1) (relabelled_pair ps qs) sum

pub moved_added : (ps qs : List ℕ) (sum terms : PairSum) → IsPairSum sum → IsPermutation (map (relabelled_pair ps qs) sum) terms → added [] terms ≡ relabelled ps qs sum
moved_added ps qs sum terms s p =
    let moved = map (relabelled_pair ps qs) sum in
    tallies_tell (added [] terms) (relabelled ps qs sum) (pair_sum-added [] terms pair_sum-nil (moved_positive ps qs sum terms s p)) (pair_sum-relabelled ps qs sum s)
    (λ w. tally-added w [] terms ∙ ap (λ (n : ℕ). tally w [] + n) (sum_by-IsPermutation (λ (t : PairTerm). t.1 * w t.0) moved terms p) ∙ sym (tally-added w [] moved))
