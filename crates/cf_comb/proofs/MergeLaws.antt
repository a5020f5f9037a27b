use Rattle.std.proofs.Common.{◌≡◌, ℕ, ◌<◌, ◌≤◌, ◌+◌, ◌*◌, List, [], ◌∷◌, ◌++◌, length, take, get_or, refl, sym, ◌∙◌, ap, subst, arith}
use Rattle.std.specs.Prelude.{All}
use Rattle.std.proofs.lemmas.List.{take_more, take_all}
use Rattle.std.proofs.lemmas.List.Elements.{All-push}
use Rattle.std.proofs.lemmas.List.Quantifiers.{all_pairs_push}
use Rattle.cf_model.specs.PairSums.{PairTerm, PairSum, IsPairBefore, IsPairSum, added}
use Rattle.cf_model.proofs.PairSumLaws.{before_before, pair_sum-nil, pair_sum-added}
use Rattle.cf_comb.specs.Merges.{no_term}
use Rattle.cf_comb.proofs.TallyLaws.{tally, tally-cons, tally-append, tally-added}
use Rattle.cf_comb.proofs.ExitSumLaws.{tallies_tell}

-- All pairs of the sum come before a pair.
abbrev pub AllBefore : PairSum → ℕ × ℕ → Type 0
AllBefore sum p = All (λ t. IsPairBefore t.0 p) sum

-- A sum with one more term, whose pair comes after all others.
pub push_sum : (sum : PairSum) (t : PairTerm) → IsPairSum sum → AllBefore sum t.0 → 0 < t.1 → IsPairSum (sum ++ t ∷ [])
push_sum sum t s before some = record {
  sorted = all_pairs_push (λ (u v : PairTerm). IsPairBefore u.0 v.0) sum t s.sorted before;
  positive = All-push (λ (u : PairTerm). 0 < u.1) sum t s.positive some;
}

pub before_push : (sum : PairSum) (t : PairTerm) (p : ℕ × ℕ) → AllBefore sum p → IsPairBefore t.0 p → AllBefore (sum ++ t ∷ []) p
before_push sum t p before b = All-push (λ (u : PairTerm). IsPairBefore u.0 p) sum t before b

before_later : (sum : PairSum) (p q : ℕ × ℕ) → AllBefore sum p → IsPairBefore p q → AllBefore sum q
before_later sum p q before b k d lk = before_before (get_or sum k d).0 p q (before k d lk) b

-- one more term of a tally
pub tally_push : (w : ℕ × ℕ → ℕ) (sum : List PairTerm) (t : PairTerm) → tally w (sum ++ t ∷ []) ≡ tally w sum + t.1 * w t.0
tally_push w sum t = tally-append w sum (t ∷ []) ∙ omega (arith, tally-cons w t [])

pub tally_more : (w : ℕ × ℕ → ℕ) (terms : List PairTerm) (i : ℕ) → i < length terms → tally w (take (i + 1) terms) ≡ tally w (take i terms) + (get_or terms i no_term).1 * w (get_or terms i no_term).0
tally_more w terms i h = ap (tally w) (take_more terms i no_term h) ∙ tally_push w (take i terms) (get_or terms i no_term)

-- The sum of two sums up to places i and j: all its pairs come before the next one of either.
pub record IsMerged (a b : PairSum) (i j : ℕ) (sum : PairSum) : Type 0 where
  pub first_in : i ≤ length a
  pub second_in : j ≤ length b
  pub is_sum : IsPairSum sum
  pub before_first : i < length a → AllBefore sum (get_or a i no_term).0
  pub before_second : j < length b → AllBefore sum (get_or b j no_term).0
  pub tallies : (w : ℕ × ℕ → ℕ) → tally w sum ≡ tally w (take i a) + tally w (take j b)

pub merged_none : (a b : PairSum) (sum : PairSum) → sum ≡ [] → IsMerged a b 0 0 sum
merged_none a b sum e = subst (IsMerged a b 0 0) (sym e) (record {
  first_in = omega arith;
  second_in = omega arith;
  is_sum = pair_sum-nil;
  before_first = λ h k d lk. absurd (omega (arith, lk));
  before_second = λ h k d lk. absurd (omega (arith, lk));
  tallies = λ w. refl;
})

turned : (a b : PairSum) (i j : ℕ) (sum : PairSum) → IsMerged a b i j sum → IsMerged b a j i sum
turned a b i j sum m = record {
  first_in = m.second_in;
  second_in = m.first_in;
  is_sum = m.is_sum;
  before_first = m.before_second;
  before_second = m.before_first;
  tallies = λ w. m.tallies w ∙ omega arith;
}

-- the pair after one in a sum
next_pair : (a : PairSum) (i : ℕ) → IsPairSum a → i + 1 < length a → IsPairBefore (get_or a i no_term).0 (get_or a (i + 1) no_term).0
next_pair a i s h = s.sorted i (i + 1) no_term (omega arith) h

-- one more term, of the first sum
pub merged_first : (a b : PairSum) (i j : ℕ) (sum : PairSum) → IsPairSum a → IsMerged a b i j sum → i < length a → (j < length b → IsPairBefore (get_or a i no_term).0 (get_or b j no_term).0) → IsMerged a b (i + 1) j (sum ++ get_or a i no_term ∷ [])
merged_first a b i j sum s m h before =
    let t = get_or a i no_term in
    record {
      first_in = omega (arith, h);
      second_in = m.second_in;
      is_sum = push_sum sum t m.is_sum (m.before_first h) (s.positive i no_term h);
      before_first = λ l. before_push sum t (get_or a (i + 1) no_term).0 (before_later sum t.0 (get_or a (i + 1) no_term).0 (m.before_first h) (next_pair a i s l)) (next_pair a i s l);
      before_second = λ l. before_push sum t (get_or b j no_term).0 (m.before_second l) (before l);
      tallies = λ w. tally_push w sum t ∙ omega (arith, m.tallies w, tally_more w a i h);
    }

-- of the second sum
pub merged_second : (a b : PairSum) (i j : ℕ) (sum : PairSum) → IsPairSum b → IsMerged a b i j sum → j < length b → (i < length a → IsPairBefore (get_or b j no_term).0 (get_or a i no_term).0) → IsMerged a b i (j + 1) (sum ++ get_or b j no_term ∷ [])
merged_second a b i j sum s m h before = turned b a (j + 1) i (sum ++ get_or b j no_term ∷ []) (merged_first b a j i sum s (turned a b i j sum m) h before)

spread : (m n k x y : ℕ) → (m + n) * k + (x + y) ≡ (x + m * k) + (y + n * k)
spread m n k x y = omega arith

-- of both, where their pairs are equal
pub merged_both : (a b : PairSum) (i j : ℕ) (sum : PairSum) → IsPairSum a → IsPairSum b → IsMerged a b i j sum → i < length a → j < length b → (get_or a i no_term).0 ≡ (get_or b j no_term).0
    → IsMerged a b (i + 1) (j + 1) (sum ++ ((get_or a i no_term).0, (get_or a i no_term).1 + (get_or b j no_term).1) ∷ [])
merged_both a b i j sum sa sb m hi hj e =
    let t = get_or a i no_term in
    let u = get_or b j no_term in
    let both : PairTerm = (t.0, t.1 + u.1) in
    let some : 0 < t.1 = sa.positive i no_term hi in
    let next : j + 1 < length b → IsPairBefore t.0 (get_or b (j + 1) no_term).0 = λ l. subst (λ (p : ℕ × ℕ). IsPairBefore p (get_or b (j + 1) no_term).0) (sym e) (next_pair b j sb l) in
    record {
      first_in = omega (arith, hi);
      second_in = omega (arith, hj);
      is_sum = push_sum sum both m.is_sum (m.before_first hi) (omega (arith, some));
      before_first = λ l. before_push sum both (get_or a (i + 1) no_term).0 (before_later sum t.0 (get_or a (i + 1) no_term).0 (m.before_first hi) (next_pair a i sa l)) (next_pair a i sa l);
      before_second = λ l. before_push sum both (get_or b (j + 1) no_term).0 (before_later sum t.0 (get_or b (j + 1) no_term).0 (m.before_first hi) (next l)) (next l);
      tallies = λ w.
          tally_push w sum both
          ∙ omega (arith, m.tallies w, spread t.1 u.1 (w t.0) (tally w (take i a)) (tally w (take j b)), tally_more w a i hi, tally_more w b j hj, ap (λ (p : ℕ × ℕ). u.1 * w p) e);
    }

-- all terms of both
pub merged_all : (a b : PairSum) (i j : ℕ) (sum : PairSum) → IsPairSum a → IsPairSum b → IsMerged a b i j sum → length a + length b ≤ i + j → sum ≡ added a b
merged_all a b i j sum sa sb m h =
    let ei : take i a ≡ a = take_all i a (omega (arith, h, m.first_in, m.second_in)) in
    let ej : take j b ≡ b = take_all j b (omega (arith, h, m.first_in, m.second_in)) in
    tallies_tell sum (added a b) m.is_sum (pair_sum-added a b sa sb.positive)
    (λ w. m.tallies w ∙ ap (λ (x : PairSum). tally w x + tally w (take j b)) ei ∙ ap (λ (x : PairSum). tally w a + tally w x) ej ∙ sym (tally-added w a b))
