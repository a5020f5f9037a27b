-- A text parts at a byte of no run, and no word is longer than its text.
use Rattle.std.proofs.Common.{ℕ, zero, suc, ◌≡◌, ◌<◌, ◌≤◌, ◌+◌, ◌||◌, Bool, true, false, not, cond, List, [], ◌∷◌, ◌++◌, take, drop, get_or, length, refl, ap, sym, ◌∙◌, arith}
use Rattle.cf_reference.specs.Words.{words, is_blank, is_sign, runs, begins_run, lengthen}
use Rattle.cf_script.specs.Answers.{any_wide}
use Rattle.cf_script.proofs.WordFacts.{by_run, run_parts}
use Rattle.cf_script.proofs.WideFacts.{short-narrow}

some_word : (b : ℕ) (rest : List ℕ) → runs b ≡ true → words (b ∷ rest) ≡ [] → ⊥
some_word b rest is none =
    let p = run_parts b is in
    at (begins_run rest) (words rest) (sym (by_run b rest p.0 p.1) ∙ none)
  where
    at : (t : Bool) (later : List (List ℕ)) → cond t (lengthen b later) ((b ∷ []) ∷ later) ≡ [] → ⊥
    at true [] e = cc
    at true (word ∷ more) e = cc
    at false later e = cc

lengthen_front : (b : ℕ) (front later : List (List ℕ)) → (front ≡ [] → ⊥) → lengthen b (front ++ later) ≡ lengthen b front ++ later
lengthen_front b [] later some = absurd (some refl)
lengthen_front b (word ∷ more) later some = refl

-- a text parts behind a byte of no run
parts_behind : (text : List ℕ) (k : ℕ) → k < length text → runs (get_or text k 0) ≡ false → words text ≡ words (take (suc k) text) ++ words (drop (suc k) text)
unfolding words
parts_behind [] k within ends = absurd (omega (arith, within))
parts_behind (b ∷ rest) zero within ends = at (is_blank b) (is_sign b) refl refl ends
  where
    at : (x y : Bool) → is_blank b ≡ x → is_sign b ≡ y → not (x || y) ≡ false → words (b ∷ rest) ≡ words (b ∷ []) ++ words rest
    at true y p q h = rw p refl
    at false true p q h = rw (p, q) refl
    at false false p q h = cc
parts_behind (b ∷ c ∷ rest) (suc k) within ends = at (is_blank b) (is_sign b) refl refl (parts_behind (c ∷ rest) k (omega (arith, within)) ends)
  where
    in_run : (t : Bool) → runs c ≡ t → words (c ∷ rest) ≡ words (c ∷ take k rest) ++ words (drop k rest)
        → cond t (lengthen b (words (c ∷ rest))) ((b ∷ []) ∷ words (c ∷ rest))
        ≡ cond t (lengthen b (words (c ∷ take k rest))) ((b ∷ []) ∷ words (c ∷ take k rest)) ++ words (drop k rest)
    in_run true is h = ap (lengthen b) h ∙ lengthen_front b (words (c ∷ take k rest)) (words (drop k rest)) (some_word c (take k rest) is)
    in_run false is h = ap (λ l. (b ∷ []) ∷ l) h

    at : (x y : Bool) → is_blank b ≡ x → is_sign b ≡ y → words (c ∷ rest) ≡ words (c ∷ take k rest) ++ words (drop k rest)
        → words (b ∷ c ∷ rest) ≡ words (b ∷ c ∷ take k rest) ++ words (drop k rest)
    at true y p q h = rw p h
    at false true p q h = rw (p, q) (ap (λ l. (b ∷ []) ∷ l) h)
    at false false p q h = rw (p, q) (in_run (runs c) refl h)
parts_behind (b ∷ []) (suc k) within ends = absurd (omega (arith, within))

-- each of the words has at most so many bytes
abbrev AreShort : ℕ → List (List ℕ) → Type 0
AreShort n [] = Unit {0}
AreShort n (word ∷ more) = (length word ≤ n) × AreShort n more

one_longer : (n : ℕ) (all : List (List ℕ)) → AreShort n all → AreShort (suc n) all
one_longer n [] h = tt
one_longer n (word ∷ more) h = (omega (arith, h.0), one_longer n more h.1)

lengthened : (n b : ℕ) (all : List (List ℕ)) → AreShort n all → AreShort (suc n) (lengthen b all)
lengthened n b [] h = (omega arith, tt)
lengthened n b (word ∷ more) h = (omega (arith, h.0), one_longer n more h.1)

no_longer : (text : List ℕ) (n : ℕ) → length text ≤ n → AreShort n (words text)
unfolding words
no_longer [] n h = tt
no_longer (b ∷ rest) zero h = absurd (omega (arith, h))
no_longer (b ∷ rest) (suc n) h = at (is_blank b) (is_sign b) (begins_run rest) (no_longer rest n (omega (arith, h)))
  where
    at : (x y z : Bool) → AreShort n (words rest)
        → AreShort (suc n) (cond x (words rest) (cond y ((b ∷ []) ∷ words rest) (cond z (lengthen b (words rest)) ((b ∷ []) ∷ words rest))))
    at true y z later = one_longer n (words rest) later
    at false true z later = (omega arith, one_longer n (words rest) later)
    at false false true later = lengthened n b (words rest) later
    at false false false later = (omega arith, one_longer n (words rest) later)

narrow_front : (front later : List (List ℕ)) → AreShort 38 front → any_wide (front ++ later) ≡ any_wide later
narrow_front [] later h = refl
narrow_front (word ∷ more) later h = ap (λ t. t || any_wide (more ++ later)) (short-narrow word h.0) ∙ narrow_front more later h.1

short_taken : (text : List ℕ) (k : ℕ) → length (take k text) ≤ k
short_taken [] zero = omega arith
short_taken [] (suc k) = omega arith
short_taken (b ∷ rest) zero = omega arith
short_taken (b ∷ rest) (suc k) = omega (arith, short_taken rest k)

-- up to a byte of no run among the first 38 no number is too wide
pub narrow-before : (text : List ℕ) (k : ℕ) → 38 < length text → k < 38 → runs (get_or text k 0) ≡ false → any_wide (words text) ≡ any_wide (words (drop (k + 1) text))
narrow-before text k long few ends =
    let next : k + 1 ≡ suc k = omega arith in
    rw next
    (ap any_wide (parts_behind text k (omega (arith, long, few)) ends)
    ∙ narrow_front (words (take (suc k) text)) (words (drop (suc k) text)) (no_longer (take (suc k) text) 38 (omega (arith, few, short_taken text (suc k)))))

all_narrow : (all : List (List ℕ)) → AreShort 38 all → any_wide all ≡ false
all_narrow [] h = refl
all_narrow (word ∷ more) h = ap (λ t. t || any_wide more) (short-narrow word h.0) ∙ all_narrow more h.1

-- nor is any in a text of at most 38 bytes
pub short-text : (text : List ℕ) → length text ≤ 38 → any_wide (words text) ≡ false
short-text text short = all_narrow (words text) (no_longer text 38 short)
