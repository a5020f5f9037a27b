-- Numbers that digits spell, and which of them fit.
use Rattle.std.proofs.Common.{ℕ, suc, zero, ℤ, pos, neg_ℤ, ◌*ℤ◌, ◌-ℤ◌, ◌≤ℤ◌, ◌≡◌, ◌<◌, ◌≤◌, ◌+◌, ◌*◌, ◌-◌, ◌^◌, Bool, true, false, not, cond, ◌&&◌, nat_lt, nat_le, ◌==◌, List, [], ◌∷◌, take, get_or, length, Option, Some, None, refl, ap, sym, ◌∙◌, arith}
use Rattle.std.specs.List.{fold}
use Rattle.std.proofs.lemmas.Bool.{leb-true, le-leb, ltb-true, lt-ltb, le-ltb, eqb-true}
use Rattle.std.proofs.lemmas.Int.{ints, to_z-of_z}
use mir.Syntax.{w128}
use mir.Val.{to_z, of_z}
use Rattle.std.specs.Option.{option_map}
use Rattle.std.specs.Char.{is_ascii_digit}
use Rattle.std.specs.List.{list_all}
use Rattle.cf_model.proofs.TermLaws.{fitting-some}
use Rattle.std.proofs.lemmas.List.Sums.{fold_more}
use Rattle.cf_model.specs.Values.{fits, fitting}
use Rattle.cf_reference.specs.Words.{decimal_value, natural, number, place}

abbrev more_digit : ℕ → ℕ → ℕ
more_digit n digit = 10 * n + (digit - 48)

fold-take : (a : ℕ) (digits : List ℕ) (k : ℕ) → fold more_digit a (take k digits) ≤ fold more_digit a digits
fold-take a [] zero = omega arith
fold-take a [] (suc k) = omega arith
fold-take a (d ∷ digits) zero = let later = fold-take (more_digit a d) digits zero in omega arith
fold-take a (d ∷ digits) (suc k) = fold-take (more_digit a d) digits k

-- a front of digits spells no greater number
pub decimal-take : (digits : List ℕ) (k : ℕ) → decimal_value (take k digits) ≤ decimal_value digits
decimal-take digits k = fold-take 0 digits k

-- one digit more
pub decimal-more : (digits : List ℕ) (i : ℕ) → i < length digits → decimal_value (take (i + 1) digits) ≡ 10 * decimal_value (take i digits) + (get_or digits i 0 - 48)
decimal-more digits i h = fold_more more_digit 0 digits i 0 h

pub negative-low : (n : ℕ) → neg_ℤ (pos n) ≤ℤ pos 0
negative-low n = omega (arith, ints)

pub negative-more : (n d : ℕ) → pos 10 *ℤ neg_ℤ (pos n) -ℤ pos d ≡ neg_ℤ (pos (10 * n + d))
negative-more n d = omega (arith, ints)

below_least : (least n m : ℕ) → n ≤ m → (not (nat_lt least n) && true) ≡ false → (not (nat_lt least m) && true) ≡ false
below_least least n m le h = at (nat_lt least n) refl h
  where
    at : (t : Bool) → nat_lt least n ≡ t → (not t && true) ≡ false → (not (nat_lt least m) && true) ≡ false
    at true is k = let l : least < n = ltb-true least n is in rw (lt-ltb least m (omega arith)) refl
    at false is k = cc

-- below a number that doesn't fit none fits
pub negative-wide : (n m : ℕ) → n ≤ m → fits (neg_ℤ (pos n)) ≡ false → fits (neg_ℤ (pos m)) ≡ false
negative-wide zero m le h = cc
negative-wide (suc n) zero le h = absurd (omega arith)
negative-wide (suc n) (suc m) le h = below_least (2 ^ 127 - 1) n m (omega arith) h

pub no_fit : (z : ℤ) → fitting z ≡ None → fits z ≡ false
no_fit z none = at (fits z) none
  where
    at : (t : Bool) → cond t (Some z) None ≡ None → t ≡ false
    at true k = cc
    at false k = refl

unfit : (z : ℤ) → fits z ≡ false → fitting z ≡ None
unfit z e = ap (λ t. cond t (Some z) None) e

-- where a front of digits spells no number that fits behind `-`, neither do all of them
pub negative-none : (digits : List ℕ) (i : ℕ) (v : ℤ) → i < length digits → v ≡ neg_ℤ (pos (decimal_value (take i digits))) → fitting (pos 10 *ℤ v -ℤ pos (get_or digits i 0 - 48)) ≡ None
    → fitting (neg_ℤ (pos (decimal_value digits))) ≡ None
negative-none digits i v h is none =
    let n = decimal_value (take i digits) in
    let d = get_or digits i 0 - 48 in
    let le : 10 * n + d ≤ decimal_value digits = omega (arith, decimal-more digits i h, decimal-take digits (i + 1)) in
    unfit (neg_ℤ (pos (decimal_value digits))) (negative-wide (10 * n + d) (decimal_value digits) le (no_fit (neg_ℤ (pos (10 * n + d))) (sym (ap fitting (ap (λ x. pos 10 *ℤ x -ℤ pos d) is ∙ negative-more n d)) ∙ none)))

double_negative : (n : ℕ) → neg_ℤ (neg_ℤ (pos n)) ≡ pos n
double_negative n = omega (arith, ints)

above_most : (most n : ℕ) → (not (nat_lt most n) && true) ≡ false → nat_lt (suc n) (most + 1) ≡ false
above_most most n h = at (nat_lt most n) refl h
  where
    at : (t : Bool) → nat_lt most n ≡ t → (not t && true) ≡ false → nat_lt (suc n) (most + 1) ≡ false
    at true is k = let l : most < n = ltb-true most n is in le-ltb (suc n) (most + 1) (omega arith)
    at false is k = cc

positive-wide : (n : ℕ) → fits (neg_ℤ (pos n)) ≡ false → fits (pos n) ≡ false
positive-wide zero h = cc
positive-wide (suc n) h = above_most (2 ^ 127 - 1) n h

natural-digits : (word : List ℕ) → (nat_le 1 (length word) && list_all is_ascii_digit word) ≡ true → natural word ≡ Some (pos (decimal_value word))
unfolding natural
natural-digits word e = ap (λ t. cond t (Some (pos (decimal_value word))) None) e

natural-none : (word : List ℕ) → (nat_le 1 (length word) && list_all is_ascii_digit word) ≡ false → natural word ≡ None
unfolding natural
natural-none word e = ap (λ t. cond t (Some (pos (decimal_value word))) None) e

-- what is no word of digits spells no NATURAL
pub natural-other : (word : List ℕ) → (nat_le 1 (length word) && list_all is_ascii_digit word) ≡ false → option_map fitting (natural word) ≡ None
natural-other word e = ap (option_map fitting) (natural-none word e)

-- the number that digits spell, from the one behind `-`
pub natural-some : (word : List ℕ) (v : ℤ) (result : Option ℤ) → (nat_le 1 (length word) && list_all is_ascii_digit word) ≡ true → fitting (neg_ℤ (pos (decimal_value word))) ≡ Some v
    → result ≡ fitting (neg_ℤ (to_z w128 (of_z w128 v))) → Some result ≡ option_map fitting (natural word)
natural-some word v result e some opposite =
    let s = fitting-some (neg_ℤ (pos (decimal_value word))) v some in
    let is : neg_ℤ (pos (decimal_value word)) ≡ v = s.0 in
    ap Some opposite ∙ ap (λ z. Some (fitting (neg_ℤ z))) (to_z-of_z w128 v s.1) ∙ sym (ap (option_map fitting) (natural-digits word e) ∙ ap (λ z. Some (fitting z)) (sym (double_negative (decimal_value word)) ∙ ap neg_ℤ is))

pub natural-wide : (word : List ℕ) → (nat_le 1 (length word) && list_all is_ascii_digit word) ≡ true → fitting (neg_ℤ (pos (decimal_value word))) ≡ None
    → option_map fitting (natural word) ≡ Some None
natural-wide word e none = ap (option_map fitting) (natural-digits word e) ∙ ap Some (unfit (pos (decimal_value word)) (positive-wide (decimal_value word) (no_fit (neg_ℤ (pos (decimal_value word))) none)))

-- a number behind `-`
pub number-negative : (word digits : List ℕ) → word ≡ 45 ∷ digits → (nat_le 1 (length digits) && list_all is_ascii_digit digits) ≡ true
    → option_map fitting (number word) ≡ Some (fitting (neg_ℤ (pos (decimal_value digits))))
unfolding number
number-negative word digits is e = rw is (ap (λ n. option_map fitting (option_map neg_ℤ n)) (natural-digits digits e))

pub number-bare : (word digits : List ℕ) → word ≡ 45 ∷ digits → (nat_le 1 (length digits) && list_all is_ascii_digit digits) ≡ false
    → option_map fitting (number word) ≡ None
unfolding number
number-bare word digits is e = rw is (ap (λ n. option_map fitting (option_map neg_ℤ n)) (natural-none digits e))

pub number-plain : (word : List ℕ) → ((rest : List ℕ) → word ≡ 45 ∷ rest → ⊥) → number word ≡ natural word
unfolding number natural
number-plain [] other = refl
number-plain (b ∷ rest) other = at (b == 45) refl
  where
    at : (t : Bool) → (b == 45) ≡ t → cond t (option_map neg_ℤ (natural rest)) (natural (b ∷ rest)) ≡ natural (b ∷ rest)
    at true is = absurd (other rest (ap (λ x. x ∷ rest) (eqb-true b 45 is)))
    at false is = refl

-- a position behind `@`
pub place-at : (word digits : List ℕ) → word ≡ 64 ∷ digits → place word ≡ natural digits
unfolding place
place-at word digits is = rw is refl

pub place-other : (word : List ℕ) → ((rest : List ℕ) → word ≡ 64 ∷ rest → ⊥) → place word ≡ None
unfolding place
place-other [] other = refl
place-other (b ∷ rest) other = at (b == 64) refl
  where
    at : (t : Bool) → (b == 64) ≡ t → cond t (natural rest) None ≡ None
    at true is = absurd (other rest (ap (λ x. x ∷ rest) (eqb-true b 64 is)))
    at false is = refl

-- a number with so many zeros behind it
abbrev pub with_zeros : ℕ → ℕ → ℕ
with_zeros a zero = a
with_zeros a (suc n) = with_zeros (10 * a) n

pub zeros-more : (a b n m : ℕ) → a ≤ b → n ≤ m → with_zeros a n ≤ with_zeros b m
zeros-more a b zero zero h k = h
zeros-more a b zero (suc m) h k = zeros-more a (10 * b) zero m (omega (arith, h)) (omega arith)
zeros-more a b (suc n) zero h k = absurd (omega (arith, k))
zeros-more a b (suc n) (suc m) h k = zeros-more (10 * a) (10 * b) n m (omega (arith, h)) (omega (arith, k))

digit_most : (d : ℕ) → is_ascii_digit d ≡ true → d - 48 ≤ 9
digit_most d h = at (nat_le 48 d) (nat_le d 57) refl h
  where
    at : (x y : Bool) → nat_le d 57 ≡ y → (x && y) ≡ true → d - 48 ≤ 9
    at true true e k = let l : d ≤ 57 = leb-true d 57 e in omega (arith, l)
    at true false e k = cc
    at false y e k = cc

digits_below : (digits : List ℕ) (a : ℕ) → list_all is_ascii_digit digits ≡ true → fold more_digit a digits < with_zeros (a + 1) (length digits)
digits_below [] a h = omega arith
digits_below (d ∷ digits) a h = at (digits_below digits (more_digit a d)) (is_ascii_digit d) refl h
  where
    at : (list_all is_ascii_digit digits ≡ true → fold more_digit (more_digit a d) digits < with_zeros (more_digit a d + 1) (length digits))
        → (t : Bool) → is_ascii_digit d ≡ t → (t && list_all is_ascii_digit digits) ≡ true → fold more_digit (more_digit a d) digits < with_zeros (10 * (a + 1)) (length digits)
    at below true is all =
        let later = below all in
        let most = zeros-more (more_digit a d + 1) (10 * (a + 1)) (length digits) (length digits) (omega (arith, digit_most d is)) (omega arith) in
        omega (arith, later, most)
    at below false is all = cc

under : (a b c d : ℕ) → a < b → b ≤ c → c < d → a < d
under a b c d h k l = omega (arith, h, k, l)

-- any 38 digits spell a number that fits
pub digits-fit : (digits : List ℕ) → list_all is_ascii_digit digits ≡ true → length digits ≤ 38 → fits (pos (decimal_value digits)) ≡ true
digits-fit digits all short =
    let few : decimal_value digits < 2 ^ 127 =
    under (decimal_value digits) (with_zeros 1 (length digits)) (with_zeros 1 38) (2 ^ 127) (digits_below digits 0 all) (zeros-more 1 1 (length digits) 38 (omega arith) short)
    (ltb-true (with_zeros 1 38) (2 ^ 127) refl) in
    lt-ltb (decimal_value digits) (2 ^ 127) few

-- and so do they behind `-`
pub opposite-fits : (n : ℕ) → fits (pos n) ≡ true → fits (neg_ℤ (pos n)) ≡ true
opposite-fits n h = at (fits (neg_ℤ (pos n))) refl
  where
    at : (t : Bool) → fits (neg_ℤ (pos n)) ≡ t → t ≡ true
    at true is = refl
    at false is = let e : false ≡ true = sym (positive-wide n is) ∙ h in cc

exact_fit : (n : ℕ) → fits (pos n) ≡ true → to_z w128 (of_z w128 (pos n)) ≡ pos n
exact_fit n fit = to_z-of_z w128 (pos n) (fitting-some (pos n) (pos n) (ap (λ t. cond t (Some (pos n)) None) fit)).1

-- up to 17 digits spell a number below the seventeenth power of ten
pub few-digits : (word : List ℕ) (i : ℕ) → i ≤ 17 → list_all is_ascii_digit (take i word) ≡ true → decimal_value (take i word) < with_zeros 1 17
few-digits word i few all =
    let below = digits_below (take i word) 0 all in
    let most = zeros-more 1 1 (length (take i word)) 17 (omega arith) (omega (arith, few, length_taken word i)) in
    omega (arith, below, most)
  where
    length_taken : (l : List ℕ) (k : ℕ) → length (take k l) ≤ k
    length_taken [] zero = omega arith
    length_taken [] (suc k) = omega arith
    length_taken (b ∷ l) zero = omega arith
    length_taken (b ∷ l) (suc k) = omega (arith, length_taken l k)

-- the number of a word of few digits
pub natural-few : (word : List ℕ) (n : ℕ) (v : ℤ) → 0 < length word → length word ≤ 18 → list_all is_ascii_digit word ≡ true → n ≡ decimal_value word → v ≡ pos n
    → Some (Some (to_z w128 (of_z w128 v))) ≡ option_map fitting (natural word)
natural-few word n v some short all is read =
    let d = decimal_value word in
    let fit : fits (pos d) ≡ true = digits-fit word all (omega (arith, short)) in
    let fitted : fitting (pos d) ≡ Some (pos d) = ap (λ t. cond t (Some (pos d)) None) fit in
    let same : to_z w128 (of_z w128 v) ≡ pos d = ap (λ z. to_z w128 (of_z w128 z)) (read ∙ ap pos is) ∙ exact_fit d fit in
    let both : (nat_le 1 (length word) && list_all is_ascii_digit word) ≡ true = rw (le-leb 1 (length word) some, all) refl in
    ap (λ z. Some (Some z)) same ∙ sym (ap (option_map fitting) (natural-digits word both) ∙ ap Some fitted)

-- and where there is none
pub natural-not : (word : List ℕ) → list_all is_ascii_digit word ≡ false → None ≡ option_map fitting (natural word)
natural-not word other = sym (natural-other word (at (nat_le 1 (length word))))
  where
    at : (t : Bool) → (t && list_all is_ascii_digit word) ≡ false
    at true = other
    at false = refl

pub natural-empty : (word : List ℕ) → length word ≡ 0 → None ≡ option_map fitting (natural word)
natural-empty [] e = sym (natural-other [] refl)
natural-empty (b ∷ word) e = absurd (omega (arith, e))
