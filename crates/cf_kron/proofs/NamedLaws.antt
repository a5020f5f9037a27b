use Rattle.std.proofs.Common.{◌≡◌, ℕ, suc, ◌<◌, ◌+◌, ◌*◌, ◌/◌, ◌%◌, ◌^◌, ℤ, pos, ◌*ℤ◌, Bool, true, false, List, ◌++◌, length, refl, sym, ◌∙◌, ap, subst, arith, pow-suc, length-append}
use Rattle.std.specs.Prelude.{◌==◌, ◌&&◌, if◌then◌else◌}
use Rattle.std.proofs.lemmas.Bool.Decides.{nat_tests}
use Rattle.std.proofs.lemmas.Nat.{same_from_place, div-add-mod', pow_pos}
use Rattle.std.proofs.Math.Nat.{mod-lt}
use Rattle.cf_model.specs.Assignments.{number_of, weave, row_of, column_of, first_half, second_half}
use Rattle.cf_model.specs.FlatFunctions.{IsAssignment}
use Rattle.cf_model.specs.Matrices.{identity, walsh, unit}
use Rattle.cf_model.proofs.AssignmentLaws.{half_level, halves_whole, weave-unweave, length-unweave, weave-append, row_of-weave, column_of-weave, number_of-append, number_of-below}
use Rattle.cf_model.proofs.MatrixLaws.{walsh-halves}

-- The halves of an assignment, as the rows and columns that they are woven of.
pub record Split (m : ℕ) (bits : List Bool) : Type 0 where
  pub first_row : length (row_of (first_half bits)) ≡ 2 ^ m
  pub first_column : length (column_of (first_half bits)) ≡ 2 ^ m
  pub second_row : length (row_of (second_half bits)) ≡ 2 ^ m
  pub second_column : length (column_of (second_half bits)) ≡ 2 ^ m
  pub first : weave (row_of (first_half bits)) (column_of (first_half bits)) ≡ first_half bits
  pub second : weave (row_of (second_half bits)) (column_of (second_half bits)) ≡ second_half bits
  pub row : row_of bits ≡ row_of (first_half bits) ++ row_of (second_half bits)
  pub column : column_of bits ≡ column_of (first_half bits) ++ column_of (second_half bits)

pub split : (m : ℕ) (bits : List Bool) → IsAssignment (suc (suc m)) bits → Split m bits
split m bits a =
    let h = half_level (suc m) bits a in
    let x = first_half bits in
    let y = second_half bits in
    let lx : length x ≡ 2 * 2 ^ m = h.0 ∙ pow-suc 2 m ∙ omega arith in
    let ly : length y ≡ 2 * 2 ^ m = h.1 ∙ pow-suc 2 m ∙ omega arith in
    let ux = length-unweave (2 ^ m) x lx in
    let uy = length-unweave (2 ^ m) y ly in
    let wx = weave-unweave (2 ^ m) x lx in
    let wy = weave-unweave (2 ^ m) y ly in
    let long : length (row_of x ++ row_of y) ≡ length (column_of x ++ column_of y) = length-append (row_of x) (row_of y) ∙ omega (arith, ux.0, ux.1, uy.0, uy.1) ∙ sym (length-append (column_of x) (column_of y)) in
    let whole : bits ≡ weave (row_of x ++ row_of y) (column_of x ++ column_of y) =
    sym (halves_whole bits) ∙ ap (λ (v : List Bool). v ++ y) (sym wx) ∙ ap (λ (v : List Bool). weave (row_of x) (column_of x) ++ v) (sym wy)
    ∙ sym (weave-append (row_of x) (row_of y) (column_of x) (column_of y) (ux.0 ∙ sym ux.1)) in
    record {
      first_row = ux.0;
      first_column = ux.1;
      second_row = uy.0;
      second_column = uy.1;
      first = wx;
      second = wy;
      row = ap row_of whole ∙ row_of-weave (row_of x ++ row_of y) (column_of x ++ column_of y) long;
      column = ap column_of whole ∙ column_of-weave (row_of x ++ row_of y) (column_of x ++ column_of y) long;
    }

same_test : (p q : Bool) → (p ≡ true → q ≡ true) → (q ≡ true → p ≡ true) → p ≡ q
same_test true q f g = sym (f refl)
same_test false true f g = g refl
same_test false false f g = refl

test_true : (a b : ℕ) → a ≡ b → (a == b) ≡ true
test_true a b e = grind (arith, nat_tests, e)

true_test : (a b : ℕ) → (a == b) ≡ true → a ≡ b
true_test a b e = grind (arith, nat_tests, e)

both_true : (p q : Bool) → (p && q) ≡ true → (p ≡ true) × (q ≡ true)
both_true true q e = (refl, e)
both_true false q e = cc

true_both : (p q : Bool) → p ≡ true → q ≡ true → (p && q) ≡ true
true_both true q e f = f
true_both false q e f = cc

-- numbers are equal where their places are
places_test : (p a b c d : ℕ) → b < p → d < p → ((a * p + b) == (c * p + d)) ≡ ((a == c) && (b == d))
places_test p a b c d hb hd =
    same_test ((a * p + b) == (c * p + d)) ((a == c) && (b == d))
    (λ e.
    (let r = same_from_place a b c d p hb hd (true_test (a * p + b) (c * p + d) e) in
    true_both (a == c) (b == d) (test_true a c r.0) (test_true b d r.1)))
    (λ e.
    (let r = both_true (a == c) (b == d) e in
    let q : a * p ≡ c * p = ap (λ (k : ℕ). k * p) (true_test a c r.0) in
    test_true (a * p + b) (c * p + d) (omega (arith, q, true_test b d r.1))))

-- 1 where a test holds, else 0
abbrev one_if : Bool → ℤ
one_if p = if p then pos 1 else pos 0

one_both : (p q : Bool) → one_if (p && q) ≡ one_if p *ℤ one_if q
one_both true true = refl
one_both true false = refl
one_both false true = refl
one_both false false = refl

and_crossed : (a b c d : Bool) → ((a && b) && (c && d)) ≡ ((a && c) && (b && d))
and_crossed false b c d = refl
and_crossed true true c d = refl
and_crossed true false true d = refl
and_crossed true false false d = refl

pub identity_halves : (m : ℕ) (bits : List Bool) → IsAssignment (suc (suc m)) bits → identity bits ≡ identity (first_half bits) *ℤ identity (second_half bits)
identity_halves m bits a =
    let s = split m bits a in
    let x = first_half bits in
    let y = second_half bits in
    let p = 2 ^ m in
    let row : number_of (row_of bits) ≡ number_of (row_of x) * 2 ^ p + number_of (row_of y) = ap number_of s.row ∙ number_of-append (row_of x) (row_of y) ∙ ap (λ (k : ℕ). number_of (row_of x) * 2 ^ k + number_of (row_of y)) s.second_row in
    let column : number_of (column_of bits) ≡ number_of (column_of x) * 2 ^ p + number_of (column_of y) = ap number_of s.column ∙ number_of-append (column_of x) (column_of y) ∙ ap (λ (k : ℕ). number_of (column_of x) * 2 ^ k + number_of (column_of y)) s.second_column in
    ap (λ (n : ℕ). one_if (n == number_of (column_of bits))) row
    ∙ ap (λ (n : ℕ). one_if ((number_of (row_of x) * 2 ^ p + number_of (row_of y)) == n)) column
    ∙ ap one_if (places_test (2 ^ p) (number_of (row_of x)) (number_of (row_of y)) (number_of (column_of x)) (number_of (column_of y)) (below p (row_of y) s.second_row) (below p (column_of y) s.second_column))
    ∙ one_both (number_of (row_of x) == number_of (column_of x)) (number_of (row_of y) == number_of (column_of y))
  where
    below : (p : ℕ) (v : List Bool) → length v ≡ p → number_of v < 2 ^ p
    below p v e = subst (λ (k : ℕ). number_of v < 2 ^ k) e (number_of-below v)

pub walsh_halves : (m : ℕ) (bits : List Bool) → IsAssignment (suc (suc m)) bits → walsh bits ≡ walsh (first_half bits) *ℤ walsh (second_half bits)
walsh_halves m bits a =
    let s = split m bits a in
    let x = first_half bits in
    let y = second_half bits in
    ap walsh (sym (halves_whole bits) ∙ ap (λ (v : List Bool). v ++ y) (sym s.first) ∙ ap (λ (v : List Bool). weave (row_of x) (column_of x) ++ v) (sym s.second))
    ∙ walsh-halves (row_of x) (row_of y) (column_of x) (column_of y) (s.first_row ∙ sym s.first_column) (s.second_row ∙ sym s.second_column)
    ∙ ap (λ (v : List Bool). walsh v *ℤ walsh (weave (row_of y) (column_of y))) s.first
    ∙ ap (λ (v : List Bool). walsh x *ℤ walsh v) s.second

-- the number of an index, by the quotient and the remainder that it has to have
index_test : (p : ℕ) (x y : List Bool) (r : ℕ) → length y ≡ p → (number_of (x ++ y) == r) ≡ ((number_of x == r / 2 ^ p) && (number_of y == r % 2 ^ p))
index_test p x y r e =
    let below : number_of y < 2 ^ p = subst (λ (k : ℕ). number_of y < 2 ^ k) e (number_of-below y) in
    ap (λ (n : ℕ). n == r) (number_of-append x y ∙ ap (λ (k : ℕ). number_of x * 2 ^ k + number_of y) e)
    ∙ ap (λ (n : ℕ). (number_of x * 2 ^ p + number_of y) == n) (sym (div-add-mod' r (2 ^ p)))
    ∙ places_test (2 ^ p) (number_of x) (number_of y) (r / 2 ^ p) (r % 2 ^ p) below (mod-lt r (pow_pos p))

pub unit_halves : (m : ℕ) (r c : ℕ) (bits : List Bool) → IsAssignment (suc (suc m)) bits
    → unit r c bits ≡ unit (r / 2 ^ (2 ^ m)) (c / 2 ^ (2 ^ m)) (first_half bits) *ℤ unit (r % 2 ^ (2 ^ m)) (c % 2 ^ (2 ^ m)) (second_half bits)
unit_halves m r c bits a =
    let s = split m bits a in
    let x = first_half bits in
    let y = second_half bits in
    let p = 2 ^ m in
    let rx = number_of (row_of x) == r / 2 ^ p in
    let ry = number_of (row_of y) == r % 2 ^ p in
    let cx = number_of (column_of x) == c / 2 ^ p in
    let cy = number_of (column_of y) == c % 2 ^ p in
    ap (λ (q : Bool). one_if (q && (number_of (column_of bits) == c))) (ap (λ (v : List Bool). number_of v == r) s.row ∙ index_test p (row_of x) (row_of y) r s.second_row)
    ∙ ap (λ (q : Bool). one_if ((rx && ry) && q)) (ap (λ (v : List Bool). number_of v == c) s.column ∙ index_test p (column_of x) (column_of y) c s.second_column)
    ∙ ap one_if (and_crossed rx ry cx cy)
    ∙ one_both (rx && cx) (ry && cy)
