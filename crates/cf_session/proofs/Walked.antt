-- What is known of an expression that isn't refused.
use Rattle.std.proofs.Common.{ℕ, ℤ, ◌≡◌, ◌≤◌, ◌<◌, ◌^◌, ◌&&◌, pos, Bool, true, false, List, Option, Some, None, refl, sym, subst, ◌∙◌, arith}
use Rattle.std.specs.Prelude.{nat_abs, nat_lt, int_le, int_lt, negsuc, is_some, IsNone}
use Rattle.std.proofs.lemmas.Bool.{false≢true}
use Rattle.std.proofs.lemmas.Bool.Decides.{nat_tests}
use Rattle.std.proofs.lemmas.Option.{none-some}
use Rattle.std.proofs.Math.Pow.{pow_mono}
use Rattle.cf_reference.specs.Trees.{At, Named}
use Rattle.cf_reference.specs.Reasons.{Refusal, NoName, OutOfRange, unless}
use Rattle.cf_reference.specs.States.{State, level_in, is_below, named, is_bound}
use Rattle.cf_reference.specs.Expressions.{walk}
use Rattle.cf_reference.proofs.ExpressionLaws.{walk-At, walk-Named}

unless_none : (b : Bool) (r : Refusal) → unless b r ≡ None → b ≡ true
unless_none true r e = refl
unless_none false r e = absurd (none-some r (sym e))

right : (a b : Bool) → a && b ≡ true → b ≡ true
right true b e = e
right false b e = absurd (false≢true e)

less : (m k : ℕ) → nat_lt m k ≡ true → m < k
less m k e = grind (arith, nat_tests)

pub below_is : (j : ℤ) (n : ℕ) → is_below j n ≡ true → nat_abs j < n
below_is (pos m) n e = less m n (right (int_le (pos 0) (pos m)) (int_lt (pos m) (pos n)) e)
below_is (negsuc m) n e = absurd (false≢true e)

pub walked_at : (s : State) (i : ℤ) → walk s (At i) ≡ None → nat_abs i < 2 ^ level_in s
walked_at s i w =
    below_is i (2 ^ level_in s) (unless_none (is_below i (2 ^ level_in s)) OutOfRange (sym (walk-At s i) ∙ w))

pub position_within : (s : State) (i : ℤ) (n k : ℕ) → n ≡ nat_abs i → k ≡ level_in s → walk s (At i) ≡ None → n < 2 ^ k
position_within s i n k e l w =
    subst (λ (j : ℕ). n < 2 ^ j) (sym l) (subst (λ (m : ℕ). m < 2 ^ level_in s) (sym e) (walked_at s i w))

-- a position fits in a byte
pub within_byte : (i k : ℕ) → k ≤ 7 → i < 2 ^ k → i < 2 ^ 8
within_byte i k low h = omega (arith, h, pow_mono {i = k} {j = 7} low)

pub walked_named : (s : State) (name : List ℕ) → walk s (Named name) ≡ None → IsNone (named s name) → ⊥
walked_named s name w = by (named s name) (unless_none (is_bound s name) NoName (sym (walk-Named s name) ∙ w))
  where
    by : {A : Type 0} (o : Option A) → is_some o ≡ true → IsNone o → ⊥
    by None e n = false≢true e
    by (Some x) e n = false≢true (sym n)
