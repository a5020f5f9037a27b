-- What tests and options tell.
use Rattle.std.proofs.Common.{ℕ, ◌≡◌, ◌≤◌, Bool, true, false, List, Option, Some, None, refl, sym, arith}
use Rattle.std.specs.Prelude.{◌&&◌, nat_le}
use Rattle.std.specs.Option.{option_or}
use Rattle.std.specs.Str.{bytes_eq}
use Rattle.std.proofs.lemmas.Bool.{false≢true}
use Rattle.std.proofs.lemmas.Bool.Decides.{nat_tests}
use Rattle.std.proofs.lemmas.Option.{none-some}
use Rattle.std.proofs.lemmas.Slice.Eq.{bytes_eq-Decides}
use Rattle.cf_model.specs.Values.{and_then}
use Rattle.cf_reference.specs.Reasons.{Refusal, unless}

pub and_then_some : {A B : Type 0} (o : Option A) (f : A → Option B) (y : B)
    → and_then o f ≡ Some y → (x : A) × (o ≡ Some x) × (f x ≡ Some y)
and_then_some None f y e = absurd (none-some y e)
and_then_some (Some x) f y e = (x, refl, e)

pub some_none : {A : Type 0} (x : A) → Some x ≡ None → ⊥
some_none x e = none-some x (sym e)

pub or_none_first : {A : Type 0} (a b : Option A) → option_or a b ≡ None → a ≡ None
or_none_first None b e = refl
or_none_first (Some x) b e = e

pub or_none_second : {A : Type 0} (a b : Option A) → option_or a b ≡ None → b ≡ None
or_none_second None b e = e
or_none_second (Some x) b e = absurd (none-some x (sym e))

pub unless_none : (b : Bool) (r : Refusal) → unless b r ≡ None → b ≡ true
unless_none true r e = refl
unless_none false r e = absurd (none-some r (sym e))

pub left : (a b : Bool) → a && b ≡ true → a ≡ true
left true b e = refl
left false b e = e

pub right : (a b : Bool) → a && b ≡ true → b ≡ true
right true b e = e
right false b e = absurd (false≢true e)

pub le_is : (m n : ℕ) → nat_le m n ≡ true → m ≤ n
le_is m n h = grind (arith, nat_tests)

pub is_le : (m n : ℕ) → m ≤ n → nat_le m n ≡ true
is_le m n h = grind (arith, nat_tests)

pub same_bytes : (xs ys : List ℕ) → bytes_eq xs ys ≡ true → xs ≡ ys
same_bytes xs ys e = (bytes_eq-Decides xs ys).0 e
