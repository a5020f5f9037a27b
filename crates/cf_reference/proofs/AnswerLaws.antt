-- What the replies say of least assignments.
use Rattle.std.proofs.Common.{ℤ, ◌≡◌, ◌≢◌, Bool, true, false, List, Option, Some, None, refl, ap, sym, ◌∙◌, arith, rules}
use Rattle.std.specs.Prelude.{not}
use Rattle.std.specs.Bool.{Decides}
use Rattle.std.specs.Ordering.{int_eq}
use Rattle.cf_model.specs.FlatFunctions.{IsAssignment, IsLeast, FlatFunction, IsFlatFunction, value_at, first_passing}
use Rattle.cf_model.proofs.FlatFunctionLaws.{least_unique, Passes, first_passing-some, first_passing-none}
use Rattle.cf_reference.specs.Replies.{none_reply, bits_reply, equal_reply, different_reply}
use Rattle.cf_reference.specs.States.{at}
use Rattle.cf_reference.specs.Answers.{found_reply, first_answer, equal_reply_at, equal_answer}
use Rattle.cf_reference.proofs.FailureLaws.{least-is, least-never, least-same}

int_eq_decides : (x y : ℤ) → Decides (int_eq x y) (x ≡ y)
int_eq_decides x y = search rules

equal_is : (x y : ℤ) → int_eq x y ≡ true → x ≡ y
equal_is x y e = grind (arith, int_eq_decides)

is_equal : (x y : ℤ) → x ≡ y → int_eq x y ≡ true
is_equal x y e = grind (arith, int_eq_decides)

-- the least assignment of a value is the one that `first` answers
pub first_answer-some : (f : FlatFunction) (v : ℤ) (bits : List Bool) → IsFlatFunction f
    → IsLeast f.level (λ b. value_at f b ≡ Some v) bits → first_answer f v ≡ bits_reply bits
first_answer-some f v bits flat h = by (first_passing (int_eq v) f) refl
  where
    to_pass : (b : List Bool) → value_at f b ≡ Some v → Passes (int_eq v) f b
    to_pass b e = (v, e, is_equal v v refl)

    from_pass : (b : List Bool) → Passes (int_eq v) f b → value_at f b ≡ Some v
    from_pass b p = p.1 ∙ ap Some (sym (equal_is v p.0 p.2))

    by : (o : Option (List Bool)) → first_passing (int_eq v) f ≡ o → found_reply o ≡ bits_reply bits
    by None e = absurd (first_passing-none (int_eq v) f e bits (to_pass bits h.has))
    by (Some other) e =
        ap bits_reply
        (least_unique f.level (λ b. value_at f b ≡ Some v) other bits
        (least-same f.level (Passes (int_eq v) f) (λ b. value_at f b ≡ Some v) other (λ b a p. from_pass b p) (λ b a p. to_pass b p) (first_passing-some (int_eq v) f flat other e)) h)

-- where no assignment has the value, it answers none
pub first_answer-none : (f : FlatFunction) (v : ℤ) → IsFlatFunction f
    → ((bits : List Bool) → IsAssignment f.level bits → value_at f bits ≢ Some v) → first_answer f v ≡ none_reply
first_answer-none f v flat never = by (first_passing (int_eq v) f) refl
  where
    by : (o : Option (List Bool)) → first_passing (int_eq v) f ≡ o → found_reply o ≡ none_reply
    by None e = refl
    by (Some bits) e =
        let h = first_passing-some (int_eq v) f flat bits e in
        absurd (never bits h.assigns (h.has.1 ∙ ap Some (sym (equal_is v h.has.0 h.has.2))))

differs : (x y : ℤ) → x ≢ y → not (int_eq x y) ≡ true
differs x y h = grind (arith, int_eq_decides)

differs_not : (x y : ℤ) → not (int_eq x y) ≡ true → x ≢ y
differs_not x y e = grind (arith, int_eq_decides)

alike : (x y : ℤ) → x ≡ y → not (int_eq x y) ≡ false
alike x y e = ap not (is_equal x y e)

-- the least assignment at which two functions differ is the one that `equal` answers, with both values
pub equal_answer-different : (f g : FlatFunction) (bits : List Bool) → IsLeast f.level (λ b. at f b ≢ at g b) bits
    → equal_answer f g ≡ different_reply bits (at f bits) (at g bits)
equal_answer-different f g bits h =
    ap (equal_reply_at f g)
    (least-is f.level (λ b. not (int_eq (at f b) (at g b))) bits
    (least-same f.level (λ b. at f b ≢ at g b) (λ b. not (int_eq (at f b) (at g b)) ≡ true) bits (λ b a d. differs (at f b) (at g b) d) (λ b a d. differs_not (at f b) (at g b) d) h))

-- where they agree at each assignment, it answers that they are equal
pub equal_answer-equal : (f g : FlatFunction) → ((bits : List Bool) → IsAssignment f.level bits → at f bits ≡ at g bits)
    → equal_answer f g ≡ equal_reply
equal_answer-equal f g same =
    ap (equal_reply_at f g) (least-never f.level (λ b. not (int_eq (at f b) (at g b))) (λ bits a. alike (at f bits) (at g bits) (same bits a)))
