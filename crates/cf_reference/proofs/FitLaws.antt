-- What an operation gives fits.
use Rattle.std.proofs.Common.{ℤ, ◌≡◌, Bool, true, false, cond, Some, refl, sym, subst, rules, ◌⊎◌, inl, inr}
use Rattle.std.specs.Prelude.{neg_ℤ, ◌+ℤ◌, ◌-ℤ◌, ◌*ℤ◌, int_lt}
use Rattle.std.specs.Int.{int_min, int_max}
use Rattle.std.proofs.lemmas.Option.{same_Some}
use Rattle.cf_model.specs.Values.{Fits}
use Rattle.cf_model.specs.Terms.{value1, value2, truth}
use Rattle.cf_model.specs.declared.terms.Word1.{Word1}
use Rattle.cf_model.specs.declared.terms.Word1.TheVariants.{Not, Neg}
use Rattle.cf_model.specs.declared.terms.Word2.{Word2}
use Rattle.cf_model.specs.declared.terms.Word2.TheVariants.{And, Or, Xor, Plus, Minus, Times, Min, Max, Eq, Lt}
use Rattle.cf_model.proofs.TermLaws.{fitting-some}

pub truth_fits : (b : Bool) → Fits (truth b)
truth_fits true = search rules
truth_fits false = search rules

-- what an operation gives fits
pub value1_fits : (word : Word1) (x v : ℤ) → value1 word x ≡ Some v → Fits v
value1_fits Not x v e = subst (λ (z : ℤ). Fits z) (same_Some _ v e) (truth_fits _)
value1_fits Neg x v e = (fitting-some (neg_ℤ x) v e).1

one_of : (b : Bool) (x y : ℤ) → (cond b x y ≡ x) ⊎ (cond b x y ≡ y)
one_of true x y = inl refl
one_of false x y = inr refl

turned : {v x y : ℤ} → (v ≡ y) ⊎ (v ≡ x) → (v ≡ x) ⊎ (v ≡ y)
turned (inl e) = inr e
turned (inr e) = inl e

either_fits : (x y v : ℤ) → Fits x → Fits y → (v ≡ x) ⊎ (v ≡ y) → Fits v
either_fits x y v h k (inl e) = subst (λ (z : ℤ). Fits z) (sym e) h
either_fits x y v h k (inr e) = subst (λ (z : ℤ). Fits z) (sym e) k

pub value2_fits : (word : Word2) (x y v : ℤ) → Fits x → Fits y → value2 word x y ≡ Some v → Fits v
value2_fits And x y v h k e = subst (λ (z : ℤ). Fits z) (same_Some _ v e) (truth_fits _)
value2_fits Or x y v h k e = subst (λ (z : ℤ). Fits z) (same_Some _ v e) (truth_fits _)
value2_fits Xor x y v h k e = subst (λ (z : ℤ). Fits z) (same_Some _ v e) (truth_fits _)
value2_fits Plus x y v h k e = (fitting-some (x +ℤ y) v e).1
value2_fits Minus x y v h k e = (fitting-some (x -ℤ y) v e).1
value2_fits Times x y v h k e = (fitting-some (x *ℤ y) v e).1
value2_fits Min x y v h k e =
    subst (λ (z : ℤ). Fits z) (same_Some _ v e) (either_fits x y (int_min x y) h k (turned (one_of (int_lt y x) y x)))
value2_fits Max x y v h k e =
    subst (λ (z : ℤ). Fits z) (same_Some _ v e) (either_fits x y (int_max x y) h k (one_of (int_lt y x) x y))
value2_fits Eq x y v h k e = subst (λ (z : ℤ). Fits z) (same_Some _ v e) (truth_fits _)
value2_fits Lt x y v h k e = subst (λ (z : ℤ). Fits z) (same_Some _ v e) (truth_fits _)
