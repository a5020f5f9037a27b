-- Functions of expressions without arguments, from what makes them.
use Rattle.std.proofs.Common.{ℕ, ℤ, ◌≡◌, Result, Ok, Err, IfOk, subst}
use Rattle.std.specs.Prelude.{nat_abs}
use Rattle.cf_model.specs.FlatFunctions.{IsFlatFunction, tabulated, variable}
use Rattle.cf_pkg.specs.declared.Func.{Func}
use Rattle.cf_pkg.specs.Packages.{Package, Means, meaning}
use Rattle.cf_reference.specs.Trees.{Num, At}
use Rattle.cf_reference.specs.States.{State, level_in}
use Rattle.cf_session.specs.declared.faults.StepFault.{StepFault}
use Rattle.cf_session.specs.Building.{Builds}
use Rattle.cf_session.proofs.Built.{number_built, bit_built}

-- two facts of an answer that come to a third
pub if_both : {A E : Type 0} (r : Result A E) (P Q R : A → Type 0) → ((x : A) → P x → Q x → R x) → IfOk r P → IfOk r Q → IfOk r R
if_both (Ok x) P Q R to p q = to x p q
if_both (Err e) P Q R to p q = tt

-- a tabulated function whose level and value are told otherwise
told : (p : Package) (f : Func) (k l : ℕ) (m n : ℤ) → k ≡ l → m ≡ n → Means p f (tabulated k (λ bits. m))
    → Means p f (tabulated l (λ bits. n))
told p f k l m n e h a =
    subst (λ (z : ℤ). Means p f (tabulated l (λ bits. z))) h (subst (λ (j : ℕ). Means p f (tabulated j (λ bits. m))) e a)

pub number_made : (r : Result Func StepFault) (s : State) (k : ℕ) (m n : ℤ) (p : Package) → k ≡ level_in s → m ≡ n
    → IfOk r (λ f. Means p f (tabulated k (λ bits. m))) → IfOk r (λ f. IsFlatFunction (meaning p f)) → IfOk r (λ f. Builds s (Num n) p f)
number_made r s k m n p e h =
    if_both r (λ f. Means p f (tabulated k (λ bits. m))) (λ f. IsFlatFunction (meaning p f)) (λ f. Builds s (Num n) p f)
    (λ f means flat. number_built s n p f (told p f k (level_in s) m n e h means) flat)

pub bit_made : (r : Result Func StepFault) (s : State) (k i : ℕ) (j : ℤ) (p : Package) → k ≡ level_in s → i ≡ nat_abs j
    → IfOk r (λ f. Means p f (variable k i)) → IfOk r (λ f. IsFlatFunction (meaning p f)) → IfOk r (λ f. Builds s (At j) p f)
bit_made r s k i j p e h =
    if_both r (λ f. Means p f (variable k i)) (λ f. IsFlatFunction (meaning p f)) (λ f. Builds s (At j) p f)
    (λ f means flat. bit_built s j p f (subst (λ (n : ℕ). Means p f (variable (level_in s) n)) h (subst (λ (l : ℕ). Means p f (variable l i)) e means)) flat)
