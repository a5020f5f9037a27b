-- Functions of numbers, positions and names, and what is known of faults.
use Rattle.std.proofs.Common.{ℕ, ℤ, ◌≡◌, ◌==◌, Bool, true, List, Option, Some, None, ap, subst, ◌∙◌, arith}
use Rattle.std.specs.Prelude.{nat_abs}
use Rattle.std.specs.Option.{option_or}
use Rattle.std.proofs.lemmas.Bool.Decides.{nat_tests}
use Rattle.cf_model.specs.Assignments.{bit_at}
use Rattle.cf_model.specs.Terms.{truth}
use Rattle.cf_model.specs.FlatFunctions.{FlatFunction, IsFlatFunction, IsAssignment, value_at, tabulated, variable}
use Rattle.cf_model.proofs.FlatFunctionLaws.{tabulated-value}
use Rattle.cf_pkg.specs.declared.Func.{Func}
use Rattle.cf_pkg.specs.Packages.{Package, OwnsFunction, Means, meaning}
use Rattle.cf_reference.specs.Trees.{Num, At, Named}
use Rattle.cf_reference.specs.States.{State, level_in, named}
use Rattle.cf_reference.proofs.FailureLaws.{over-Num, over-At}
use Rattle.cf_reference.proofs.ValueLaws.{over-Named-flat}
use Rattle.cf_reference.proofs.GivesLaws.{gives-Num, gives-At, gives-Named}
use Rattle.cf_session.specs.declared.faults.Refusal.TheVariants.{NoLevel, LevelAgain, NoName, Taken, TooManyVars, LevelsDiffer, BadLevel, OutOfRange, Overflow, NoFile, FileTooLarge, Circuit, Links}
use Rattle.cf_session.specs.declared.faults.StepFault.{StepFault}
use Rattle.cf_session.specs.declared.faults.StepFault.TheVariants.{NoMemory, Refused}
use Rattle.cf_session.specs.Building.{Builds, IsFault}

-- a fault whose assignment has a weaker property
pub fault_turned : (P Q : List Bool → Type 0) → ((bits : List Bool) → P bits → Q bits) → (fault : StepFault)
    → IsFault P fault → IsFault Q fault
fault_turned P Q to NoMemory h = tt
fault_turned P Q to (Refused (Overflow at)) h = to _ h
fault_turned P Q to (Refused NoLevel) h = h
fault_turned P Q to (Refused LevelAgain) h = h
fault_turned P Q to (Refused NoName) h = h
fault_turned P Q to (Refused Taken) h = h
fault_turned P Q to (Refused TooManyVars) h = h
fault_turned P Q to (Refused LevelsDiffer) h = h
fault_turned P Q to (Refused BadLevel) h = h
fault_turned P Q to (Refused OutOfRange) h = h
fault_turned P Q to (Refused NoFile) h = h
fault_turned P Q to (Refused FileTooLarge) h = h
fault_turned P Q to (Refused (Circuit line why)) h = h
fault_turned P Q to (Refused (Links fault)) h = h

-- a function that was tabulated
tabulated_at : (p : Package) (f : Func) (l : ℕ) (value : List Bool → ℤ) → Means p f (tabulated l value) → (bits : List Bool)
    → IsAssignment f.head.level bits → value_at (meaning p f) bits ≡ Some (value bits)
tabulated_at p f l value m bits a =
    ap (λ (g : FlatFunction). value_at g bits) m.is_it
    ∙ tabulated-value l value bits (subst (λ (k : ℕ). IsAssignment k bits) (ap (λ (g : FlatFunction). g.level) m.is_it) a)

pub number_built : (s : State) (n : ℤ) (p : Package) (f : Func) → Means p f (tabulated (level_in s) (λ bits. n))
    → IsFlatFunction (meaning p f) → Builds s (Num n) p f
number_built s n p f m flat = record {
  owned = m.owned;
  gives = gives-Num s n (meaning p f) flat (ap (λ (g : FlatFunction). g.level) m.is_it) (tabulated_at p f (level_in s) (λ bits. n) m);
  fits = over-Num s n;
}

pub bit_built : (s : State) (i : ℤ) (p : Package) (f : Func) → Means p f (variable (level_in s) (nat_abs i))
    → IsFlatFunction (meaning p f) → Builds s (At i) p f
bit_built s i p f m flat = record {
  owned = m.owned;
  gives = gives-At s i (meaning p f) flat (ap (λ (g : FlatFunction). g.level) m.is_it) (tabulated_at p f (level_in s) (λ bits. truth (bit_at bits (nat_abs i))) m);
  fits = over-At s i;
}

pub name_built : (s : State) (name : List ℕ) (p : Package) (f : Func) → OwnsFunction p f
    → named s name ≡ Some (meaning p f) → IsFlatFunction (meaning p f) → Builds s (Named name) p f
name_built s name p f owned e flat = record {
  owned = owned;
  gives = gives-Named s name (meaning p f) flat e;
  fits = over-Named-flat s name (meaning p f) e flat;
}

-- levels that a test told
pub same_level : (m n : ℕ) → m == n ≡ true → m ≡ n
same_level m n e = grind (arith, nat_tests)

-- two that are none
pub or_nones : {A : Type 0} (a b : Option A) → a ≡ None → b ≡ None → option_or a b ≡ None
or_nones a b e f = ap (λ o. option_or o b) e ∙ f

-- the second where the first is none
pub or_second : {A : Type 0} (a b c : Option A) → a ≡ None → b ≡ c → option_or a b ≡ c
or_second a b c e f = ap (λ o. option_or o b) e ∙ f

-- the first where it is there
pub or_first : {A : Type 0} (a b : Option A) (x : A) → a ≡ Some x → option_or a b ≡ Some x
or_first a b x e = ap (λ o. option_or o b) e
