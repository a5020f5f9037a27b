use Rattle.std.specs.Prelude.{◌≡◌, ℕ, ℤ, Bool, true, false, not, ◌||◌, is_some, List, Some, if◌then◌else◌}
use Rattle.cf_model.specs.FlatFunctions.{IsAssignment}
use Rattle.cf_model.specs.Terms.{truth, value2}
use Rattle.cf_model.specs.declared.terms.Word2.{Word2}
use Rattle.cf_pkg.specs.declared.Func.{Func}
use Rattle.cf_pkg.specs.Packages.{Package}
use Rattle.cf_pkg.specs.Jobs.{HasValues}
use Rattle.cf_circuit.specs.declared.truths.Truth.{Truth}
use Rattle.cf_circuit.specs.declared.truths.Truth.TheVariants.{Never, Always, Where}

-- The word's operation has a value everywhere.
abbrev pub IsTotal : Word2 → Type 0
IsTotal word = (x y : ℤ) → is_some (value2 word x y) ≡ true

-- what is asked of an assignment
abbrev pub Test : Type 0
Test = List Bool → Bool

-- The function is the package's, of the level, and 1 where the test holds, else 0.
abbrev pub Shows : Package → ℕ → Test → Func → Type 0
Shows p l test f = HasValues p f l (λ a. Some (truth (test a)))

-- It is where the test holds.
abbrev pub Tells : Package → ℕ → Test → Truth → Type 0
Tells p l test Never = (a : List Bool) → IsAssignment l a → test a ≡ false
Tells p l test Always = (a : List Bool) → IsAssignment l a → test a ≡ true
Tells p l test (Where f) = Shows p l test f

-- Its function, if it has one, is the package's, of the level, and 0 or 1 everywhere.
abbrev pub IsAt : Package → ℕ → Truth → Type 0
IsAt p l t = (test : Test) × Tells p l test t

abbrev pub AreAt : Package → Truth → Truth → Type 0
AreAt p a b = (l : ℕ) × IsAt p l a × IsAt p l b

abbrev pub AreAllAt : Package → Truth → Truth → Truth → Type 0
AreAllAt p a b c = (l : ℕ) × IsAt p l a × IsAt p l b × IsAt p l c

-- where a isn't
abbrev pub TellsNot : (before now : Package) → Truth → Truth → Type 0
TellsNot before now a r = (l : ℕ) (x : Test) → Tells before l x a → Tells now l (λ at. not (x at)) r

-- where a or b is
abbrev pub TellsEither : (before now : Package) → (a b : Truth) → Truth → Type 0
TellsEither before now a b r =
    (l : ℕ) (x y : Test) → Tells before l x a → Tells before l y b → Tells now l (λ at. x at || y at) r

-- where b is, there where a is, and where c is elsewhere
abbrev pub TellsChoice : (before now : Package) → (a b c : Truth) → Truth → Type 0
TellsChoice before now a b c r =
    (l : ℕ) (x y z : Test) → Tells before l x a → Tells before l y b → Tells before l z c
    → Tells now l (λ at. if x at then y at else z at) r

-- The function is 1 there, and 0 elsewhere.
abbrev pub IsOf : (before now : Package) → ℕ → Truth → Func → Type 0
IsOf before now l t f = (test : Test) → Tells before l test t → Shows now l test f
