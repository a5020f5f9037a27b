use Rattle.std.specs.Prelude.{◌≡◌, ℕ, List, map, slice_get, Some, None}
use Rattle.std.specs.Borrow.{Bor}
use Rattle.cf_model.specs.FlatFunctions.{variable, IsFlatFunction}
use Rattle.cf_reference.specs.States.{named}
use Rattle.cf_reference.specs.Carrying.{Outcome, Refuses}
use Rattle.cf_pkg.specs.declared.Func.{Func}
use Rattle.cf_pkg.specs.Packages.{Package, OwnsFunction, Means, meaning}
use Rattle.cf_session.specs.declared.faults.StepFault.{StepFault}
use Rattle.cf_session.specs.declared.faults.StepFault.TheVariants.{NoMemory, Refused}
use Rattle.cf_session.specs.declared.faults.Refusal.{Refusal}
use Rattle.cf_session.specs.declared.faults.Refusal.TheVariants.{NoName}
use Rattle.cf_session.specs.Faults.{reason_of}
use Rattle.cf_session.specs.Sessions.{Names, Held, state_of}

-- names without where they lie in memory
abbrev pub bytes_of : List (Bor (List ℕ)) → List (List ℕ)
bytes_of names = map (λ name. name.now) names

-- There was no memory, or a statement with this outcome is refused with this reason.
abbrev pub IsFaultOfStep : Outcome → StepFault → Type 0
IsFaultOfStep outcome NoMemory = Unit {0}
IsFaultOfStep outcome (Refused r) = outcome ≡ Refuses (reason_of r)

-- The function of the name at each place is that of the bit at this position.
abbrev pub ArePositions : Package → ℕ → Names → Type 0
ArePositions p level bound =
    (i : ℕ) (b : List ℕ × Func) → slice_get bound i ≡ Some b → Means p b.1 (variable level i)

-- The name stands for a function of the package, which means a flat function.
pub record IsNamed (h : Held) (name : List ℕ) (f : Func) : Type 0 where
  pub owned : OwnsFunction h.pkg f
  pub means : named (state_of h) name ≡ Some (meaning h.pkg f)
  pub flat : IsFlatFunction (meaning h.pkg f)

-- The name stands for nothing, and the refusal says so.
pub record IsUnknown (h : Held) (name : List ℕ) (r : Refusal) : Type 0 where
  pub nothing : named (state_of h) name ≡ None
  pub refused : r ≡ NoName
