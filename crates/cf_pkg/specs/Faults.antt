use Rattle.std.specs.Prelude.{◌≡◌, ◌<◌, ℕ, List, Bool, Option, Some, None, slice_get, IsErrOf}
use Rattle.std.specs.declared.result.Result.{Result}
use Rattle.cf_model.specs.Assignments.{Assignment, bits, number_of}
use Rattle.cf_model.specs.FlatFunctions.{IsLeast}
use Rattle.cf_model.specs.Diagrams.{Levels, pattern, exits}
use Rattle.cf_table.specs.declared.Gid.{Gid}
use Rattle.cf_pkg.specs.declared.jobs.OpFault.{OpFault}
use Rattle.cf_pkg.specs.declared.exits.ExitFault.{ExitFault}
use Rattle.cf_pkg.specs.declared.exits.ExitFault.TheVariants.{NoMemory, NoValue}

-- Where the answer is an overflow, its assignment has the property.
abbrev pub IfOverflow : {T : Type 0} → Result T OpFault → (List Bool → Type 0) → Type 0
IfOverflow result P = (at : Assignment) → IsErrOf result (OpFault.Overflow at) → P (bits at)

-- The place is the first of the list without a value.
pub record IsFirstNone {A : Type 0} (values : List (Option A)) (at : ℕ) : Type 0 where
  pub none : slice_get values at ≡ Some None
  pub none_before : (i : ℕ) → i < at → slice_get values i ≡ Some None → ⊥

-- Where the answer is an exit without a value, it is the first one.
abbrev pub IfNoValue : {T A : Type 0} → Result T ExitFault → List (Option A) → Type 0
IfNoValue result values = (exit : ℕ) → IsErrOf result (ExitFault.NoValue exit) → IsFirstNone values exit

-- The overflow of an exit without a value is at the least assignment that leads to it.
abbrev pub IsFaultOf : Levels → Gid → ExitFault → OpFault → Type 0
IsFaultOf t g NoMemory result = result ≡ OpFault.NoMemory
IsFaultOf t g (NoValue exit) result = (at : Assignment) × (result ≡ OpFault.Overflow at) × IsLeast g.level (λ a. slice_get (pattern t g.level g.at) (number_of a) ≡ Some exit) (bits at)

-- The exit of a fault is one of the grouping's.
abbrev pub IsExitFault : Levels → Gid → ExitFault → Type 0
IsExitFault t g NoMemory = Unit {0}
IsExitFault t g (NoValue exit) = exit < exits t g.level g.at
