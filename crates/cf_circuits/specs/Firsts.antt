use Rattle.std.specs.Prelude.{◌≡◌, ◌⊎◌, ℕ, List, [], ◌∷◌, ◌++◌, Some, None}
use Rattle.cf_circuits.specs.declared.faults.BlifWhy.TheVariants as why
use Rattle.cf_circuits.specs.LogicalLines.{Line, logical}
use Rattle.cf_circuits.specs.Causes.{Fault, cause, fault}
use Rattle.cf_circuits.specs.Netlists.{net}

-- The fault of a text, said without a walk over its lines.

-- No line of a list is faulty.
abbrev pub AreFaultless : List Line → Type 0
AreFaultless lines = (before : List Line) (line : Line) (later : List Line) → lines ≡ before ++ line ∷ later → cause before line ≡ None

-- A line is faulty with this cause, and none before it is.
pub record IsFirstFault (lines : List Line) (f : Fault) : Type 0 where
  pub before : List Line
  pub line : Line
  pub later : List Line
  pub split : lines ≡ before ++ line ∷ later
  pub faultless : AreFaultless before
  pub number : f.line ≡ line.number
  pub why : cause before line ≡ Some f.why

-- A text has the fault of its first faulty line; or that of line 0, where no line is faulty and none begins a model.
abbrev pub FaultsAreFirst : Type 0
FaultsAreFirst =
    (bytes : List ℕ) (f : Fault) → fault bytes ≡ Some f
    → IsFirstFault (logical bytes) f ⊎ (AreFaultless (logical bytes) × ((f ≡ record { line = 0; why = why.NotBlif }) × (net bytes ≡ [])))

-- In a text without a fault no line is faulty.
abbrev pub FaultlessTexts : Type 0
FaultlessTexts = (bytes : List ℕ) → fault bytes ≡ None → AreFaultless (logical bytes)
