use Rattle.std.specs.Prelude.{◌≡◌, is_some, List, Bool, true, Option, Some, None}
use Rattle.std.specs.Option.{option_or, option_map}
use Rattle.cf_model.specs.Assignments.{bits}
use Rattle.cf_reference.specs.Trees.{Tree}
use Rattle.cf_reference.specs.Reasons.{unless}
use Rattle.cf_reference.specs.Reasons as reason
use Rattle.cf_reference.specs.States.{State}
use Rattle.cf_reference.specs.Expressions.{walk}
use Rattle.cf_reference.specs.Failures.{over}
use Rattle.cf_reference.specs.Gives.{GivesTree}
use Rattle.cf_pkg.specs.declared.Func.{Func}
use Rattle.cf_pkg.specs.Packages.{Package, OwnsFunction, Keeps, meaning}
use Rattle.cf_session.specs.declared.faults.Refusal.TheVariants.{Overflow}
use Rattle.cf_session.specs.declared.faults.StepFault.{StepFault}
use Rattle.cf_session.specs.declared.faults.StepFault.TheVariants.{NoMemory, Refused}
use Rattle.cf_session.specs.Faults.{reason_of}
use Rattle.cf_session.specs.Sessions.{Held, KeepsNames, state_of}

-- The level and the names are as before, and each function means what it meant, so the state is as before.
pub record Grows (before now : Held) : Type 0 where
  pub names : KeepsNames before now
  pub functions : Keeps before.pkg now.pkg
  pub state : state_of now ≡ state_of before

-- The function is the package's. It has the values of an expression, no part of which overflows.
pub record Builds (s : State) (e : Tree) (p : Package) (f : Func) : Type 0 where
  pub owned : OwnsFunction p f
  pub gives : GivesTree s e (meaning p f)
  pub fits : over s e ≡ None

-- There was no memory, or the refusal is an overflow, whose assignment has the property.
abbrev pub IsFault : (List Bool → Type 0) → StepFault → Type 0
IsFault P NoMemory = Unit {0}
IsFault P (Refused (Overflow at)) = P (bits at)
IsFault P (Refused other) = ⊥

-- The assignment is the one at which an expression overflows.
abbrev pub IsFaultOf : State → Tree → StepFault → Type 0
IsFaultOf s e = IsFault (λ bits. over s e ≡ Some bits)

-- Why an expression has no function, if it hasn't: there is no level, else the first refusal in reading order, else an
-- overflow.
abbrev pub refusal_of : State → Tree → Option reason.Refusal
refusal_of s e =
    option_or
    (unless (is_some s.level) reason.NoLevel)
    (option_or (walk s e) (option_map reason.Overflow (over s e)))

-- There was no memory for an expression whose names, positions and levels are in order, or it is refused with this reason.
abbrev pub IsFaultOfBuild : State → Tree → StepFault → Type 0
IsFaultOfBuild s e NoMemory = (is_some s.level ≡ true) × (walk s e ≡ None)
IsFaultOfBuild s e (Refused r) = refusal_of s e ≡ Some (reason_of r)
