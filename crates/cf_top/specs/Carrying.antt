use Rattle.std.specs.Prelude.{ℕ, ◌≡◌, List, ◌++◌, true, false}
use Rattle.cf_reference.specs.States.{State}
use Rattle.cf_reference.specs.Carrying.{Outcome}
use Rattle.cf_reference.specs.Scripts.{text_of, state_of, refuses}
use Rattle.cf_session.specs.Stepping.{AppendsFront}
use Rattle.cf_top.specs.declared.script.Carried.{Carried}
use Rattle.cf_top.specs.declared.script.Carried.TheVariants as carried
use Rattle.cf_top.specs.declared.status.Status.{Status}
use Rattle.cf_top.specs.declared.status.Status.TheVariants as status

-- what line n wrote and left, where it has this outcome
pub record Writes (outcome : Outcome) (n : ℕ) (old : State) (before : List ℕ) (new : State) (after : List ℕ) : Type 0 where
  pub state : new ≡ state_of old outcome
  pub text : after ≡ before ++ text_of n outcome

-- A line ends the run only by its refusal, a fault of writing or of a file, or want of memory. The last two leave the state and
-- what was written as they were before the line.
abbrev pub StopsAt : Outcome → ℕ → State → List ℕ → State → List ℕ → Status → Type 0
StopsAt outcome n old before new after status.Refused = (refuses outcome ≡ true) × Writes outcome n old before new after
StopsAt outcome n old before new after status.WriteFault = AppendsFront before after (text_of n outcome)
StopsAt outcome n old before new after status.NoMemory = (new ≡ old) × (after ≡ before)
StopsAt outcome n old before new after status.FileFault = (new ≡ old) × (after ≡ before)
StopsAt outcome n old before new after other = ⊥

abbrev pub Carries : Outcome → ℕ → State → List ℕ → State → List ℕ → Carried → Type 0
Carries outcome n old before new after carried.Goes = (refuses outcome ≡ false) × Writes outcome n old before new after
Carries outcome n old before new after (carried.Stops answer) = StopsAt outcome n old before new after answer

-- what a refusal comes to, whether the sink tells its bytes or not
abbrev pub EndsRefusal : Status → Type 0
EndsRefusal status.Refused = Unit {0}
EndsRefusal status.WriteFault = Unit {0}
EndsRefusal other = ⊥

-- the answers with which a line can stop a run
abbrev pub EndsLine : Carried → Type 0
EndsLine (carried.Stops status.Done) = ⊥
EndsLine (carried.Stops status.Usage) = ⊥
EndsLine (carried.Stops status.ReadFault) = ⊥
EndsLine other = Unit {0}
