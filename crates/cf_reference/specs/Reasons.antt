use Rattle.std.specs.Prelude.{ℕ, Bool, List, [], ◌∷◌, Option, Some, None, decimal, if◌then◌else◌}
use Rattle.cf_model.specs.Assignments.{digits_of}
use Rattle.cf_circuits.specs.declared.faults.BlifWhy.{BlifWhy}
use Rattle.cf_circuits.specs.declared.faults.BlifWhy.TheVariants as why
use Rattle.cf_circuits.specs.declared.faults.LinkFault.{LinkFault}
use Rattle.cf_circuits.specs.Causes.{Fault}
use Rattle.cf_circuits.specs.LinkFaults.{number_of, name_of}

-- why a line is refused
pub data Refusal : Type 0 where
  Malformed : Refusal
  LineTooLong : Refusal
  ScriptTooLong : Refusal
  -- no level is set yet
  NoLevel : Refusal
  -- a level is set already
  LevelAgain : Refusal
  -- no variable and no function has the name
  NoName : Refusal
  -- a variable or a function has the name
  Taken : Refusal
  -- there would be more variables than an assignment has bits
  TooManyVariables : Refusal
  LevelsDiffer : Refusal
  -- a level is above 7
  BadLevel : Refusal
  -- a position, a number of bits or a number of lines is out of its range
  OutOfRange : Refusal
  WideNumber : Refusal
  TooDeep : Refusal
  -- a value doesn't fit, and the assignment at which it doesn't
  Overflow : List Bool → Refusal
  -- there is no file of the name
  NoFile : Refusal
  -- a file has more bytes than a circuit's may have
  FileTooLarge : Refusal
  -- a file's text is faulty
  Circuit : Fault → Refusal
  -- the models of a file can't be linked
  Links : LinkFault → Refusal

-- the number that a refusal is written with
abbrev pub number : Refusal → ℕ
number Malformed = 1
number LineTooLong = 2
number ScriptTooLong = 3
number NoLevel = 4
number LevelAgain = 5
number NoName = 6
number Taken = 7
number TooManyVariables = 8
number LevelsDiffer = 9
number BadLevel = 10
number OutOfRange = 11
number WideNumber = 12
number TooDeep = 13
number (Overflow bits) = 14
number NoFile = 15
number FileTooLarge = 16
number (Circuit f) = 17
number (Links f) = 18

-- the number of the cause of a faulty line
abbrev pub cause_number : BlifWhy → ℕ
cause_number why.NotBlif = 1
cause_number why.Unsupported = 2
cause_number why.BadCover = 3
cause_number why.MixedCover = 4
cause_number why.NoOutput = 5
cause_number why.TwoModelsOneName = 6
cause_number why.WideGate = 7

-- a number, and a name behind it, if there is one
abbrev pub with_name : ℕ → Option (List ℕ) → List (List ℕ)
with_name n None = decimal n ∷ []
with_name n (Some name) = decimal n ∷ name ∷ []

-- the words that are written behind it
abbrev pub detail : Refusal → List (List ℕ)
detail (Overflow bits) = digits_of bits ∷ []
detail (Circuit f) = decimal f.line ∷ decimal (cause_number f.why) ∷ []
detail (Links f) = with_name (number_of f) (name_of f)
detail other = []

-- a refusal where a condition doesn't hold
abbrev pub unless : Bool → Refusal → Option Refusal
unless holds r = if holds then None else Some r

-- a refusal where a condition holds
abbrev pub where_holds : Bool → Refusal → Option Refusal
where_holds holds r = if holds then Some r else None
