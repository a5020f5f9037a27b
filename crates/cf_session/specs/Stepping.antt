use Rattle.std.specs.Prelude.{◌≡◌, ◌<◌, ◌≤◌, ℕ, Bool, true, false, not, ◌&&◌, is_some, List, [], ◌++◌, IsTrue}
use Rattle.std.specs.Prelude.{Result, Ok, Err}
use Rattle.cf_io.specs.Causes.{Rose}
use Rattle.cf_io.specs.Shown.{FilesView, SinkView, FilesAreTold}
use Rattle.cf_reference.specs.Trees.{Statement, Empty, Level, Load, Value, First, Entry}
use Rattle.cf_reference.specs.Carrying.{Outcome, Refuses, Goes}
use Rattle.cf_reference.specs.States.{State}
use Rattle.cf_reference.specs.Loading.{file_limit}
use Rattle.cf_reference.specs.Scripts.{refuses}
use Rattle.cf_pkg.specs.Packages.{Keeps}
use Rattle.cf_session.specs.declared.step.Stepped.{Stepped}
use Rattle.cf_session.specs.declared.step.Stepped.TheVariants as stepped
use Rattle.cf_session.specs.declared.faults.Refusal.{Refusal}
use Rattle.cf_session.specs.declared.faults.Refusal.TheVariants.{NoFile, FileTooLarge}
use Rattle.cf_session.specs.declared.faults.StepFault.{StepFault}
use Rattle.cf_session.specs.declared.faults.StepFault.TheVariants.{NoMemory, Refused}
use Rattle.cf_session.specs.Faults.{reason_of}
use Rattle.cf_session.specs.Building.{Grows}
use Rattle.cf_session.specs.Sessions.{Held, state_of}

-- whether a statement reads a file
abbrev pub reads_file : Statement → Bool
reads_file (Load prefix file) = true
reads_file others = false

-- Names and contents of files are told, where the statement reads one.
abbrev pub FilesAreToldFor : FilesView → Statement → Type 0
FilesAreToldFor files (Load prefix file) = FilesAreTold files
FilesAreToldFor files others = Unit {0}

-- what an outcome writes, a refusal apart
abbrev pub reply_in : Outcome → List ℕ
reply_in (Refuses r) = []
reply_in (Goes s reply) = reply

-- a front of the text was appended
pub record AppendsFront (before after text : List ℕ) : Type 0 where
  pub front : List ℕ
  pub rest : List ℕ
  pub appended : after ≡ before ++ front
  pub whole : text ≡ front ++ rest

-- The answer is that of the outcome, and the session is as the outcome leaves it, or cut off with level, names and
-- functions as before.
abbrev pub LeadsTo : Outcome → Held → Held → Stepped → Type 0
LeadsTo outcome old new stepped.Written = (refuses outcome ≡ false) × (outcome ≡ Goes (state_of new) (reply_in outcome))
LeadsTo outcome old new (stepped.Refused r) = (outcome ≡ Refuses (reason_of r)) × Grows old new
LeadsTo outcome old new stepped.WriteFault = (refuses outcome ≡ false) × Grows old new
LeadsTo outcome old new stepped.FileFault = Grows old new
LeadsTo outcome old new stepped.NoMemory = Grows old new

-- The whole reply was appended, or nothing, or where a write failed a front of the reply.
abbrev pub Replies : Outcome → List ℕ → List ℕ → Stepped → Type 0
Replies outcome before after stepped.Written = after ≡ before ++ reply_in outcome
Replies outcome before after (stepped.Refused r) = after ≡ before
Replies outcome before after stepped.WriteFault = AppendsFront before after (reply_in outcome)
Replies outcome before after stepped.FileFault = after ≡ before
Replies outcome before after stepped.NoMemory = after ≡ before

-- The answer is that of the outcome.
abbrev pub IsAnswerTo : Outcome → Stepped → Type 0
IsAnswerTo outcome stepped.Written = refuses outcome ≡ false
IsAnswerTo outcome (stepped.Refused r) = outcome ≡ Refuses (reason_of r)
IsAnswerTo outcome stepped.WriteFault = ⊥
IsAnswerTo outcome stepped.FileFault = ⊥
IsAnswerTo outcome stepped.NoMemory = ⊥

-- Nothing was written, unless there was a reply to be written.
abbrev pub IsSilent : Stepped → SinkView → SinkView → Type 0
IsSilent stepped.Written before after = Unit {0}
IsSilent stepped.WriteFault before after = Unit {0}
IsSilent others before after = after ≡ before

-- The statement never wants memory.
abbrev pub NeedsNoMemory : Statement → Type 0
NeedsNoMemory Empty = Unit {0}
NeedsNoMemory (Level k) = Unit {0}
NeedsNoMemory (Value name bits) = Unit {0}
NeedsNoMemory (First name v) = Unit {0}
NeedsNoMemory (Entry name row col) = Unit {0}
NeedsNoMemory others = ⊥

-- The text was written.
pub record Wrote (before after : SinkView) (text : List ℕ) : Type 0 where
  pub told : after.tells ≡ before.tells
  pub later : before.faults ≤ after.faults
  pub bytes : IsTrue before.tells → after.written ≡ before.written ++ text

-- A write of the text failed.
pub record Failed (before after : SinkView) (text : List ℕ) : Type 0 where
  pub told : after.tells ≡ before.tells
  pub rose : Rose before.faults after.faults
  pub later : before.faults ≤ after.faults
  pub front : IsTrue before.tells → AppendsFront before.written after.written text

-- What came of writing a text.
abbrev pub Puts : SinkView → SinkView → List ℕ → Bool → Type 0
Puts before after text true = Wrote before after text
Puts before after text false = Failed before after text

-- What a statement with this outcome did to the session and to the sink.
abbrev pub Does : Outcome → Held → Held → SinkView → SinkView → Stepped → Type 0
Does outcome old new before after stepped.Written =
    (refuses outcome ≡ false) × (outcome ≡ Goes (state_of new) (reply_in outcome)) × Keeps old.pkg new.pkg × Wrote before after (reply_in outcome)
Does outcome old new before after (stepped.Refused r) = (outcome ≡ Refuses (reason_of r)) × Grows old new × (after ≡ before)
Does outcome old new before after stepped.WriteFault = (refuses outcome ≡ false) × Grows old new × Failed before after (reply_in outcome)
Does outcome old new before after stepped.FileFault = Grows old new × (after ≡ before)
Does outcome old new before after stepped.NoMemory = Grows old new × (after ≡ before)

-- whether a statement wants a level
abbrev pub wants_level : Statement → Bool
wants_level Empty = false
wants_level (Level k) = false
wants_level others = true

-- whether a statement is refused since there is no level
abbrev pub lacks_level : State → Statement → Bool
lacks_level s t = not (is_some s.level) && wants_level t

-- What an answer came to: its text was written or a write failed, or there was none, and nothing was written.
abbrev pub Answers : Result (Unit {0}) StepFault → List ℕ → SinkView → SinkView → Stepped → Type 0
Answers (Ok made) text before after stepped.Written = Wrote before after text
Answers (Ok made) text before after stepped.WriteFault = Failed before after text
Answers (Ok made) text before after other = ⊥
Answers (Err NoMemory) text before after stepped.NoMemory = after ≡ before
Answers (Err NoMemory) text before after other = ⊥
Answers (Err (Refused r)) text before after (stepped.Refused q) = (q ≡ r) × (after ≡ before)
Answers (Err (Refused r)) text before after other = ⊥

-- the same where memory isn't wanted
abbrev pub AnswersAlways : Result (Unit {0}) Refusal → List ℕ → SinkView → SinkView → Stepped → Type 0
AnswersAlways (Ok made) text before after stepped.Written = Wrote before after text
AnswersAlways (Ok made) text before after stepped.WriteFault = Failed before after text
AnswersAlways (Ok made) text before after other = ⊥
AnswersAlways (Err r) text before after (stepped.Refused q) = (q ≡ r) × (after ≡ before)
AnswersAlways (Err r) text before after other = ⊥

-- the answer where a statement isn't carried out
abbrev pub answer_of : StepFault → Stepped
answer_of NoMemory = stepped.NoMemory
answer_of (Refused r) = stepped.Refused r

-- the answer of a change of the session
abbrev pub stepped_by : Result (Unit {0}) StepFault → Stepped
stepped_by (Ok done) = stepped.Written
stepped_by (Err fault) = answer_of fault

-- What the files show of an answer: a fault, a miss, or the bytes that were given.
abbrev pub ShowsAnswer : FilesView → FilesView → Stepped → Type 0
ShowsAnswer old new stepped.FileFault = Rose old.faults new.faults
ShowsAnswer old new (stepped.Refused NoFile) = Rose old.misses new.misses
ShowsAnswer old new (stepped.Refused FileTooLarge) = file_limit < new.given
ShowsAnswer old new others = Unit {0}
