use Rattle.std.specs.Prelude.{ℕ, ◌≡◌, ◌+◌, ◌≤◌, List, ◌++◌}
use Rattle.cf_reference.specs.States.{State}
use Rattle.cf_reference.specs.Scripts.{Close, Done, Refused, Usage, Ending}
use Rattle.cf_session.specs.Stepping.{AppendsFront}
use Rattle.cf_top.specs.declared.status.Status.{Status}
use Rattle.cf_top.specs.declared.status.Status.TheVariants as status

abbrev pub exit_status : Status → ℕ
exit_status status.Done = 0
exit_status status.Refused = 1
exit_status status.Usage = 2
exit_status status.ReadFault = 3
exit_status status.WriteFault = 4
exit_status status.NoMemory = 5
exit_status status.FileFault = 6

-- the status that answers an end of the reference run
abbrev pub status_of : Close → Status
status_of Done = status.Done
status_of Refused = status.Refused
status_of Usage = status.Usage

-- The whole text was appended, the reference run comes to its end in this way, the state that is left is its state, and so
-- many bytes of the script were read as are needed to know it; `from` and `upto` count the bytes that were read before and
-- afterwards.
pub record Ends (end : Ending) (close : Close) (before after : List ℕ) (from upto : ℕ) (left : State) : Type 0 where
  pub text : after ≡ before ++ end.text
  pub closed : end.close ≡ close
  pub state : left ≡ end.state
  pub read : from + end.read ≤ upto

-- the answer is how the reference run ends, or a fault or want of memory cut it off
abbrev pub Meets : Ending → List ℕ → List ℕ → ℕ → ℕ → State → Status → Type 0
Meets end before after from upto left status.Done = Ends end Done before after from upto left
Meets end before after from upto left status.Refused = Ends end Refused before after from upto left
Meets end before after from upto left status.Usage = Ends end Usage before after from upto left
Meets end before after from upto left status.ReadFault = AppendsFront before after end.text
Meets end before after from upto left status.WriteFault = AppendsFront before after end.text
Meets end before after from upto left status.NoMemory = AppendsFront before after end.text
Meets end before after from upto left status.FileFault = AppendsFront before after end.text

-- the run answers what the reference run answers
pub record Completes (end : Ending) (before after : List ℕ) (answer : Status) : Type 0 where
  pub text : after ≡ before ++ end.text
  pub status : answer ≡ status_of end.close
