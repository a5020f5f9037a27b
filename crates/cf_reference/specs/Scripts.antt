use Rattle.std.specs.Prelude.{ℕ, ◌+◌, Bool, true, false, List, [], ◌∷◌, ◌++◌, Option, Some, None, if◌then◌else◌}
use Rattle.cf_reference.specs.Forms.{Form, Run, Generated, form_of}
use Rattle.cf_reference.specs.Generator.{gen_script}
use Rattle.cf_reference.specs.Lines.{Line, Fit, Fits, LineTooLong, ScriptTooLong, fit, known_by, size, lines}
use Rattle.cf_reference.specs.LineRefusals.{Parsed}
use Rattle.cf_reference.specs.LineRefusals as line
use Rattle.cf_reference.specs.Reasons.{number, detail}
use Rattle.cf_reference.specs.Reasons as reason
use Rattle.cf_reference.specs.Replies.{refusal as refusal_reply, usage_reply}
use Rattle.cf_reference.specs.Parsing.{parse}
use Rattle.cf_reference.specs.States.{State, Files, IsState, initial}
use Rattle.cf_reference.specs.Carrying.{Outcome, Refuses, Goes, step}

-- The reference run: what a script's lines do one after another.

abbrev pub step_parsed : Files → State → Parsed → Outcome
step_parsed files s line.TooDeep = Refuses reason.TooDeep
step_parsed files s line.Malformed = Refuses reason.Malformed
step_parsed files s line.WideNumber = Refuses reason.WideNumber
step_parsed files s (line.Good t) = step files s t

abbrev pub carry_fitting : Files → State → List ℕ → Fit → Outcome
carry_fitting files s bytes Fits = step_parsed files s (parse bytes)
carry_fitting files s bytes LineTooLong = Refuses reason.LineTooLong
carry_fitting files s bytes ScriptTooLong = Refuses reason.ScriptTooLong

-- what a line does that begins behind `before` bytes of the script
unfoldable pub carry : Files → State → ℕ → Line → Outcome
carry files s before l = carry_fitting files s l.bytes (fit before l)

-- the text that a line adds, the line having number n
abbrev pub text_of : ℕ → Outcome → List ℕ
text_of n (Refuses r) = refusal_reply n (number r) (detail r)
text_of n (Goes s reply) = reply

abbrev pub state_of : State → Outcome → State
state_of s (Refuses r) = s
state_of s (Goes t reply) = t

abbrev pub refuses : Outcome → Bool
refuses (Refuses r) = true
refuses (Goes t reply) = false

-- how a run comes to its end
pub data Close : Type 0 where
  Done : Close
  Refused : Close
  Usage : Close

-- A run's end: the text that it has written, how it came to its end, the state that it leaves, and how many bytes of
-- the script have to be read to know all this.
pub record Ending : Type 0 where
  pub text : List ℕ
  pub close : Close
  pub state : State
  pub read : ℕ

-- the same end, with a text before it
abbrev pub adds : List ℕ → Ending → Ending
adds text end = record { text = text ++ end.text; close = end.close; state = end.state; read = end.read }

-- the run from state s over lines, the first of which has number n and begins behind `before` bytes of the script
unfoldable pub run_lines : Files → State → ℕ → ℕ → List Line → Ending
run_lines files s n before [] = record { text = []; close = Done; state = s; read = before }
run_lines files s n before (l ∷ later) =
    if refuses (carry files s before l)
    then record { text = text_of n (carry files s before l); close = Refused; state = s; read = known_by before l (fit before l) }
    else adds (text_of n (carry files s before l)) (run_lines files (state_of s (carry files s before l)) (n + 1) (before + size l) later)

-- what is written where the words have no form
abbrev pub usage_end : Ending
usage_end = record { text = usage_reply; close = Usage; state = initial; read = 0 }

-- the same end, for which nothing of the source has to be read
abbrev pub reads_nothing : Ending → Ending
reads_nothing end = record end { read = 0 }

-- What the program does with the form of its words and with the bytes of its source, where there
-- are these files. The script of a seed is carried out as if the source had it, and nothing of the
-- source is read.
abbrev pub ref_form : Files → Option Form → List ℕ → Ending
ref_form files None source = usage_end
ref_form files (Some Run) source = run_lines files initial 1 0 (lines source)
ref_form files (Some (Generated seed)) source =
    reads_nothing (run_lines files initial 1 0 (lines (gen_script seed)))

-- what the program does with its words
abbrev pub ref : Files → List (List ℕ) → List ℕ → Ending
ref files words source = ref_form files (form_of words) source

-- The bytes of the source that are left where a run comes to its end without a refusal: none, or
-- all of them where the script was generated or there is no form.
abbrev pub unread : Option Form → List ℕ → List ℕ
unread (Some Run) source = []
unread other source = source

-- The state that a run ends with has a level of 0 to 7, and flat functions.
abbrev pub RunsEndInStates : Type 0
RunsEndInStates =
    (files : Files) (said : List (List ℕ)) (source : List ℕ) → IsState (ref files said source).state
