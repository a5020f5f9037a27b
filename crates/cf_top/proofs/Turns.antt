-- What one turn of the loop over a script's lines comes to.
use Rattle.std.proofs.Common.{ℕ, ◌≡◌, ◌+◌, ◌≤◌, ◌<◌, Bool, true, false, List, [], ◌∷◌, length, IsTrue, refl, ap, sym, ◌∙◌, subst, arith}
use Rattle.std.proofs.lemmas.Bool.{false≢true}
use Rattle.cf_reference.specs.Lines.{Line, Fit, Fits, LineTooLong, ScriptTooLong, fit, known_by, size, lines}
use Rattle.cf_reference.specs.Parsing.{parse}
use Rattle.cf_reference.specs.States.{State, Files}
use Rattle.cf_reference.specs.Carrying.{Outcome, Refuses, Goes}
use Rattle.cf_reference.specs.Scripts.{state_of, refuses, Done, Refused, Usage, Ending, run_lines, carry, carry_fitting, step_parsed}
use Rattle.cf_reference.proofs.ScriptLaws.{carry-fit}
use Rattle.cf_io.specs.Held.{Held, taken_by}
use Rattle.cf_io.specs.LineSteps.{HandsOut, IsFirst, BeginsTooLong, Moves, Advances, answer_of}
use Rattle.cf_io.specs.declared.lines.Next.{Next}
use Rattle.cf_io.specs.declared.lines.Next.TheVariants as next
use Rattle.std.proofs.Common.{Bor}
use Rattle.cf_session.specs.Stepping.{AppendsFront}
use Rattle.cf_top.specs.Ends.{Ends, Meets}
use Rattle.cf_top.specs.Carrying.{StopsAt, Carries}
use Rattle.cf_top.specs.declared.script.Carried.TheVariants as carried
use Rattle.cf_top.specs.declared.status.Status.{Status}
use Rattle.cf_top.specs.declared.status.Status.TheVariants as status
use Rattle.cf_top.proofs.Following.{Follows, cut_off, line_goes, line_refused, line_fails, done_here}

-- a refused line leaves the state
kept_state : (s : State) (outcome : Outcome) → refuses outcome ≡ true → state_of s outcome ≡ s
kept_state s (Refuses r) e = refl
kept_state s (Goes t reply) e = absurd (false≢true e)

-- a line that stops the run
pub stops_here : (files : Files) (whole : Ending) (s s' : State) (n handed from upto : ℕ) (before now after old : List ℕ) (line : Line) (more : List Line) (outcome : Outcome) (how : Status)
    → Follows whole (run_lines files s n handed (lines old)) before now → lines old ≡ line ∷ more → carry files s handed line ≡ outcome → StopsAt outcome n s now s' after how
    → from + known_by handed line (fit handed line) ≤ upto → Meets whole before after from upto s' how
stops_here files whole s s' n handed from upto before now after old line more outcome status.Done follows e carries stops read = absurd stops
stops_here files whole s s' n handed from upto before now after old line more outcome status.Refused follows e carries stops read =
    subst (Ends whole Refused before after from upto) (sym (stops.1.state ∙ kept_state s outcome stops.0))
    (line_refused files whole s n handed from upto before now after old line more outcome follows e carries stops.0 stops.1.text read)
stops_here files whole s s' n handed from upto before now after old line more outcome status.Usage follows e carries stops read = absurd stops
stops_here files whole s s' n handed from upto before now after old line more outcome status.ReadFault follows e carries stops read = absurd stops
stops_here files whole s s' n handed from upto before now after old line more outcome status.WriteFault follows e carries stops read =
    line_fails files whole s n handed before now after old line more outcome follows e carries stops
stops_here files whole s s' n handed from upto before now after old line more outcome status.NoMemory follows e carries stops read =
    subst (λ w. AppendsFront before w whole.text) (sym stops.1) (cut_off whole (run_lines files s n handed (lines old)) before now follows)
stops_here files whole s s' n handed from upto before now after old line more outcome status.FileFault follows e carries stops read =
    subst (λ w. AppendsFront before w whole.text) (sym stops.1) (cut_off whole (run_lines files s n handed (lines old)) before now follows)

-- a line that is not too long stops the run
pub line_stops : (files : Files) (whole : Ending) (s s' : State) (n from upto : ℕ) (held kept : Held) (before now after old new line : List ℕ) (newline : Bool) (how : Status)
    → Follows whole (run_lines files s n held.handed (lines old)) before now → IsFirst held kept old new line newline → StopsAt (step_parsed files s (parse line)) n s now s' after how
    → from + (held.handed + size (record { bytes = line; newline = newline })) ≤ upto → Meets whole before after from upto s' how
line_stops files whole s s' n from upto held kept before now after old new line newline how follows first stops read =
    let here : Line = record { bytes = line; newline = newline } in
    stops_here files whole s s' n held.handed from upto before now after old (record { bytes = line; newline = newline }) (lines new) (step_parsed files s (parse line)) how follows first.lines
    (carry-fit files s held.handed (record { bytes = line; newline = newline }) Fits first.fits) stops
    (subst (λ f. from + known_by held.handed (record { bytes = line; newline = newline }) f ≤ upto) (sym first.fits) read)

-- a line that goes on
pub line_turns : (files : Files) (whole : Ending) (s s' : State) (n : ℕ) (held kept : Held) (before now after old new line : List ℕ) (newline : Bool)
    → Follows whole (run_lines files s n held.handed (lines old)) before now → IsFirst held kept old new line newline → Carries (step_parsed files s (parse line)) n s now s' after carried.Goes
    → Follows whole (run_lines files s' (n + 1) kept.handed (lines new)) before after
line_turns files whole s s' n held kept before now after old new line newline follows first goes =
    rw (goes.1.state, first.handed)
    (line_goes files whole s n held.handed before now after old (record { bytes = line; newline = newline }) (lines new) (step_parsed files s (parse line)) follows first.lines
    (carry-fit files s held.handed (record { bytes = line; newline = newline }) Fits first.fits) goes.0 goes.1.text)

-- a line that is too long stops the run
pub long_stops : (files : Files) (whole : Ending) (s : State) (n from upto : ℕ) (held : Held) (before now after old : List ℕ) (long : Fit) (outcome : Outcome) (how : Status)
    → Follows whole (run_lines files s n held.handed (lines old)) before now → BeginsTooLong held old long → ((line : Line) → carry_fitting files s line.bytes long ≡ outcome) → StopsAt outcome n s now s after how
    → ((line : Line) → from + known_by held.handed line long ≤ upto) → Meets whole before after from upto s how
long_stops files whole s n from upto held before now after old long outcome how follows begins refuses stops read =
    stops_here files whole s s n held.handed from upto before now after old begins.line begins.more outcome how follows begins.lines
    (carry-fit files s held.handed begins.line long begins.long ∙ refuses begins.line) stops
    (subst (λ f. from + known_by held.handed begins.line f ≤ upto) (sym begins.long) (read begins.line))

lines-nil : lines [] ≡ []
unfolding lines
lines-nil = refl

-- the end of the source ends the run
pub end_stops : (files : Files) (whole : Ending) (s : State) (n handed from upto : ℕ) (before now old : List ℕ) → Follows whole (run_lines files s n handed (lines old)) before now → old ≡ [] → from + handed ≤ upto
    → Ends whole Done before now from upto s
end_stops files whole s n handed from upto before now old follows none read =
    done_here files whole s n handed from upto before now old follows (ap lines none ∙ lines-nil) read

-- the line that a call of `next_line` answered
pub line_answered : (held kept : Held) (old new : List ℕ) (result : Next) (line : Bor (List ℕ)) → HandsOut held old kept new (answer_of result) → result ≡ next.Line line
    → (newline : Bool) × IsFirst held kept old new line.now newline
line_answered held kept old new result line hands is = subst (λ r. HandsOut held old kept new (answer_of r)) is hands

pub line_moved : (held kept : Held) (from upto : ℕ) (result : Next) (line : Bor (List ℕ)) → Advances held kept from upto (answer_of result) → result ≡ next.Line line
    → (held.handed < kept.handed) × (held.handed + length line.now ≤ kept.handed)
line_moved held kept from upto result line advances is =
    let moves = subst (λ r. Moves held kept (answer_of r)) is advances.moves in (moves.0, moves.1)

-- what was taken since the beginning
pub taken_since : (entry from upto old new : ℕ) → entry + old ≡ from → new + from ≡ old + upto → entry + new ≡ upto
taken_since entry from upto old new h k = omega arith

pub end_answered : (held kept : Held) (old new : List ℕ) (result : Next) → HandsOut held old kept new (answer_of result) → result ≡ next.End → (old ≡ []) × (new ≡ [])
end_answered held kept old new result hands is = subst (λ r. HandsOut held old kept new (answer_of r)) is hands

pub long_answered : (held kept : Held) (old new : List ℕ) (result : Next) → HandsOut held old kept new (answer_of result) → result ≡ next.TooLong → BeginsTooLong held old LineTooLong
long_answered held kept old new result hands is = subst (λ r. HandsOut held old kept new (answer_of r)) is hands

pub script_long_answered : (held kept : Held) (old new : List ℕ) (result : Next) → HandsOut held old kept new (answer_of result) → result ≡ next.ScriptTooLong → BeginsTooLong held old ScriptTooLong
script_long_answered held kept old new result hands is = subst (λ r. HandsOut held old kept new (answer_of r)) is hands

pub end_moved : (held kept : Held) (from upto : ℕ) (result : Next) → Advances held kept from upto (answer_of result) → result ≡ next.End → (kept.handed ≡ held.handed) × (kept.bytes ≡ []) × IsTrue kept.ended
end_moved held kept from upto result advances is = subst (λ r. Moves held kept (answer_of r)) is advances.moves

pub long_moved : (held kept : Held) (from upto : ℕ) (result : Next) → Advances held kept from upto (answer_of result) → result ≡ next.TooLong → (kept.handed ≡ held.handed) × (held.handed + 65537 ≤ taken_by kept)
long_moved held kept from upto result advances is = subst (λ r. Moves held kept (answer_of r)) is advances.moves

pub script_long_moved : (held kept : Held) (from upto : ℕ) (result : Next) → Advances held kept from upto (answer_of result) → result ≡ next.ScriptTooLong
    → (kept.handed ≡ held.handed) × (1073741825 ≤ taken_by kept)
script_long_moved held kept from upto result advances is = subst (λ r. Moves held kept (answer_of r)) is advances.moves
