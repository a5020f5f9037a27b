-- How a run that has come some way stands to the reference run.
use Rattle.std.proofs.Common.{ℕ, ◌≡◌, ◌+◌, ◌≤◌, true, false, List, [], ◌∷◌, ◌++◌, take, drop, refl, ap, sym, ◌∙◌, subst, append_assoc, append-nil}
use Rattle.std.proofs.lemmas.List.{take-append-drop}
use Rattle.cf_reference.specs.Lines.{Line, fit, known_by, size, lines}
use Rattle.cf_reference.specs.States.{State, Files}
use Rattle.cf_reference.specs.Carrying.{Outcome}
use Rattle.cf_reference.specs.Scripts.{Close, Done, Refused, Ending, adds, run_lines, carry, text_of, state_of, refuses}
use Rattle.cf_reference.proofs.ScriptLaws.{adds-adds, run_lines-nil, run_lines-goes, run_lines-refused, run_lines-text}
use Rattle.cf_session.specs.Stepping.{AppendsFront}
use Rattle.cf_top.specs.Ends.{Ends}

-- The whole run's end is the text that was written so far, and then the rest of the run.
pub record Follows (whole rest : Ending) (before now : List ℕ) : Type 0 where
  pub so_far : List ℕ
  pub written : now ≡ before ++ so_far
  pub ending : whole ≡ adds so_far rest

pub at_start : (whole : Ending) (before : List ℕ) → Follows whole whole before before
at_start whole before = record { so_far = []; written = sym (append-nil before); ending = refl }

-- one more text
pub goes_on : (whole rest later : Ending) (before now after text : List ℕ) → Follows whole rest before now → rest ≡ adds text later → after ≡ now ++ text
    → Follows whole later before after
goes_on whole rest later before now after text follows e written = record {
  so_far = follows.so_far ++ text;
  written = written ∙ ap (λ w. w ++ text) follows.written ∙ append_assoc before follows.so_far text;
  ending = follows.ending ∙ ap (adds follows.so_far) e ∙ adds-adds follows.so_far text later;
}

-- where the run is cut off, a front of the whole text was written
pub cut_off : (whole rest : Ending) (before now : List ℕ) → Follows whole rest before now → AppendsFront before now whole.text
cut_off whole rest before now follows = record {
  front = follows.so_far;
  rest = rest.text;
  appended = follows.written;
  whole = ap (λ (end : Ending). end.text) follows.ending;
}

pub cut_in_text : (whole rest : Ending) (before now after text more : List ℕ) → Follows whole rest before now → rest.text ≡ text ++ more → AppendsFront now after text
    → AppendsFront before after whole.text
cut_in_text whole rest before now after text more follows e fails = record {
  front = follows.so_far ++ fails.front;
  rest = fails.rest ++ more;
  appended = fails.appended ∙ ap (λ w. w ++ fails.front) follows.written ∙ append_assoc before follows.so_far fails.front;
  whole =
      ap (λ (end : Ending). end.text) follows.ending
      ∙ ap (λ w. follows.so_far ++ w) (e ∙ ap (λ w. w ++ more) fails.whole ∙ append_assoc fails.front fails.rest more)
      ∙ sym (append_assoc follows.so_far fails.front (fails.rest ++ more));
}

-- where the rest of the run adds one text and closes, the whole run does
pub closes : (whole rest : Ending) (before now after : List ℕ) (close : Close) (from upto : ℕ) (left : State)
    → Follows whole rest before now → after ≡ now ++ rest.text → rest.close ≡ close → left ≡ rest.state → from + rest.read ≤ upto
    → Ends whole close before after from upto left
closes whole rest before now after close from upto left follows written closed state read = record {
  text =
      written
      ∙ ap (λ w. w ++ rest.text) follows.written
      ∙ append_assoc before follows.so_far rest.text
      ∙ ap (λ w. before ++ w) (sym (ap (λ (end : Ending). end.text) follows.ending));
  closed = ap (λ (end : Ending). end.close) follows.ending ∙ closed;
  state = state ∙ sym (ap (λ (end : Ending). end.state) follows.ending);
  read = subst (λ n. from + n ≤ upto) (sym (ap (λ (end : Ending). end.read) follows.ending)) read;
}

-- what was written of a text is a front of it
pub front_of_take : (before after text : List ℕ) → ((n : ℕ) × (after ≡ before ++ take n text)) → AppendsFront before after text
front_of_take before after text h = record {
  front = take h.0 text;
  rest = drop h.0 text;
  appended = h.1;
  whole = sym (take-append-drop h.0 text);
}

-- nothing is left: the run is done
pub done_here : (files : Files) (whole : Ending) (s : State) (n handed from upto : ℕ) (before now old : List ℕ) → Follows whole (run_lines files s n handed (lines old)) before now → lines old ≡ [] → from + handed ≤ upto
    → Ends whole Done before now from upto s
done_here files whole s n handed from upto before now old follows none read =
    let e = ap (run_lines files s n handed) none ∙ run_lines-nil files s n handed in
    closes whole (run_lines files s n handed (lines old)) before now now Done from upto s follows
    (sym (ap (λ (end : Ending). now ++ end.text) e ∙ append-nil now))
    (ap (λ (end : Ending). end.close) e)
    (sym (ap (λ (end : Ending). end.state) e))
    (subst (λ k. from + k ≤ upto) (sym (ap (λ (end : Ending). end.read) e)) read)

-- a line that goes on
pub line_goes : (files : Files) (whole : Ending) (s : State) (n handed : ℕ) (before now after old : List ℕ) (line : Line) (more : List Line) (outcome : Outcome)
    → Follows whole (run_lines files s n handed (lines old)) before now → lines old ≡ line ∷ more → carry files s handed line ≡ outcome → refuses outcome ≡ false → after ≡ now ++ text_of n outcome
    → Follows whole (run_lines files (state_of s outcome) (n + 1) (handed + size line) more) before after
line_goes files whole s n handed before now after old line more outcome follows e carried goes written =
    goes_on whole (run_lines files s n handed (lines old)) _ before now after (text_of n outcome) follows
    (ap (run_lines files s n handed) e ∙ run_lines-goes files s n handed line more outcome carried goes)
    written

-- a line that is refused
pub line_refused : (files : Files) (whole : Ending) (s : State) (n handed from upto : ℕ) (before now after old : List ℕ) (line : Line) (more : List Line) (outcome : Outcome)
    → Follows whole (run_lines files s n handed (lines old)) before now → lines old ≡ line ∷ more → carry files s handed line ≡ outcome → refuses outcome ≡ true → after ≡ now ++ text_of n outcome
    → from + known_by handed line (fit handed line) ≤ upto → Ends whole Refused before after from upto s
line_refused files whole s n handed from upto before now after old line more outcome follows e carried refused written read =
    let end = ap (run_lines files s n handed) e ∙ run_lines-refused files s n handed line more outcome carried refused in
    closes whole (run_lines files s n handed (lines old)) before now after Refused from upto s follows
    (written ∙ sym (ap (λ (end : Ending). now ++ end.text) end))
    (ap (λ (end : Ending). end.close) end)
    (sym (ap (λ (end : Ending). end.state) end))
    (subst (λ k. from + k ≤ upto) (sym (ap (λ (end : Ending). end.read) end)) read)

-- a line whose text couldn't be written
pub line_fails : (files : Files) (whole : Ending) (s : State) (n handed : ℕ) (before now after old : List ℕ) (line : Line) (more : List Line) (outcome : Outcome)
    → Follows whole (run_lines files s n handed (lines old)) before now → lines old ≡ line ∷ more → carry files s handed line ≡ outcome → AppendsFront now after (text_of n outcome)
    → AppendsFront before after whole.text
line_fails files whole s n handed before now after old line more outcome follows e carried fails =
    let t = run_lines-text files s n handed line more outcome carried in
    cut_in_text whole (run_lines files s n handed (lines old)) before now after (text_of n outcome) t.0 follows
    (ap (λ (end : Ending). end.text) (ap (run_lines files s n handed) e) ∙ t.1)
    fails
