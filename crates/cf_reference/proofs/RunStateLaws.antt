-- Lines lead to states of which this holds.
use Rattle.std.proofs.Common.{ℕ, ◌≡◌, ◌+◌, Bool, true, false, List, [], ◌∷◌, Option, Some, None, refl, sym, subst}
use Rattle.cf_reference.specs.Lines.{Line, Fit, Fits, LineTooLong, ScriptTooLong, fit, size, lines}
use Rattle.cf_reference.specs.LineRefusals.{Parsed, TooDeep, Malformed, WideNumber, Good, Parses}
use Rattle.cf_reference.specs.Parsing.{parse}
use Rattle.cf_reference.specs.States.{State, Files, IsState, initial}
use Rattle.cf_reference.specs.Carrying.{Outcome, Refuses, Goes, step}
use Rattle.cf_reference.specs.Scripts.{step_parsed, carry_fitting, carry, state_of, refuses, Ending, run_lines, ref_form, RunsEndInStates}
use Rattle.cf_reference.specs.Forms.{Form, Run, Generated, form_of}
use Rattle.cf_reference.specs.Generator.{gen_script}
use Rattle.cf_reference.proofs.ParseLaws.{lines_parse}
use Rattle.cf_reference.proofs.ScriptLaws.{run_lines-nil, run_lines-goes, run_lines-refused}
use Rattle.cf_reference.proofs.StateLaws.{initial-holds, step-holds}

-- a line leads to such a state
parsed_holds : (files : Files) (s : State) (line : List ℕ) (p : Parsed) → IsState s → Parses line p → IsState (state_of s (step_parsed files s p))
parsed_holds files s line TooDeep h p = h
parsed_holds files s line Malformed h p = h
parsed_holds files s line WideNumber h p = h
parsed_holds files s line (Good t) h p = by (step files s t) refl
  where
    by : (o : Outcome) → step files s t ≡ o → IsState (state_of s o)
    by (Refuses r) e = h
    by (Goes u reply) e = step-holds files s u t reply h p.2 e

fitting_holds : (files : Files) (s : State) (line : List ℕ) (how : Fit) → IsState s → IsState (state_of s (carry_fitting files s line how))
fitting_holds files s line Fits h = parsed_holds files s line (parse line) h (lines_parse line)
fitting_holds files s line LineTooLong h = h
fitting_holds files s line ScriptTooLong h = h

pub carry-holds : (files : Files) (s : State) (before : ℕ) (line : Line) → IsState s → IsState (state_of s (carry files s before line))
unfolding carry
carry-holds files s before line h = fitting_holds files s line.bytes (fit before line) h

run_holds : (files : Files) (s : State) (n before : ℕ) (all : List Line) → IsState s → IsState (run_lines files s n before all).state
run_holds files s n before [] h = subst (λ (end : Ending). IsState end.state) (sym (run_lines-nil files s n before)) h
run_holds files s n before (line ∷ later) h =
    by (refuses (carry files s before line)) refl (run_holds files (state_of s (carry files s before line)) (n + 1) (before + size line) later (carry-holds files s before line h))
  where
    by : (b : Bool) → refuses (carry files s before line) ≡ b
        → IsState (run_lines files (state_of s (carry files s before line)) (n + 1) (before + size line) later).state
        → IsState (run_lines files s n before (line ∷ later)).state
    by true r more =
        subst (λ (end : Ending). IsState end.state) (sym (run_lines-refused files s n before line later (carry files s before line) refl r)) h
    by false r more =
        subst (λ (end : Ending). IsState end.state) (sym (run_lines-goes files s n before line later (carry files s before line) refl r)) more

form_holds : (files : Files) (form : Option Form) (source : List ℕ)
    → IsState (ref_form files form source).state
form_holds files None source = initial-holds
form_holds files (Some Run) source =
    run_holds files initial 1 0 (lines source) initial-holds
form_holds files (Some (Generated seed)) source =
    run_holds files initial 1 0 (lines (gen_script seed)) initial-holds

pub runs_end_in_states : RunsEndInStates
runs_end_in_states files said source = form_holds files (form_of said) source
