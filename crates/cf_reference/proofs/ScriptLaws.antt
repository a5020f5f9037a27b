-- How the reference run of a script goes from line to line.
use Rattle.std.proofs.Common.{ℕ, ◌≡◌, ◌+◌, Bool, true, false, cond, List, [], ◌∷◌, ◌++◌, refl, ap, sym, ◌∙◌, append_assoc, append-nil}
use Rattle.cf_reference.specs.Lines.{Line, Fit, Fits, fit, known_by, size}
use Rattle.cf_reference.specs.States.{State, Files}
use Rattle.cf_reference.specs.Carrying.{Outcome}
use Rattle.cf_reference.specs.LineRefusals.{Parsed, Parses}
use Rattle.cf_reference.specs.Scripts.{step_parsed, carry_fitting, carry, text_of, state_of, refuses, Done, Refused, Ending, adds, run_lines}
use Rattle.cf_reference.proofs.ParseLaws.{parse-is}

pub adds-adds : (a b : List ℕ) (end : Ending) → adds a (adds b end) ≡ adds (a ++ b) end
adds-adds a b end =
    ap (λ text. record { text = text; close = end.close; state = end.state; read = end.read }) (sym (append_assoc a b end.text))

-- what a line does by how it fares
pub carry-fit : (files : Files) (s : State) (before : ℕ) (line : Line) (how : Fit) → fit before line ≡ how
    → carry files s before line ≡ carry_fitting files s line.bytes how
unfolding carry
carry-fit files s before line how e = ap (carry_fitting files s line.bytes) e

-- a run without lines is done
pub run_lines-nil : (files : Files) (s : State) (n before : ℕ)
    → run_lines files s n before [] ≡ record { text = []; close = Done; state = s; read = before }
unfolding run_lines
run_lines-nil files s n before = refl

abbrev refused_end : Files → State → ℕ → ℕ → Line → Ending
refused_end files s n before line =
    record { text = text_of n (carry files s before line); close = Refused; state = s; read = known_by before line (fit before line) }

abbrev later_end : Files → State → ℕ → ℕ → Line → List Line → Ending
later_end files s n before line more =
    adds (text_of n (carry files s before line)) (run_lines files (state_of s (carry files s before line)) (n + 1) (before + size line) more)

pub run_lines-goes : (files : Files) (s : State) (n before : ℕ) (line : Line) (more : List Line) (outcome : Outcome)
    → carry files s before line ≡ outcome → refuses outcome ≡ false
    → run_lines files s n before (line ∷ more) ≡ adds (text_of n outcome) (run_lines files (state_of s outcome) (n + 1) (before + size line) more)
unfolding run_lines
run_lines-goes files s n before line more outcome e goes =
    ap (λ b. cond b (refused_end files s n before line) (later_end files s n before line more)) (ap refuses e ∙ goes)
    ∙ ap (λ o. adds (text_of n o) (run_lines files (state_of s o) (n + 1) (before + size line) more)) e

pub run_lines-refused : (files : Files) (s : State) (n before : ℕ) (line : Line) (more : List Line) (outcome : Outcome)
    → carry files s before line ≡ outcome → refuses outcome ≡ true
    → run_lines files s n before (line ∷ more) ≡ record { text = text_of n outcome; close = Refused; state = s; read = known_by before line (fit before line) }
unfolding run_lines
run_lines-refused files s n before line more outcome e refused =
    ap (λ b. cond b (refused_end files s n before line) (later_end files s n before line more)) (ap refuses e ∙ refused)
    ∙ ap (λ o. record { text = text_of n o; close = Refused; state = s; read = known_by before line (fit before line) }) e

-- the text of a run begins with the text of its first line
pub run_lines-text : (files : Files) (s : State) (n before : ℕ) (line : Line) (more : List Line) (outcome : Outcome)
    → carry files s before line ≡ outcome
    → (rest : List ℕ) × ((run_lines files s n before (line ∷ more)).text ≡ text_of n outcome ++ rest)
run_lines-text files s n before line more outcome e = at (refuses outcome) refl
  where
    at : (b : Bool) → refuses outcome ≡ b
        → (rest : List ℕ) × ((run_lines files s n before (line ∷ more)).text ≡ text_of n outcome ++ rest)
    at true refused =
        ([], ap (λ (end : Ending). end.text) (run_lines-refused files s n before line more outcome e refused) ∙ sym (append-nil (text_of n outcome)))
    at false goes =
        ((run_lines files (state_of s outcome) (n + 1) (before + size line) more).text, ap (λ (end : Ending). end.text) (run_lines-goes files s n before line more outcome e goes))

-- what a line does that fits and comes to something
pub carry-parsed : (files : Files) (s : State) (before : ℕ) (line : Line) (p : Parsed) → fit before line ≡ Fits → Parses line.bytes p
    → carry files s before line ≡ step_parsed files s p
carry-parsed files s before line p e h = carry-fit files s before line Fits e ∙ ap (step_parsed files s) (parse-is line.bytes p h)
