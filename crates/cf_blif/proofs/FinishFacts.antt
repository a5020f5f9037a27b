-- What a reader holds, with the lines that are to come, is the netlist.
use Rattle.std.proofs.Common.{ℕ, ◌≡◌, ◌||◌, Bool, true, false, cond, List, [], ◌∷◌, ◌++◌, map, Option, Some, None, refl, ap, sym, ◌∙◌, append_assoc}
use Rattle.std.specs.Prelude.{codes}
use Rattle.std.specs.Str.{bytes_eq}
use Rattle.cf_circuits.specs.declared.gates.Gate as gate
use Rattle.cf_circuits.specs.declared.gates.Cell.{Cell}
use Rattle.cf_circuits.specs.declared.pins.Call as call
use Rattle.cf_circuits.specs.declared.models.ModelDef.{ModelDef}
use Rattle.cf_circuits.specs.declared.kinds.Kind.{Kind}
use Rattle.cf_circuits.specs.declared.kinds.Kind.TheVariants.{Model, Inputs, Outputs, Gate, Call, End, Ignored, Unknown, Cover}
use Rattle.cf_circuits.specs.LogicalLines.{Line}
use Rattle.cf_circuits.specs.Kinds.{kind, arguments, last_word, is_model, is_end, is_gate, is_call, is_inputs, is_outputs, is_cover}
use Rattle.cf_circuits.specs.Netlists.{cover_lines, gate_of, call_of, on_of, plane_of, gates_of, calls_of, inputs_of, outputs_of, body, model_of, models_of}
use Rattle.cf_blif.specs.declared.reader.OpenGate.{OpenGate}
use Rattle.cf_blif.specs.declared.reader.Reader.{Reader}
use Rattle.cf_blif.specs.Readers.{on_of_first, closed_gate, put_gate, with_gate, list_of, without_model, opened_gate, or_first, with_cover, on_some, called, next, initial}

abbrev pub on_with : Option Bool → List Line → Bool
on_with None lines = on_of lines
on_with (Some b) lines = b

-- the gate that is open, with the cover lines that are to come
abbrev pub extended : OpenGate → List Line → gate.Gate
extended g lines = record { ins = g.ins; out = g.out; cover = record { on = on_with g.first lines; planes = g.planes ++ map (λ l. plane_of l.words) lines }; line = g.line }

abbrev pub gate_part : Option OpenGate → List Line → List gate.Gate
gate_part None lines = []
gate_part (Some g) lines = extended g lines ∷ []

abbrev pub completed : ModelDef → Option OpenGate → List Line → ModelDef
completed m g lines = record {
  name = m.name;
  inputs = m.inputs ++ inputs_of lines;
  outputs = m.outputs ++ outputs_of lines;
  gates = m.gates ++ (gate_part g (cover_lines lines) ++ gates_of lines);
  calls = m.calls ++ calls_of lines;
}

abbrev pub ending : Option ModelDef → Option OpenGate → List Line → List ModelDef
ending None g lines = models_of lines
ending (Some m) g lines = completed m g (body lines) ∷ models_of lines

abbrev pub finished : Reader → List Line → List ModelDef
finished s lines = s.done ++ ending s.current s.gate lines

nil : {A : Type 0} (xs : List A) → xs ++ [] ≡ xs
nil [] = refl
nil (x ∷ xs) = ap (λ ys. x ∷ ys) (nil xs)

-- a gate of parts
abbrev gate_by : OpenGate → Bool → List (List Cell) → gate.Gate
gate_by g on planes = record { ins = g.ins; out = g.out; cover = record { on = on; planes = planes }; line = g.line }

closed_is : (g : OpenGate) → extended g [] ≡ closed_gate g
closed_is g = ap (gate_by g (on_with g.first [])) (nil g.planes) ∙ ap (λ b. gate_by g b g.planes) (by g.first)
  where
    by : (o : Option Bool) → on_with o [] ≡ on_of_first o
    by None = refl
    by (Some b) = refl

-- a model of parts
abbrev made : List ℕ → List (List ℕ) → List (List ℕ) → List gate.Gate → List call.Call → ModelDef
made name inputs outputs gates calls = record { name = name; inputs = inputs; outputs = outputs; gates = gates; calls = calls }

same_made : (name : List ℕ) (i i' o o' : List (List ℕ)) (g g' : List gate.Gate) (c c' : List call.Call) → i ≡ i' → o ≡ o' → g ≡ g' → c ≡ c' → made name i o g c ≡ made name i' o' g' c'
same_made name i i' o o' g g' c c' p q r s = ap (λ x. made name x o g c) p ∙ ap (λ x. made name i' x g c) q ∙ ap (λ x. made name i' o' x c) r ∙ ap (λ x. made name i' o' g' x) s

-- a gate goes to its model where no cover line follows
gates_put : (m : ModelDef) (g : Option OpenGate) (more : List gate.Gate) → m.gates ++ (gate_part g [] ++ more) ≡ (put_gate m g).gates ++ more
gates_put m None more = refl
gates_put m (Some g) more = ap (λ x. m.gates ++ (x ∷ more)) (closed_is g) ∙ sym (append_assoc m.gates (closed_gate g ∷ []) more)

-- a model that ends
ended : (m : ModelDef) (g : Option OpenGate) → completed m g [] ≡ put_gate m g
ended m None = same_made m.name _ m.inputs _ m.outputs _ m.gates _ m.calls (nil m.inputs) (nil m.outputs) (nil m.gates) (nil m.calls)
ended m (Some g) = same_made m.name _ m.inputs _ m.outputs _ (m.gates ++ closed_gate g ∷ []) _ m.calls (nil m.inputs) (nil m.outputs) (ap (λ x. m.gates ++ x ∷ []) (closed_is g)) (nil m.calls)

-- lines that close the gate
after_inputs : (m : ModelDef) (g : Option OpenGate) (names : List (List ℕ)) (lines : List Line)
    → made m.name (m.inputs ++ (names ++ inputs_of lines)) (m.outputs ++ outputs_of lines) (m.gates ++ (gate_part g [] ++ gates_of lines)) (m.calls ++ calls_of lines)
    ≡ completed (record (put_gate m g) { inputs = (put_gate m g).inputs ++ names }) None lines
after_inputs m None names lines = same_made m.name _ _ _ _ _ _ _ _ (sym (append_assoc m.inputs names (inputs_of lines))) refl refl refl
after_inputs m (Some g) names lines = same_made m.name _ _ _ _ _ _ _ _ (sym (append_assoc m.inputs names (inputs_of lines))) refl (gates_put m (Some g) (gates_of lines)) refl

after_outputs : (m : ModelDef) (g : Option OpenGate) (names : List (List ℕ)) (lines : List Line)
    → made m.name (m.inputs ++ inputs_of lines) (m.outputs ++ (names ++ outputs_of lines)) (m.gates ++ (gate_part g [] ++ gates_of lines)) (m.calls ++ calls_of lines)
    ≡ completed (record (put_gate m g) { outputs = (put_gate m g).outputs ++ names }) None lines
after_outputs m None names lines = same_made m.name _ _ _ _ _ _ _ _ refl (sym (append_assoc m.outputs names (outputs_of lines))) refl refl
after_outputs m (Some g) names lines = same_made m.name _ _ _ _ _ _ _ _ refl (sym (append_assoc m.outputs names (outputs_of lines))) (gates_put m (Some g) (gates_of lines)) refl

after_call : (m : ModelDef) (g : Option OpenGate) (c : call.Call) (lines : List Line)
    → made m.name (m.inputs ++ inputs_of lines) (m.outputs ++ outputs_of lines) (m.gates ++ (gate_part g [] ++ gates_of lines)) (m.calls ++ (c ∷ calls_of lines))
    ≡ completed (record (put_gate m g) { calls = (put_gate m g).calls ++ c ∷ [] }) None lines
after_call m None c lines = same_made m.name _ _ _ _ _ _ _ _ refl refl refl (sym (append_assoc m.calls (c ∷ []) (calls_of lines)))
after_call m (Some g) c lines = same_made m.name _ _ _ _ _ _ _ _ refl refl (gates_put m (Some g) (gates_of lines)) (sym (append_assoc m.calls (c ∷ []) (calls_of lines)))

after_other : (m : ModelDef) (g : Option OpenGate) (lines : List Line)
    → made m.name (m.inputs ++ inputs_of lines) (m.outputs ++ outputs_of lines) (m.gates ++ (gate_part g [] ++ gates_of lines)) (m.calls ++ calls_of lines)
    ≡ completed (put_gate m g) None lines
after_other m None lines = refl
after_other m (Some g) lines = same_made m.name _ _ _ _ _ _ _ _ refl refl (gates_put m (Some g) (gates_of lines)) refl

-- a line that begins a gate
after_gate : (m : ModelDef) (g : Option OpenGate) (o : OpenGate) (x : gate.Gate) (lines : List Line) → x ≡ extended o (cover_lines lines)
    → made m.name (m.inputs ++ inputs_of lines) (m.outputs ++ outputs_of lines) (m.gates ++ (gate_part g [] ++ (x ∷ gates_of lines))) (m.calls ++ calls_of lines)
    ≡ completed (put_gate m g) (Some o) lines
after_gate m None o x lines e = same_made m.name _ _ _ _ _ _ _ _ refl refl (ap (λ y. m.gates ++ (y ∷ gates_of lines)) e) refl
after_gate m (Some g) o x lines e = same_made m.name _ _ _ _ _ _ _ _ refl refl (gates_put m (Some g) (x ∷ gates_of lines) ∙ ap (λ y. (m.gates ++ closed_gate g ∷ []) ++ (y ∷ gates_of lines)) e) refl

-- a cover line
covered_more : (g : OpenGate) (l : Line) (lines : List Line) → extended g (l ∷ lines) ≡ extended (with_cover l.words g) lines
covered_more g l lines =
    ap (gate_by g (on_with g.first (l ∷ lines))) (sym (append_assoc g.planes (plane_of l.words ∷ []) (map (λ y. plane_of y.words) lines)))
    ∙ ap (λ b. gate_by g b ((g.planes ++ plane_of l.words ∷ []) ++ map (λ y. plane_of y.words) lines)) (by g.first)
  where
    by : (o : Option Bool) → on_with o (l ∷ lines) ≡ on_with (or_first o (bytes_eq (last_word l.words) (codes "1"))) lines
    by None = refl
    by (Some b) = refl

after_cover : (m : ModelDef) (g : Option OpenGate) (l : Line) (lines : List Line)
    → made m.name (m.inputs ++ inputs_of lines) (m.outputs ++ outputs_of lines) (m.gates ++ (gate_part g (l ∷ cover_lines lines) ++ gates_of lines)) (m.calls ++ calls_of lines)
    ≡ completed m (on_some (with_cover l.words) g) lines
after_cover m None l lines = refl
after_cover m (Some g) l lines = same_made m.name _ _ _ _ _ _ _ _ refl refl (ap (λ x. m.gates ++ (x ∷ gates_of lines)) (covered_more g l (cover_lines lines))) refl

-- a model with one more line of a kind
abbrev one_more : ModelDef → Option OpenGate → Line → Kind → List Line → ModelDef
one_more m g l k lines =
    made m.name (m.inputs ++ cond (is_inputs k) (arguments l.words ++ inputs_of lines) (inputs_of lines))
    (m.outputs ++ cond (is_outputs k) (arguments l.words ++ outputs_of lines) (outputs_of lines))
    (m.gates ++ (gate_part g (cond (is_cover k) (l ∷ cover_lines lines) []) ++ cond (is_gate k) (gate_of l (cover_lines lines) ∷ gates_of lines) (gates_of lines)))
    (m.calls ++ cond (is_call k) (call_of l ∷ calls_of lines) (calls_of lines))

body_by : (l : Line) (later : List Line) (k : Kind) → kind l ≡ k → body (l ∷ later) ≡ cond (is_model k || is_end k) [] (l ∷ body later)
body_by l later k e = ap (λ t. cond (is_model t || is_end t) [] (l ∷ body later)) e

models_by : (l : Line) (later : List Line) (k : Kind) → kind l ≡ k → models_of (l ∷ later) ≡ cond (is_model k) (model_of l (body later) ∷ models_of later) (models_of later)
unfolding models_of
models_by l later k e = ap (λ t. cond (is_model t) (model_of l (body later) ∷ models_of later) (models_of later)) e

-- a line within a model
in_model : (m : ModelDef) (g : Option OpenGate) (l : Line) (later : List Line) (k : Kind) (new : ModelDef) → kind l ≡ k
    → (is_model k || is_end k) ≡ false → is_model k ≡ false → one_more m g l k (body later) ≡ new
    → ending (Some m) g (l ∷ later) ≡ new ∷ models_of later
in_model m g l later k new e plain other is =
    ap (λ b. completed m g b ∷ models_of (l ∷ later)) (body_by l later k e ∙ ap (λ t. cond t [] (l ∷ body later)) plain)
    ∙ ap (λ ms. completed m g (l ∷ body later) ∷ ms) (models_by l later k e ∙ ap (λ t. cond t (model_of l (body later) ∷ models_of later) (models_of later)) other)
    ∙ ap (λ t. one_more m g l t (body later) ∷ models_of later) e
    ∙ ap (λ x. x ∷ models_of later) is

-- a line that ends a model
ends_model : (m : ModelDef) (g : Option OpenGate) (l : Line) (later : List Line) (k : Kind) (more : List ModelDef) → kind l ≡ k
    → (is_model k || is_end k) ≡ true → cond (is_model k) (model_of l (body later) ∷ models_of later) (models_of later) ≡ more
    → ending (Some m) g (l ∷ later) ≡ put_gate m g ∷ more
ends_model m g l later k more e ends is =
    ap (λ b. completed m g b ∷ models_of (l ∷ later)) (body_by l later k e ∙ ap (λ t. cond t [] (l ∷ body later)) ends)
    ∙ ap (λ x. x ∷ models_of (l ∷ later)) (ended m g)
    ∙ ap (λ ms. put_gate m g ∷ ms) (models_by l later k e ∙ is)

-- what is to come changes by one line as the reader does
pub step : (done : List ModelDef) (m : Option ModelDef) (g : Option OpenGate) (names : List (List ℕ)) (l : Line) (later : List Line) (k : Kind) → kind l ≡ k
    → finished (record { done = done; current = m; gate = g; names = names }) (l ∷ later)
    ≡ finished (next (record { done = done; current = m; gate = g; names = names }) k l.number l.words) later
step done None g names l later Model e = ap (λ x. done ++ x) (models_by l later Model e) ∙ ap (λ d. d ++ (model_of l (body later) ∷ models_of later)) (sym (nil done))
step done (Some m) g names l later Model e = ap (λ x. done ++ x) (ends_model m g l later Model (model_of l (body later) ∷ models_of later) e refl refl) ∙ sym (append_assoc done (put_gate m g ∷ []) (model_of l (body later) ∷ models_of later))
step done None g names l later Inputs e = ap (λ x. done ++ x) (models_by l later Inputs e)
step done (Some m) g names l later Inputs e = ap (λ x. done ++ x) (in_model m g l later Inputs _ e refl refl (after_inputs m g (arguments l.words) (body later)))
step done None g names l later Outputs e = ap (λ x. done ++ x) (models_by l later Outputs e)
step done (Some m) g names l later Outputs e = ap (λ x. done ++ x) (in_model m g l later Outputs _ e refl refl (after_outputs m g (arguments l.words) (body later)))
step done None g names l later Gate e = ap (λ x. done ++ x) (models_by l later Gate e)
step done (Some m) g names l later Gate e = ap (λ x. done ++ x) (in_model m g l later Gate _ e refl refl (after_gate m g (opened_gate l.number (arguments l.words)) (gate_of l (cover_lines (body later))) (body later) refl))
step done None g names l later Call e = ap (λ x. done ++ x) (models_by l later Call e)
step done (Some m) g names l later Call e = ap (λ x. done ++ x) (in_model m g l later Call _ e refl refl (after_call m g (called l.number (arguments l.words)) (body later)))
step done None g names l later End e = ap (λ x. done ++ x) (models_by l later End e) ∙ ap (λ d. d ++ models_of later) (sym (nil done))
step done (Some m) g names l later End e = ap (λ x. done ++ x) (ends_model m g l later End (models_of later) e refl refl) ∙ sym (append_assoc done (put_gate m g ∷ []) (models_of later))
step done None g names l later Ignored e = ap (λ x. done ++ x) (models_by l later Ignored e)
step done (Some m) g names l later Ignored e = ap (λ x. done ++ x) (in_model m g l later Ignored _ e refl refl (after_other m g (body later)))
step done None g names l later Unknown e = ap (λ x. done ++ x) (models_by l later Unknown e)
step done (Some m) g names l later Unknown e = ap (λ x. done ++ x) (in_model m g l later Unknown _ e refl refl (after_other m g (body later)))
step done None g names l later Cover e = ap (λ x. done ++ x) (models_by l later Cover e)
step done (Some m) g names l later Cover e = ap (λ x. done ++ x) (in_model m g l later Cover _ e refl refl (after_cover m g l (body later)))

-- at the end nothing is to come
pub finished-nothing : (s : Reader) → finished s [] ≡ (without_model s).done
unfolding models_of
finished-nothing s = by s.current
  where
    by : (m : Option ModelDef) → s.done ++ ending m s.gate [] ≡ s.done ++ list_of (with_gate m s.gate)
    by None = refl
    by (Some m) = ap (λ x. s.done ++ x ∷ []) (ended m s.gate)

-- and before the first line all is
pub finished-all : (lines : List Line) → finished initial lines ≡ models_of lines
finished-all lines = refl
