use Rattle.std.specs.Prelude.{ℕ, ◌==◌, not, Bool, true, false, List, [], ◌∷◌, ◌++◌, length, map, codes, Option, Some, None, if◌then◌else◌}
use Rattle.std.specs.Str.{bytes_eq}
use Rattle.cf_circuits.specs.declared.faults.BlifWhy.{BlifWhy}
use Rattle.cf_circuits.specs.declared.faults.BlifWhy.TheVariants as why
use Rattle.cf_circuits.specs.declared.gates.Gate as gate
use Rattle.cf_circuits.specs.declared.models.ModelDef as model
use Rattle.cf_circuits.specs.declared.pins.Call as call
use Rattle.cf_circuits.specs.declared.kinds.Kind.{Kind}
use Rattle.cf_circuits.specs.declared.kinds.Kind.TheVariants.{Model, Inputs, Outputs, Gate, Call, End, Ignored, Unknown, Cover}
use Rattle.cf_circuits.specs.Kinds.{first_word, arguments, last_word, all_but_last}
use Rattle.cf_circuits.specs.Causes.{covers, is_called, within, gate_cause, model_cause}
use Rattle.cf_circuits.specs.Netlists.{pin_of, plane_of}
use Rattle.cf_blif.specs.declared.reader.OpenGate.{OpenGate}
use Rattle.cf_blif.specs.declared.reader.Reader.{Reader}

-- What a reader holds, and what each line does to it.

abbrev pub initial : Reader
initial = record { done = []; current = None; gate = None; names = [] }

abbrev pub on_of_first : Option Bool → Bool
on_of_first None = true
on_of_first (Some b) = b

abbrev pub closed_gate : OpenGate → gate.Gate
closed_gate g = record { ins = g.ins; out = g.out; cover = record { on = on_of_first g.first; planes = g.planes }; line = g.line }

abbrev pub put_gate : model.ModelDef → Option OpenGate → model.ModelDef
put_gate m None = m
put_gate m (Some g) = record m { gates = m.gates ++ closed_gate g ∷ [] }

abbrev pub with_gate : Option model.ModelDef → Option OpenGate → Option model.ModelDef
with_gate None g = None
with_gate (Some m) g = Some (put_gate m g)

abbrev pub without_gate : Reader → Reader
without_gate s = record s { current = with_gate s.current s.gate; gate = None }

abbrev pub list_of : {A : Type 0} → Option A → List A
list_of None = []
list_of (Some x) = x ∷ []

abbrev pub without_model : Reader → Reader
without_model s = record s { done = s.done ++ list_of (with_gate s.current s.gate); current = None; gate = None }

-- a model of a name
abbrev pub opened_model : List ℕ → model.ModelDef
opened_model name = record { name = name; inputs = []; outputs = []; gates = []; calls = [] }

-- a gate of a `.names` line
abbrev pub opened_gate : ℕ → List (List ℕ) → OpenGate
opened_gate number names = record { ins = all_but_last names; out = last_word names; first = None; planes = []; line = number }

abbrev pub or_first : Option Bool → Bool → Option Bool
or_first None b = Some b
or_first (Some a) b = Some a

-- a gate with one more cover line
abbrev pub with_cover : List (List ℕ) → OpenGate → OpenGate
with_cover words g = record g { first = or_first g.first (bytes_eq (last_word words) (codes "1")); planes = g.planes ++ plane_of words ∷ [] }

abbrev pub on_some : {A : Type 0} → (A → A) → Option A → Option A
on_some f None = None
on_some f (Some x) = Some (f x)

abbrev pub on_model : (model.ModelDef → model.ModelDef) → Reader → Reader
on_model f s = record s { current = on_some f s.current }

abbrev pub model_begun : Reader → List ℕ → Reader
model_begun s name = record { done = s.done ++ list_of (with_gate s.current s.gate); current = Some (opened_model name); gate = None; names = s.names ++ name ∷ [] }

abbrev pub with_inputs : Reader → List (List ℕ) → Reader
with_inputs s names = on_model (λ m. record m { inputs = m.inputs ++ names }) (without_gate s)

abbrev pub with_outputs : Reader → List (List ℕ) → Reader
with_outputs s names = on_model (λ m. record m { outputs = m.outputs ++ names }) (without_gate s)

abbrev pub with_gate_line : Reader → ℕ → List (List ℕ) → Reader
with_gate_line s number names = record (without_gate s) { gate = Some (opened_gate number names) }

abbrev pub called : ℕ → List (List ℕ) → call.Call
called number words = record { model = first_word words; pins = map pin_of (arguments words); line = number }

abbrev pub with_call : Reader → ℕ → List (List ℕ) → Reader
with_call s number words = on_model (λ m. record m { calls = m.calls ++ called number words ∷ [] }) (without_gate s)

-- a line's number and words go to a reader
abbrev pub next : Reader → Kind → ℕ → List (List ℕ) → Reader
next s Model number words = model_begun s (first_word (arguments words))
next s Inputs number words = with_inputs s (arguments words)
next s Outputs number words = with_outputs s (arguments words)
next s Gate number words = with_gate_line s number (arguments words)
next s Call number words = with_call s number (arguments words)
next s End number words = without_model s
next s Ignored number words = without_gate s
next s Unknown number words = without_gate s
next s Cover number words = record s { gate = on_some (with_cover words) s.gate }

abbrev pub same_first : Option Bool → List (List ℕ) → Bool
same_first None words = true
same_first (Some b) words = bytes_eq (if b then codes "1" else codes "0") (last_word words)

abbrev pub cover_cause_in : Option OpenGate → List (List ℕ) → Option BlifWhy
cover_cause_in None words = Some why.NotBlif
cover_cause_in (Some g) words =
    if not (covers (length g.ins) words) then Some why.BadCover
    else if not (same_first g.first words) then Some why.MixedCover
    else None

abbrev pub is_there : {A : Type 0} → Option A → Bool
is_there None = false
is_there (Some x) = true

abbrev pub is_open : Reader → Bool
is_open s = is_there s.current

-- the cause of a line behind those that were read
abbrev pub cause_in : Reader → Kind → List (List ℕ) → Option BlifWhy
cause_in s Model words = model_cause s.names (arguments words)
cause_in s Inputs words = within (is_open s) None
cause_in s Outputs words = within (is_open s) None
cause_in s Gate words = within (is_open s) (gate_cause (arguments words))
cause_in s Call words = within (is_open s) (if is_called (arguments words) then None else Some why.NotBlif)
cause_in s End words = within (is_open s) (if length (arguments words) == 0 then None else Some why.NotBlif)
cause_in s Ignored words = None
cause_in s Unknown words = Some why.Unsupported
cause_in s Cover words = cover_cause_in s.gate words
