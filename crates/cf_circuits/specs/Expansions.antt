use Rattle.std.specs.Prelude.{ℕ, zero, suc, Bool, false, List, [], ◌∷◌, ◌++◌, length, map, Option, Some, None, if◌then◌else◌}
use Rattle.std.specs.List.{slice_get}
use Rattle.std.specs.Option.{option_map, option_and_then, unwrap_or}
use Rattle.std.specs.Str.{bytes_eq}
use Rattle.cf_model.specs.Renumbering.{place}
use Rattle.cf_order.specs.Chains.{total}
use Rattle.cf_circuits.specs.declared.gates.Gate.{Gate}
use Rattle.cf_circuits.specs.declared.pins.Pin.{Pin}
use Rattle.cf_circuits.specs.declared.pins.Call.{Call}
use Rattle.cf_circuits.specs.declared.models.ModelDef.{ModelDef}
use Rattle.cf_circuits.specs.Covers.{cover_value}
use Rattle.cf_circuits.specs.Links.{gathered, names_of, callee, is_output, actuals, calls_of}
use Rattle.cf_circuits.specs.Roots.{root}

-- The values of a circuit's signals. A signal of the expansion is a chain of calls from the root and a name of the model
-- at its end.

-- A chain of calls from the root has the last call first, each by its place in its model. This is the model at its end.
abbrev pub model_at : List ModelDef → List ℕ → Option ModelDef
model_at models [] = slice_get models 0
model_at models (j ∷ chain) =
    option_and_then
    (λ m. option_and_then (λ c. slice_get models (place bytes_eq (names_of models) c.model)) (slice_get m.calls j))
    (model_at models chain)

-- what a signal of a model comes from: it is an input, a gate's output, or the actual of a call's formal
pub data Source : Type 0 where
  AnInput : Source
  AGate : Gate → Source
  AnOutput : ℕ → List ℕ → Source

-- a signal of a model with its source
pub record Drive : Type 0 where
  pub signal : List ℕ
  pub by : Source

-- what the pins of call j drive: the actuals of formals that are outputs
abbrev pub by_pins : (List ℕ → Bool) → ℕ → List Pin → List Drive
by_pins test j [] = []
by_pins test j (p ∷ later) =
    if test p.formal then record { signal = p.actual; by = AnOutput j p.formal } ∷ by_pins test j later
    else by_pins test j later

-- what the calls of a model drive, counted from j
abbrev pub by_calls : List ModelDef → ℕ → List Call → List Drive
by_calls models j [] = []
by_calls models j (c ∷ later) = by_pins (is_output (callee models c)) j c.pins ++ by_calls models (suc j) later

-- the signals of a model with their sources: the inputs, the gates' outputs, and what the calls drive
abbrev pub drives_of : List ModelDef → ModelDef → List Drive
drives_of models m =
    map (λ name. record { signal = name; by = AnInput }) m.inputs
    ++ (map (λ g. record { signal = g.out; by = AGate g }) m.gates
    ++ by_calls models 0 m.calls)

-- the signals of a model in the same order
abbrev pub signals : List ModelDef → ModelDef → List (List ℕ)
signals models m =
    m.inputs ++ (map (λ g. g.out) m.gates ++ gathered (λ c. actuals (is_output (callee models c)) c.pins) m.calls)

-- the source of the first that is the signal
abbrev pub source_in : List Drive → List ℕ → Option Source
source_in [] name = None
source_in (d ∷ later) name = if bytes_eq d.signal name then Some d.by else source_in later name

abbrev pub source : List ModelDef → ModelDef → List ℕ → Option Source
source models m name = source_in (drives_of models m) name

-- the actual of a formal
abbrev pub actual_for : List Pin → List ℕ → Option (List ℕ)
actual_for [] name = None
actual_for (p ∷ later) name = if bytes_eq p.formal name then Some p.actual else actual_for later name

-- the values, where each is there
abbrev pub all_there : List (Option Bool) → Option (List Bool)
all_there [] = Some []
all_there (None ∷ later) = None
all_there (Some value ∷ later) = option_map (λ values. value ∷ values) (all_there later)

-- the value of an input of the model at a chain: of the root it is the input's bit, else the value of the input's actual
-- in the calling model
abbrev pub input_value : List ModelDef → List Bool → (List ℕ → List ℕ → Option Bool) → List ℕ → List ℕ → Option Bool
input_value models bits value [] name = slice_get bits (place bytes_eq (root models).inputs name)
input_value models bits value (j ∷ chain) name =
    option_and_then
    (λ m. option_and_then (λ c. option_and_then (value chain) (actual_for c.pins name)) (slice_get m.calls j))
    (model_at models chain)

-- the value of a signal from its source and the values of other signals
abbrev pub value_by : List ModelDef → List Bool → (List ℕ → List ℕ → Option Bool) → List ℕ → List ℕ → Source → Option Bool
value_by models bits value chain name AnInput = input_value models bits value chain name
value_by models bits value chain name (AGate g) = option_map (cover_value g.cover) (all_there (map (value chain) g.ins))
value_by models bits value chain name (AnOutput j formal) = value (j ∷ chain) formal

-- the value of a signal by recursion on m: those of the signals that it needs are taken with one less
unfoldable pub cval : List ModelDef → List Bool → ℕ → List ℕ → List ℕ → Option Bool
cval models bits zero chain name = None
cval models bits (suc m) chain name =
    option_and_then
    (λ at. option_and_then (value_by models bits (cval models bits m) chain name) (source models at name))
    (model_at models chain)

-- how many signals the expansion has, of chains of at most 64 calls
abbrev pub signal_count : List ModelDef → ℕ
signal_count models = total (calls_of models) (map (λ m. length (signals models m)) models) 64 0

-- the value of a signal of the root
abbrev pub circuit_value : List ModelDef → List Bool → List ℕ → Bool
circuit_value models bits name = unwrap_or (cval models bits (signal_count models) [] name) false
