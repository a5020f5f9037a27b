use Rattle.std.specs.Prelude.{ℕ, ◌&&◌, ◌||◌, not, Bool, List, [], ◌∷◌, ◌++◌, map, Option, Some, None, slice_index_or, if◌then◌else◌}
use Rattle.std.specs.List.{list_any}
use Rattle.std.specs.Str.{bytes_eq}
use Rattle.cf_model.specs.Renumbering.{place}
use Rattle.cf_circuits.specs.declared.pins.Pin.{Pin}
use Rattle.cf_circuits.specs.declared.pins.Call.{Call}
use Rattle.cf_circuits.specs.declared.models.ModelDef.{ModelDef}
use Rattle.cf_circuits.specs.Parts.{Part, AGate, ACall, parts}

-- What links between models can lack: the models of calls, formals, pins, and the drivers of signals. Each kind of fault
-- has its places in an order; the first place gives the name.

-- the first answer of a list that there is
abbrev pub first_of : {A : Type 0} → List (Option A) → Option A
first_of [] = None
first_of (None ∷ later) = first_of later
first_of (Some x ∷ later) = Some x

-- what a list's entries have, one after another
abbrev pub gathered : {A B : Type 0} → (A → List B) → List A → List B
gathered f [] = []
gathered f (x ∷ xs) = f x ++ gathered f xs

-- whether a name stands among names
abbrev pub is_among : List (List ℕ) → List ℕ → Bool
is_among names name = list_any (λ other. bytes_eq other name) names

-- the models' names
abbrev pub names_of : List ModelDef → List (List ℕ)
names_of models = map (λ m. m.name) models

-- a model without inputs and outputs
abbrev pub no_model : ModelDef
no_model = record { name = []; inputs = []; outputs = []; gates = []; calls = [] }

-- the model that a call calls
abbrev pub callee : List ModelDef → Call → ModelDef
callee models c = slice_index_or models (place bytes_eq (names_of models) c.model) no_model

-- A formal that its model lists as input and as output is an input.
abbrev pub is_input : ModelDef → List ℕ → Bool
is_input m name = is_among m.inputs name

abbrev pub is_output : ModelDef → List ℕ → Bool
is_output m name = not (is_among m.inputs name) && is_among m.outputs name

abbrev pub is_formal : ModelDef → List ℕ → Bool
is_formal m name = is_among m.inputs name || is_among m.outputs name

-- Kind 1: the call names no model of the file.
abbrev pub missing_model : List ModelDef → Call → Option (List ℕ)
missing_model models c = if is_among (names_of models) c.model then None else Some c.model

-- Kind 2: a formal is neither an input nor an output of the called model, the pairs in order.
abbrev pub missing_formal : List ModelDef → Call → Option (List ℕ)
missing_formal models c =
    first_of (map (λ p. if is_formal (callee models c) p.formal then None else Some p.formal) c.pins)

-- the formals of a call
abbrev pub formals : Call → List (List ℕ)
formals c = map (λ p. p.formal) c.pins

-- Kind 3: an input of the called model has no pair, the inputs in order.
abbrev pub missing_pin : List ModelDef → Call → Option (List ℕ)
missing_pin models c =
    first_of (map (λ i. if is_among (formals c) i then None else Some i) (callee models c).inputs)

-- the actuals of those pairs whose formal passes a test
abbrev pub actuals : (List ℕ → Bool) → List Pin → List (List ℕ)
actuals test [] = []
actuals test (p ∷ later) = if test p.formal then p.actual ∷ actuals test later else actuals test later

-- what a part of a model drives: a gate its output, a call the actuals of formals that are outputs
abbrev pub drives : List ModelDef → Part → List (List ℕ)
drives models (AGate g) = g.out ∷ []
drives models (ACall c) = actuals (is_output (callee models c)) c.pins

-- what a part of a model uses: a gate its inputs, a call the actuals of formals that are inputs
abbrev pub uses : List ModelDef → Part → List (List ℕ)
uses models (AGate g) = g.ins
uses models (ACall c) = actuals (is_input (callee models c)) c.pins

-- the signals of a model that are driven: the inputs, then what gates and calls drive, by line
abbrev pub driven : List ModelDef → ModelDef → List (List ℕ)
driven models m = m.inputs ++ gathered (drives models) (parts m)

-- the signals of a model that are used: by gates and calls, by line, then the outputs
abbrev pub used : List ModelDef → ModelDef → List (List ℕ)
used models m = gathered (uses models) (parts m) ++ m.outputs

-- the first name that was seen before or stands in the list earlier
abbrev pub repeated : List (List ℕ) → List (List ℕ) → Option (List ℕ)
repeated seen [] = None
repeated seen (name ∷ later) = if is_among seen name then Some name else repeated (seen ++ name ∷ []) later

-- Kind 4: a signal is driven a second time.
abbrev pub twice_driven : List ModelDef → ModelDef → Option (List ℕ)
twice_driven models m = repeated [] (driven models m)

-- Kind 5: a signal is used and not driven.
abbrev pub undriven : List ModelDef → ModelDef → Option (List ℕ)
undriven models m =
    first_of (map (λ name. if is_among (driven models m) name then None else Some name) (used models m))

-- the first fault of a kind in the calls of a model
abbrev pub in_calls : (Call → Option (List ℕ)) → ModelDef → Option (List ℕ)
in_calls kind m = first_of (map kind m.calls)

-- the first fault of a kind in the models of a file
abbrev pub in_models : (ModelDef → Option (List ℕ)) → List ModelDef → Option (List ℕ)
in_models kind models = first_of (map kind models)

-- the models that each model calls, by their places
abbrev pub calls_of : List ModelDef → List (List ℕ)
calls_of models = map (λ m. map (λ c. place bytes_eq (names_of models) c.model) m.calls) models
