use Rattle.std.specs.Prelude.{ℕ, ◌^◌, nat_le, Bool, List, [], ◌∷◌, ◌++◌, length, map, Option, None, if◌then◌else◌}
use Rattle.std.specs.List.{list_any}
use Rattle.std.specs.Option.{option_or}
use Rattle.std.specs.Str.{bytes_eq}
use Rattle.cf_model.specs.Assignments.{bit_at}
use Rattle.cf_model.specs.FlatFunctions.{FlatFunction, tabulated}
use Rattle.cf_model.specs.Renumbering.{place}
use Rattle.cf_model.specs.Terms.{truth}
use Rattle.cf_circuits.specs.declared.models.ModelDef.{ModelDef}
use Rattle.cf_circuits.specs.Expansions.{circuit_value}
use Rattle.cf_circuits.specs.Roots.{inputs_of, outputs_of}
use Rattle.cf_reference.specs.Bytes as byte
use Rattle.cf_reference.specs.Reasons.{Refusal, Taken, TooManyVariables, where_holds}
use Rattle.cf_reference.specs.States.{State, level_in, is_among, bind, is_bound}

-- What a circuit's names become: its inputs are variables, and its outputs functions.

-- the most bytes of a circuit's file
abbrev pub file_limit : ℕ
file_limit = 8388608

-- An input that is a variable is that variable, and another one becomes the next variable.
abbrev pub with_input : State → List ℕ → State
with_input s name = record s { variables = if is_among s.variables name then s.variables else s.variables ++ name ∷ [] }

abbrev pub with_inputs : State → List (List ℕ) → State
with_inputs s [] = s
with_inputs s (name ∷ later) = with_inputs (with_input s name) later

-- An input that is no variable is refused where it is a function, and where all positions have variables.
abbrev pub input_refusal : State → List ℕ → Option Refusal
input_refusal s name =
    if is_among s.variables name then None
    else option_or
    (where_holds (is_bound s name) Taken)
    (where_holds (nat_le (2 ^ level_in s) (length s.variables)) TooManyVariables)

-- the first refusal of the inputs in order, each after those before it are variables
abbrev pub inputs_refusal : State → List (List ℕ) → Option Refusal
inputs_refusal s [] = None
inputs_refusal s (name ∷ later) = option_or (input_refusal s name) (inputs_refusal (with_input s name) later)

-- the name of an output's function: the prefix, a dot and the output
abbrev pub output_name : List ℕ → List ℕ → List ℕ
output_name prefix output = prefix ++ byte.dot ∷ output

-- whether a variable has the name of an output's function
abbrev pub outputs_clash : State → List ℕ → List (List ℕ) → Bool
outputs_clash s prefix outputs = list_any (λ output. is_among s.variables (output_name prefix output)) outputs

-- what each output's function is bound to, in order
abbrev pub with_outputs : State → List ℕ → (List ℕ → FlatFunction) → List (List ℕ) → State
with_outputs s prefix function [] = s
with_outputs s prefix function (output ∷ later) =
    with_outputs (record s { functions = bind s.functions (output_name prefix output) (function output) }) prefix function later

-- the bits of inputs at an assignment, each of which is that at its variable's position
abbrev pub input_bits : List (List ℕ) → List (List ℕ) → List Bool → List Bool
input_bits variables inputs bits = map (λ name. bit_at bits (place bytes_eq variables name)) inputs

-- The function of an output: its level is that of the variables, and its value at each assignment is the circuit's, 1 or 0,
-- on the bits of the inputs.
abbrev pub output_function : State → List ModelDef → List ℕ → FlatFunction
output_function s models output =
    tabulated (level_in s) (λ bits. truth (circuit_value models (input_bits s.variables (inputs_of models) bits) output))

-- the state with the inputs of a circuit
abbrev pub declared_for : State → List ModelDef → State
declared_for s models = with_inputs s (inputs_of models)

-- the state with a circuit's inputs and outputs, all at once
abbrev pub with_circuit : State → List ℕ → List ModelDef → State
with_circuit s prefix models =
    with_outputs (declared_for s models) prefix (output_function (declared_for s models) models) (outputs_of models)
