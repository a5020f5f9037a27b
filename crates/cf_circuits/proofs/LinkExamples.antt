-- The faults of names on worked examples.
use Rattle.std.proofs.Common.{ℕ, ◌≡◌, List, [], ◌∷◌, ◌++◌, Some, None, true, refl}
use Rattle.std.specs.Prelude.{codes}
use Rattle.cf_circuits.specs.declared.gates.Gate.{Gate}
use Rattle.cf_circuits.specs.declared.pins.Pin.{Pin}
use Rattle.cf_circuits.specs.declared.pins.Call.{Call}
use Rattle.cf_circuits.specs.declared.models.ModelDef.{ModelDef}
use Rattle.cf_circuits.specs.declared.faults.LinkFault.TheVariants.{NoModel, NoFormal, Unconnected, TwiceDriven, Undriven}
use Rattle.cf_circuits.specs.Parts.{AGate, ACall, parts}
use Rattle.cf_circuits.specs.Links.{driven, used, twice_driven, undriven, calls_of}
use Rattle.cf_circuits.specs.LinkFaults.{fault_of_names}

abbrev pub gate : ℕ → List (List ℕ) → List ℕ → Gate
gate line ins out = record { ins = ins; out = out; cover = record { on = true; planes = [] }; line = line }

abbrev pub pin : List ℕ → List ℕ → Pin
pin formal actual = record { formal = formal; actual = actual }

abbrev pub call : ℕ → List ℕ → List Pin → Call
call line model pins = record { model = model; pins = pins; line = line }

abbrev pub model : List ℕ → List (List ℕ) → List (List ℕ) → List Gate → List Call → ModelDef
model name inputs outputs gates calls = record { name = name; inputs = inputs; outputs = outputs; gates = gates; calls = calls }

-- an inverter
abbrev pub inverter : ModelDef
inverter = model (codes "not") (codes "a" ∷ []) (codes "y" ∷ []) (gate 9 (codes "a" ∷ []) (codes "y") ∷ []) []

-- a root that calls the inverter twice, with a gate between
abbrev pub root : List Pin → List Pin → ModelDef
root first second =
    model (codes "top") (codes "x" ∷ []) (codes "z" ∷ [])
    (gate 4 (codes "u" ∷ []) (codes "v") ∷ [])
    (call 3 (codes "not") first ∷ call 5 (codes "not") second ∷ [])

abbrev pub circuit : List Pin → List Pin → List ModelDef
circuit first second = root first second ∷ inverter ∷ []

abbrev pub from_x : List Pin
from_x = pin (codes "a") (codes "x") ∷ pin (codes "y") (codes "u") ∷ []

abbrev pub to_z : List Pin
to_z = pin (codes "a") (codes "v") ∷ pin (codes "y") (codes "z") ∷ []

-- gates and calls in order of their lines
by_line : parts (root from_x to_z) ≡ ACall (call 3 (codes "not") from_x) ∷ AGate (gate 4 (codes "u" ∷ []) (codes "v")) ∷ ACall (call 5 (codes "not") to_z) ∷ []
by_line = refl

all_driven : driven (circuit from_x to_z) (root from_x to_z) ≡ codes "x" ∷ codes "u" ∷ codes "v" ∷ codes "z" ∷ []
all_driven = refl

all_used : used (circuit from_x to_z) (root from_x to_z) ≡ codes "x" ∷ codes "u" ∷ codes "v" ∷ codes "z" ∷ []
all_used = refl

no_fault : fault_of_names (circuit from_x to_z) ≡ None
no_fault = refl

calls_by_place : calls_of (circuit from_x to_z) ≡ (1 ∷ 1 ∷ []) ∷ [] ∷ []
calls_by_place = refl

-- A call of a model that isn't there counts before a formal that isn't there, in whatever model.
no_model_first : fault_of_names (circuit (pin (codes "b") (codes "x") ∷ []) to_z ++ model (codes "other") [] [] [] (call 20 (codes "gone") [] ∷ []) ∷ []) ≡ Some (NoModel (codes "gone"))
no_model_first = refl

-- a formal that isn't there counts before an input without a pair
no_formal_first : fault_of_names (circuit (pin (codes "b") (codes "x") ∷ []) to_z) ≡ Some (NoFormal (codes "b"))
no_formal_first = refl

no_pin : fault_of_names (circuit (pin (codes "y") (codes "u") ∷ []) to_z) ≡ Some (Unconnected (codes "a"))
no_pin = refl

-- An output that no pair connects is no fault; here it leaves u without a driver.
dropped_output : fault_of_names (circuit (pin (codes "a") (codes "x") ∷ []) to_z) ≡ Some (Undriven (codes "u"))
dropped_output = refl

-- the second driver counts, by line: the gate's of v, before the call's of x
driven_again : fault_of_names (circuit (pin (codes "a") (codes "x") ∷ pin (codes "y") (codes "v") ∷ []) (pin (codes "a") (codes "v") ∷ pin (codes "y") (codes "x") ∷ [])) ≡ Some (TwiceDriven (codes "v"))
driven_again = refl

-- an input that stands again is driven twice
input_again : twice_driven [] (model (codes "m") (codes "a" ∷ codes "a" ∷ []) [] [] []) ≡ Some (codes "a")
input_again = refl

-- a formal that is input and output is an input, so its pair uses and drives nothing
both : driven (model (codes "wire") (codes "w" ∷ []) (codes "w" ∷ []) [] [] ∷ []) (model (codes "top") [] [] [] (call 2 (codes "wire") (pin (codes "w") (codes "s") ∷ []) ∷ [])) ≡ []
both = refl

-- an output without a driver
no_driver : undriven [] (model (codes "m") (codes "a" ∷ []) (codes "y" ∷ []) [] []) ≡ Some (codes "y")
no_driver = refl
