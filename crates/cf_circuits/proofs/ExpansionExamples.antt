-- Covers, signals and values on worked examples.
use Rattle.std.proofs.Common.{ℕ, ◌≡◌, List, [], ◌∷◌, Some, None, Bool, true, false, refl}
use Rattle.std.specs.Prelude.{codes}
use Rattle.cf_order.specs.Chains.{chains, total}
use Rattle.cf_circuits.specs.declared.gates.Cell.{Cell}
use Rattle.cf_circuits.specs.declared.gates.Cell.TheVariants as cell
use Rattle.cf_circuits.specs.declared.gates.Cover.{Cover}
use Rattle.cf_circuits.specs.declared.gates.Gate.{Gate}
use Rattle.cf_circuits.specs.declared.models.ModelDef.{ModelDef}
use Rattle.cf_circuits.specs.Covers.{matches, cover_value}
use Rattle.cf_circuits.specs.Expansions.{AnInput, AGate, AnOutput, model_at, signals, source, cval, signal_count, circuit_value}
use Rattle.cf_circuits.specs.Roots.{outputs_of}
use Rattle.cf_circuits.proofs.LinkExamples.{pin, call, model}

abbrev cover : Bool → List (List Cell) → Cover
cover on planes = record { on = on; planes = planes }

-- the first input without the second, or the third
abbrev planes_of_three : List (List Cell)
planes_of_three = (cell.One ∷ cell.Zero ∷ cell.Any ∷ []) ∷ (cell.Any ∷ cell.Any ∷ cell.One ∷ []) ∷ []

plane_matches : matches (cell.One ∷ cell.Zero ∷ cell.Any ∷ []) (true ∷ false ∷ true ∷ []) ≡ true
plane_matches = refl

other_length : matches (cell.One ∷ []) (true ∷ false ∷ []) ≡ false
other_length = refl

on_set : cover_value (cover true planes_of_three) (true ∷ false ∷ false ∷ []) ≡ true
on_set = refl

on_set_else : cover_value (cover true planes_of_three) (true ∷ true ∷ false ∷ []) ≡ false
on_set_else = refl

off_set : cover_value (cover false planes_of_three) (true ∷ true ∷ true ∷ []) ≡ false
off_set = refl

-- without planes it is 0, and with a plane of no cells what that plane says
no_planes : cover_value (cover true []) (true ∷ []) ≡ false
no_planes = refl

constant : cover_value (cover true ([] ∷ [])) [] ≡ true
constant = refl

abbrev pub gate : Cover → List (List ℕ) → List ℕ → Gate
gate planes ins out = record { ins = ins; out = out; cover = planes; line = 20 }

abbrev inverts : Cover
inverts = cover true ((cell.Zero ∷ []) ∷ [])

abbrev pub not_of : List ℕ → List ℕ → Gate
not_of a y = gate inverts (a ∷ []) y

abbrev pub inverter : ModelDef
inverter = model (codes "not") (codes "a" ∷ []) (codes "y" ∷ []) (not_of (codes "a") (codes "y") ∷ []) []

-- a root that calls the inverter twice, with an output that stands twice
abbrev pub twice_root : ModelDef
twice_root =
    model (codes "top") (codes "x" ∷ []) (codes "z" ∷ codes "u" ∷ codes "z" ∷ []) []
    (call 3 (codes "not") (pin (codes "a") (codes "x") ∷ pin (codes "y") (codes "u") ∷ [])
    ∷ call 4 (codes "not") (pin (codes "a") (codes "u") ∷ pin (codes "y") (codes "z") ∷ [])
    ∷ [])

abbrev pub twice : List ModelDef
twice = twice_root ∷ inverter ∷ []

output_once : outputs_of twice ≡ codes "z" ∷ codes "u" ∷ []
output_once = refl

root_signals : signals twice twice_root ≡ codes "x" ∷ codes "u" ∷ codes "z" ∷ []
root_signals = refl

from_input : source twice twice_root (codes "x") ≡ Some AnInput
from_input = refl

from_call : source twice twice_root (codes "z") ≡ Some (AnOutput 1 (codes "y"))
from_call = refl

from_gate : source twice inverter (codes "y") ≡ Some (AGate (not_of (codes "a") (codes "y")))
from_gate = refl

from_nothing : source twice twice_root (codes "y") ≡ None
from_nothing = refl

second_copy : model_at twice (1 ∷ []) ≡ Some inverter
second_copy = refl

no_third_copy : model_at twice (2 ∷ []) ≡ None
no_third_copy = refl

-- those of the root, and of two copies of the inverter
seven_signals : signal_count twice ≡ 7
unfolding total chains
seven_signals = refl

-- z needs y of the second copy, that a, that u, that y of the first copy, that a, and that x
too_few_steps : cval twice (true ∷ []) 6 [] (codes "z") ≡ None
unfolding cval
too_few_steps = refl

enough_steps : cval twice (true ∷ []) 7 [] (codes "z") ≡ Some true
unfolding cval
enough_steps = refl

twice_not : circuit_value twice (true ∷ []) (codes "z") ≡ true
unfolding cval total chains
twice_not = refl

once_not : circuit_value twice (true ∷ []) (codes "u") ≡ false
unfolding cval total chains
once_not = refl

-- gates that stand behind those that use them
abbrev pub chain : List ModelDef
chain =
    model (codes "top") (codes "x" ∷ []) (codes "z" ∷ [])
    (not_of (codes "u") (codes "z") ∷ not_of (codes "x") (codes "u") ∷ [])
    []
    ∷ []

through_gates : circuit_value chain (false ∷ []) (codes "z") ≡ false
unfolding cval total chains
through_gates = refl

-- two gates that need one another have no value, however many steps are taken
abbrev pub ring : List ModelDef
ring =
    model (codes "top") [] (codes "z" ∷ []) (not_of (codes "u") (codes "z") ∷ not_of (codes "z") (codes "u") ∷ []) []
    ∷ []

no_value : cval ring [] 9 [] (codes "z") ≡ None
unfolding cval
no_value = refl
