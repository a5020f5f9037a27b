use Rattle.std.specs.Prelude.{ℕ, suc, ◌+◌, List, [], ◌∷◌, ◌++◌, length, map, if◌then◌else◌, Bool}
use Rattle.std.specs.Option.{unwrap_or}
use Rattle.std.specs.Str.{bytes_eq}
use Rattle.cf_model.specs.Renumbering.{place}
use Rattle.cf_circuits.specs.declared.gates.Gate as written
use Rattle.cf_circuits.specs.declared.gates.Cover.{Cover}
use Rattle.cf_circuits.specs.declared.pins.Pin.{Pin}
use Rattle.cf_circuits.specs.declared.pins.Call as named
use Rattle.cf_circuits.specs.declared.models.ModelDef.{ModelDef}
use Rattle.cf_circuits.specs.Links.{gathered, names_of, callee, is_output}
use Rattle.cf_circuits.specs.Expansions.{actual_for, signals}
use Rattle.cf_hierarchy.specs.declared.gates.Gate.{Gate}
use Rattle.cf_hierarchy.specs.declared.blocks.Driver.{Driver}
use Rattle.cf_hierarchy.specs.declared.blocks.Driver.TheVariants.{Formal, Made, Back}
use Rattle.cf_hierarchy.specs.declared.blocks.Call.{Call}
use Rattle.cf_hierarchy.specs.declared.blocks.Block.{Block}

-- The models of a netlist as blocks: names become numbers.

-- the number of a signal of a model is its place
abbrev pub number : List ModelDef → ModelDef → List ℕ → ℕ
number models m name = place bytes_eq (signals models m) name

-- the actual of a formal, where there is one
abbrev pub actual_of : List Pin → List ℕ → List ℕ
actual_of pins name = unwrap_or (actual_for pins name) []

-- what drives inputs, counted from k
abbrev pub formals_from : ℕ → List (List ℕ) → List Driver
formals_from k [] = []
formals_from k (name ∷ later) = Formal k ∷ formals_from (suc k) later

-- a gate of a model over the numbers of its signals, with the number of its cover
abbrev pub gate_of : List ModelDef → ModelDef → ℕ → written.Gate → Gate
gate_of models m cover g = record { ins = map (number models m) g.ins; cover = cover }

-- what drives the outputs of gates of a model, their covers numbered from `cover` on
abbrev pub made_from : List ModelDef → ModelDef → ℕ → List written.Gate → List Driver
made_from models m cover [] = []
made_from models m cover (g ∷ later) =
    Made (gate_of models m cover g) ∷ made_from models m (suc cover) later

-- what drives the actuals of call j: those formals that pass a test, by their numbers
abbrev pub backs_of : (List ℕ → Bool) → (List ℕ → ℕ) → ℕ → List Pin → List Driver
backs_of test number_of j [] = []
backs_of test number_of j (p ∷ later) =
    if test p.formal then Back j (number_of p.formal) ∷ backs_of test number_of j later
    else backs_of test number_of j later

-- what the calls of a model drive, counted from j: a formal has its number in the called model
abbrev pub backs_from : List ModelDef → ℕ → List named.Call → List Driver
backs_from models j [] = []
backs_from models j (c ∷ later) =
    backs_of (is_output (callee models c)) (number models (callee models c)) j c.pins
    ++ backs_from models (suc j) later

-- what drives the signals of a model, in their order, its covers numbered from `cover` on
abbrev pub drivers_of : List ModelDef → ℕ → ModelDef → List Driver
drivers_of models cover m =
    formals_from 0 m.inputs ++ (made_from models m cover m.gates ++ backs_from models 0 m.calls)

-- A call of a model has the place of the called model, and for each input of that, in order, the number of its
-- actual.
abbrev pub call_of : List ModelDef → ModelDef → named.Call → Call
call_of models m c = record {
  block = place bytes_eq (names_of models) c.model;
  actuals = map (λ name. number models m (actual_of c.pins name)) (callee models c).inputs;
}

-- a model as a block, its covers numbered from `cover` on
abbrev pub block_of : List ModelDef → ℕ → ModelDef → Block
block_of models cover m =
    record { drivers = drivers_of models cover m; calls = map (call_of models m) m.calls }

-- models as blocks, one after another, their covers numbered from `cover` on
abbrev pub blocks_from : List ModelDef → ℕ → List ModelDef → List Block
blocks_from models cover [] = []
blocks_from models cover (m ∷ later) =
    block_of models cover m ∷ blocks_from models (cover + length m.gates) later

-- all models as blocks
abbrev pub blocks_of : List ModelDef → List Block
blocks_of models = blocks_from models 0 models

-- the covers by their numbers: those of all gates, model after model
abbrev pub covers_of : List ModelDef → List Cover
covers_of models = gathered (λ m. map (λ g. g.cover) m.gates) models
