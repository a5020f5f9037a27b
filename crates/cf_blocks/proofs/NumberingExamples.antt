-- A full adder of two half adders, as blocks.
use Rattle.std.proofs.Common.{ℕ, ◌≡◌, List, [], ◌∷◌, true, false, refl}
use Rattle.std.specs.Prelude.{codes}
use Rattle.cf_circuits.specs.declared.gates.Cell.TheVariants.{Zero, One}
use Rattle.cf_circuits.specs.declared.gates.Cover.{Cover}
use Rattle.cf_circuits.specs.declared.gates.Gate as written
use Rattle.cf_circuits.specs.declared.pins.Pin.{Pin}
use Rattle.cf_circuits.specs.declared.pins.Call as named
use Rattle.cf_circuits.specs.declared.models.ModelDef.{ModelDef}
use Rattle.cf_hierarchy.specs.declared.blocks.Driver.TheVariants.{Formal, Made, Back}
use Rattle.cf_circuits.specs.Expansions.{signals}
use Rattle.cf_circuits.specs.LinkFaults.{weights_of}
use Rattle.cf_blocks.specs.Numbering.{number, actual_of, drivers_of, call_of, blocks_of, covers_of}

abbrev conjunction : Cover
conjunction = record { on = true; planes = (One ∷ One ∷ []) ∷ [] }

abbrev disjunction : Cover
disjunction = record { on = false; planes = (Zero ∷ Zero ∷ []) ∷ [] }

abbrev parity : Cover
parity = record { on = true; planes = (One ∷ Zero ∷ []) ∷ (Zero ∷ One ∷ []) ∷ [] }

abbrev gate : ℕ → List ℕ → List ℕ → List ℕ → Cover → written.Gate
gate line first second out cover = record { ins = first ∷ second ∷ []; out = out; cover = cover; line = line }

abbrev pin : List ℕ → List ℕ → Pin
pin formal actual = record { formal = formal; actual = actual }

abbrev half : ModelDef
half = record {
  name = codes "half";
  inputs = codes "a" ∷ codes "b" ∷ [];
  outputs = codes "sum" ∷ codes "carry" ∷ [];
  gates = gate 12 (codes "a") (codes "b") (codes "sum") parity ∷ gate 15 (codes "a") (codes "b") (codes "carry") conjunction ∷ [];
  calls = [];
}

-- the pins of the first call stand in another order than the half adder's inputs and outputs
abbrev first : named.Call
first = record {
  model = codes "half";
  pins = pin (codes "carry") (codes "g") ∷ pin (codes "b") (codes "y") ∷ pin (codes "sum") (codes "p") ∷ pin (codes "a") (codes "x") ∷ [];
  line = 4;
}

abbrev second : named.Call
second = record {
  model = codes "half";
  pins = pin (codes "a") (codes "p") ∷ pin (codes "b") (codes "in") ∷ pin (codes "sum") (codes "s") ∷ pin (codes "carry") (codes "t") ∷ [];
  line = 5;
}

abbrev full : ModelDef
full = record {
  name = codes "full";
  inputs = codes "x" ∷ codes "y" ∷ codes "in" ∷ [];
  outputs = codes "s" ∷ codes "out" ∷ [];
  gates = gate 6 (codes "g") (codes "t") (codes "out") disjunction ∷ [];
  calls = first ∷ second ∷ [];
}

abbrev adder : List ModelDef
adder = full ∷ half ∷ []

-- the gate stands behind the calls, and its output before what they drive
numbered : signals adder full ≡ codes "x" ∷ codes "y" ∷ codes "in" ∷ codes "out" ∷ codes "g" ∷ codes "p" ∷ codes "s" ∷ codes "t" ∷ []
numbered = refl

number_of_t : number adder full (codes "t") ≡ 7
number_of_t = refl

actual_of_b : actual_of first.pins (codes "b") ≡ codes "y"
actual_of_b = refl

-- inputs, gates, and what the calls drive: a formal has its number in the half adder
driven_full : drivers_of adder 0 full
    ≡ Formal 0 ∷ Formal 1 ∷ Formal 2 ∷ Made (record { ins = 4 ∷ 7 ∷ []; cover = 0 }) ∷ Back 0 3 ∷ Back 0 2 ∷ Back 1 2 ∷ Back 1 3 ∷ []
driven_full = refl

-- the actuals of the half adder's inputs in their order
called_first : call_of adder full first ≡ record { block = 1; actuals = 0 ∷ 1 ∷ [] }
called_first = refl

called_second : call_of adder full second ≡ record { block = 1; actuals = 5 ∷ 2 ∷ [] }
called_second = refl

-- the covers of the second model are numbered behind that of the first
all_blocks : blocks_of adder
    ≡ record { drivers = drivers_of adder 0 full; calls = call_of adder full first ∷ call_of adder full second ∷ [] }
    ∷ record {
      drivers = Formal 0 ∷ Formal 1 ∷ Made (record { ins = 0 ∷ 1 ∷ []; cover = 1 }) ∷ Made (record { ins = 0 ∷ 1 ∷ []; cover = 2 }) ∷ [];
      calls = [];
    }
    ∷ []
all_blocks = refl

all_covers : covers_of adder ≡ disjunction ∷ parity ∷ conjunction ∷ []
all_covers = refl

all_weights : weights_of adder ≡ 3 ∷ 2 ∷ []
all_weights = refl
