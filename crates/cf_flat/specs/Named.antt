use Rattle.std.specs.Prelude.{◌≡◌, ℕ, ◌<◌, ◌≤◌, Bool, true, List, [], Some, All, length, slice_index, slice_index_or, false}
use Rattle.std.specs.List.{slice_get}
use Rattle.cf_order.specs.Orders.{HasNoRing}
use Rattle.cf_circuits.specs.declared.models.ModelDef.{ModelDef}
use Rattle.cf_circuits.specs.Kept.{IsNetlist}
use Rattle.cf_circuits.specs.Links.{is_among}
use Rattle.cf_circuits.specs.Expansions.{model_at, signals, cval, signal_count, circuit_value}
use Rattle.cf_circuits.specs.LinkFaults.{weights_of}
use Rattle.cf_circuits.specs.Roots.{inputs_of, root}
use Rattle.cf_hierarchy.specs.declared.gates.Gate.{Gate}
use Rattle.cf_hierarchy.specs.Circuits.{wire_values}
use Rattle.cf_hierarchy.specs.Hierarchy.{IsBlock, hval}
use Rattle.cf_hierarchy.specs.Flattening.{IsRootInput, root_of, ShowRoot}
use Rattle.cf_hierarchy.specs.Links.{calls, signals_within}
use Rattle.cf_links.specs.Faults.{HasNoNameFault}
use Rattle.cf_blocks.specs.Numbering.{number, covers_of, blocks_of}
use Rattle.cf_flat.specs.Flats.{means_of}

-- Names and numbers say the same, where names have no fault.

-- What the flattening of blocks asks of them.
pub record AreLinked (models : List ModelDef) : Type 0 where
  pub some : 0 < length (blocks_of models)
  pub blocks : All (IsBlock (blocks_of models)) (blocks_of models)
  pub inputs : All (IsRootInput (length (inputs_of models))) (root_of (blocks_of models)).drivers
  pub weights : length (weights_of models) ≡ length (blocks_of models)
  pub ring : HasNoRing (calls (blocks_of models))

-- The blocks of models keep it.
abbrev pub BlocksAreLinked : Type 0
BlocksAreLinked = (models : List ModelDef) → IsNetlist models → HasNoNameFault models → AreLinked models

-- A signal of the blocks has the value of the model's signal, for every number of steps.
abbrev pub BlocksHaveValues : Type 0
BlocksHaveValues =
    (models : List ModelDef) → HasNoNameFault models → (bits : List Bool) (m : ℕ) (chain : List ℕ) (at : ModelDef) (name : List ℕ)
    → model_at models chain ≡ Some at → is_among (signals models at) name ≡ true
    → hval (means_of (covers_of models)) (blocks_of models) bits m chain (number models at name) ≡ cval models bits m chain name

-- Wires that show the first block have the values of the root's outputs.
abbrev pub WiresHaveValues : Type 0
WiresHaveValues =
    (models : List ModelDef) → IsNetlist models → HasNoNameFault models → (gates : List Gate) (wires : List ℕ)
    → ShowRoot (blocks_of models) (length (inputs_of models)) gates wires → length wires ≤ signals_within (blocks_of models) 64
    → (i : ℕ) (name : List ℕ) (bits : List Bool) → slice_get (root models).outputs i ≡ Some name
    → length bits ≡ length (inputs_of models)
    → circuit_value models bits name
    ≡ slice_index_or (wire_values (means_of (covers_of models)) bits gates)
    (slice_index wires (number models (root models) name)) false
