use Rattle.std.specs.Prelude.{◌≡◌, ◌≢◌, ◌<◌, ◌≤◌, ℕ, true, List, [], length, map, None}
use Rattle.std.specs.List.{All, AllPairs}
use Rattle.cf_model.specs.Renumbering.{AllDiffer}
use Rattle.cf_circuits.specs.declared.gates.Gate as gate
use Rattle.cf_circuits.specs.declared.pins.Call as call
use Rattle.cf_circuits.specs.declared.models.ModelDef as model
use Rattle.cf_circuits.specs.Causes.{fault}
use Rattle.cf_circuits.specs.Netlists.{net}

-- What a netlist keeps, whatever text without a fault it is read from.

-- A gate has at most 256 inputs, a plane of its cover has one cell for each of them, and an empty cover is on.
pub record IsGate (g : gate.Gate) : Type 0 where
  pub narrow : length g.ins ≤ 256
  pub planes : All (λ plane. length plane ≡ length g.ins) g.cover.planes
  pub empty : g.cover.planes ≡ [] → g.cover.on ≡ true

-- The formals of a call differ.
abbrev pub IsCall : call.Call → Type 0
IsCall c = AllDiffer (map (λ p. p.formal) c.pins)

-- Gates and calls of a model stand in order of their lines, and no line is both a gate and a call.
pub record IsModel (m : model.ModelDef) : Type 0 where
  pub gates : All IsGate m.gates
  pub calls : All IsCall m.calls
  pub gates_in_order : AllPairs (λ g h. g.line < h.line) m.gates
  pub calls_in_order : AllPairs (λ c d. c.line < d.line) m.calls
  pub apart : All (λ g. All (λ c. g.line ≢ c.line) m.calls) m.gates

-- There is a root, and the models' names differ.
pub record IsNetlist (models : List model.ModelDef) : Type 0 where
  pub root : 0 < length models
  pub names_differ : AllDiffer (map (λ m. m.name) models)
  pub kept : All IsModel models

-- What a text without a fault says keeps all this.
abbrev pub NetlistsKeep : Type 0
NetlistsKeep = (bytes : List ℕ) → fault bytes ≡ None → IsNetlist (net bytes)
