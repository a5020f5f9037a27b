use Rattle.std.specs.Prelude.{ℕ, nat_lt, List, [], ◌∷◌, map, if◌then◌else◌}
use Rattle.cf_circuits.specs.declared.gates.Gate.{Gate}
use Rattle.cf_circuits.specs.declared.pins.Call.{Call}
use Rattle.cf_circuits.specs.declared.models.ModelDef.{ModelDef}

-- a gate or a call of a model
pub data Part : Type 0 where
  AGate : Gate → Part
  ACall : Call → Part

-- the number of its line
abbrev pub line_of : Part → ℕ
line_of (AGate g) = g.line
line_of (ACall c) = c.line

-- a call put behind the parts of earlier lines
abbrev pub put : Call → List Part → List Part
put c [] = ACall c ∷ []
put c (part ∷ later) = if nat_lt (line_of part) c.line then part ∷ put c later else ACall c ∷ part ∷ later

-- gates and calls, each in order of their lines, in one order of lines
abbrev pub merged : List Gate → List Call → List Part
merged gates [] = map AGate gates
merged gates (c ∷ later) = put c (merged gates later)

-- the gates and calls of a model in order of their lines
abbrev pub parts : ModelDef → List Part
parts m = merged m.gates m.calls
