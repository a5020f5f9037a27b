use Rattle.std.specs.Prelude.{◌≡◌, Bool, List}
use Rattle.cf_model.specs.FlatFunctions.{IsAssignment, FlatFunction, IsFlatFunction, value_at}
use Rattle.cf_reference.specs.Trees.{Tree}
use Rattle.cf_reference.specs.States.{State}
use Rattle.cf_reference.specs.Calls.{Part}
use Rattle.cf_reference.specs.Expressions.{part}

-- A flat function is a subexpression's: it has the level, and at each assignment the value.
pub record Gives (part : Part) (f : FlatFunction) : Type 0 where
  pub flat : IsFlatFunction f
  pub level : f.level ≡ part.level
  pub values : (bits : List Bool) → IsAssignment f.level bits → value_at f bits ≡ part.value bits

-- a flat function is an expression's
abbrev pub GivesTree : State → Tree → FlatFunction → Type 0
GivesTree s e f = Gives (part s e) f
