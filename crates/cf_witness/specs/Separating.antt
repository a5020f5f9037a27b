use Rattle.std.specs.Prelude.{◌≡◌, ◌≢◌, List, Bool}
use Rattle.cf_model.specs.FlatFunctions.{IsAssignment, value_at}
use Rattle.cf_pkg.specs.declared.Func.{Func}
use Rattle.cf_pkg.specs.Packages.{Package, meaning}

-- Two functions differ at an assignment: they have different values there.
abbrev pub Differ : Package → Func → Func → List Bool → Type 0
Differ p f g at = value_at (meaning p f) at ≢ value_at (meaning p g) at

-- Two functions of one level agree everywhere: they have the same value at each assignment of the level.
abbrev pub AgreeEverywhere : Package → Func → Func → Type 0
AgreeEverywhere p f g = (at : List Bool) → IsAssignment f.head.level at → value_at (meaning p f) at ≡ value_at (meaning p g) at
