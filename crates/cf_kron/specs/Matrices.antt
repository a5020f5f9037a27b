use Rattle.std.specs.Prelude.{◌≢◌, ℕ, ℤ, Bool, List, Option, None}
use Rattle.cf_model.specs.FlatFunctions.{IsAssignment}
use Rattle.cf_model.specs.Matrices.{identity, walsh, unit}
use Rattle.cf_pkg.specs.declared.jobs.Job.{Job}
use Rattle.cf_pkg.specs.declared.jobs.Job.TheVariants.{Kron, Transpose, Id, Walsh as WalshOf, Unit as UnitAt}
use Rattle.cf_kron.specs.declared.named.Named.{Named}
use Rattle.cf_kron.specs.declared.named.Named.TheVariants.{Identity, Walsh, Unit as One}

-- The job is a Kronecker product or makes a matrix.
abbrev pub IsMatrixJob : Job → Type 0
IsMatrixJob (Kron f g) = Unit {0}
IsMatrixJob (Transpose f) = Unit {0}
IsMatrixJob (Id level) = Unit {0}
IsMatrixJob (WalshOf level) = Unit {0}
IsMatrixJob (UnitAt level r c) = Unit {0}
IsMatrixJob others = ⊥

-- the value of a named matrix at an assignment
abbrev pub named_value : Named → List Bool → ℤ
named_value Identity bits = identity bits
named_value Walsh bits = walsh bits
named_value (One row column) bits = unit row column bits

-- There is a value at each assignment of the level.
abbrev pub HasAll : ℕ → (List Bool → Option ℤ) → Type 0
HasAll level value = (bits : List Bool) → IsAssignment level bits → value bits ≢ None
