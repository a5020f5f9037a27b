use Rattle.std.specs.Prelude.{ℕ, ℤ, Bool}
use Rattle.cf_model.specs.declared.terms.Term.{Term}
use Rattle.cf_pkg.specs.declared.Func.{Func}

-- A job as it is told apart from others: by what it does, the tree of its operation, and the functions and numbers that it
-- is on. Where the tree lies in memory tells no two jobs apart.
pub data Task : Type 0 where
  -- a level and the value
  Const : ℕ → ℤ → Task
  -- a level and the position
  Var : ℕ → ℕ → Task
  Map : Term → Func → Task
  Apply : Term → Func → Func → Task
  Ternary : Term → Func → Func → Func → Task
  Restrict : Func → ℕ → Bool → Task
  Kron : Func → Func → Task
  Matmul : Func → Func → Task
  Transpose : Func → Task
  Id : ℕ → Task
  Walsh : ℕ → Task
  -- a level, the row and the column
  UnitAt : ℕ → ℕ → ℕ → Task
