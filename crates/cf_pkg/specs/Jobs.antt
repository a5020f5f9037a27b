use Rattle.std.specs.Prelude.{◌≡◌, ◌<◌, ◌≤◌, ◌-◌, ◌^◌, ℕ, suc, ℤ, pos, Bool, List, [], ◌∷◌, length, Option, Some, None, unwrap_or, slice_index_or, if◌then◌else◌, Result, Ok}
use Rattle.cf_model.specs.Assignments.{bit_at, number_of}
use Rattle.cf_model.specs.FlatFunctions.{FlatFunction, IsAssignment, value_at, tabulated, IsLeast}
use Rattle.cf_model.specs.Diagrams.{Levels, count, exits}
use Rattle.cf_model.specs.Functions.{function_of}
use Rattle.cf_model.specs.Patterns.{Pattern, pattern_of, subs}
use Rattle.cf_model.specs.Pointwise.{applied, restricted}
use Rattle.cf_model.specs.Matrices.{kronecker, product, transpose, identity, walsh, unit}
use Rattle.cf_model.specs.declared.terms.Term.{Term}
use Rattle.cf_table.specs.declared.Gid.{Gid}
use Rattle.cf_pkg.specs.declared.Func.{Func}
use Rattle.cf_pkg.specs.declared.jobs.Job.{Job}
use Rattle.cf_pkg.specs.declared.jobs.Job.TheVariants.{Const, Var, Map, Apply, Ternary, Restrict, Kron, Matmul, Transpose, Id, Walsh, Unit as UnitAt}
use Rattle.cf_pkg.specs.Tasks.{Task}
use Rattle.cf_pkg.specs.Tasks as task
use Rattle.cf_pkg.specs.Packages.{Package, OwnsFunction, IsRemembered, meaning}

-- the value of a function at an assignment of its level
abbrev pub value_in : Package → Func → List Bool → ℤ
value_in p f bits = slice_index_or (meaning p f).values (number_of bits) (pos 0)

-- the function that is 0 everywhere, for the arguments that an operation lacks
abbrev pub absent : List Bool → ℤ
absent bits = pos 0

-- the value of a tree of one argument at an assignment, by the function's value there
abbrev pub map_value : Package → Term → Func → List Bool → Option ℤ
map_value p tree f = applied tree (value_in p f) absent absent

-- the value of a tree of two arguments
abbrev pub apply_value : Package → Term → Func → Func → List Bool → Option ℤ
apply_value p tree f g = applied tree (value_in p f) (value_in p g) absent

-- the value of a tree of three arguments
abbrev pub ternary_value : Package → Term → Func → Func → Func → List Bool → Option ℤ
ternary_value p tree f g h = applied tree (value_in p f) (value_in p g) (value_in p h)

-- a job as it is told apart from others
abbrev pub task_of : Job → Task
task_of (Const level v) = task.Const level v
task_of (Var level i) = task.Var level i
task_of (Map tree f) = task.Map tree.now f
task_of (Apply tree f g) = task.Apply tree.now f g
task_of (Ternary tree f g h) = task.Ternary tree.now f g h
task_of (Restrict f i b) = task.Restrict f i b
task_of (Kron f g) = task.Kron f g
task_of (Matmul f g) = task.Matmul f g
task_of (Transpose f) = task.Transpose f
task_of (Id level) = task.Id level
task_of (Walsh level) = task.Walsh level
task_of (UnitAt level r c) = task.UnitAt level r c

-- the level of a job's function
abbrev pub task_level : Task → ℕ
task_level (task.Const level v) = level
task_level (task.Var level i) = level
task_level (task.Map tree f) = f.head.level
task_level (task.Apply tree f g) = f.head.level
task_level (task.Ternary tree f g h) = f.head.level
task_level (task.Restrict f i b) = f.head.level
task_level (task.Kron f g) = suc f.head.level
task_level (task.Matmul f g) = f.head.level
task_level (task.Transpose f) = f.head.level
task_level (task.Id level) = level
task_level (task.Walsh level) = level
task_level (task.UnitAt level r c) = level

abbrev pub job_level : Job → ℕ
job_level job = task_level (task_of job)

-- The value of a job at an assignment of its level, or none: what the call of its name means, point by point.
abbrev pub task_value : Package → Task → List Bool → Option ℤ
task_value p (task.Const level v) bits = Some v
task_value p (task.Var level i) bits = Some (if bit_at bits i then pos 1 else pos 0)
task_value p (task.Map tree f) bits = map_value p tree f bits
task_value p (task.Apply tree f g) bits = apply_value p tree f g bits
task_value p (task.Ternary tree f g h) bits = ternary_value p tree f g h bits
task_value p (task.Restrict f i b) bits = Some (restricted (value_in p f) i b bits)
task_value p (task.Kron f g) bits = kronecker (value_in p f) (value_in p g) bits
task_value p (task.Matmul f g) bits = product (2 ^ (f.head.level - 1)) (value_in p f) (value_in p g) bits
task_value p (task.Transpose f) bits = Some (transpose (value_in p f) bits)
task_value p (task.Id level) bits = Some (identity bits)
task_value p (task.Walsh level) bits = Some (walsh bits)
task_value p (task.UnitAt level r c) bits = Some (unit r c bits)

abbrev pub job_value : Package → Job → List Bool → Option ℤ
job_value p job = task_value p (task_of job)

-- A level that a matrix of its own can have.
abbrev pub IsMatrixLevel : ℕ → Type 0
IsMatrixLevel level = (1 ≤ level) × (level ≤ 7)

-- Two functions of the package, of one level.
pub record AreLevel (p : Package) (f g : Func) : Type 0 where
  pub first : OwnsFunction p f
  pub second : OwnsFunction p g
  pub level : f.head.level ≡ g.head.level

-- A job is in order: its functions are the package's, their levels match, and its numbers are in range.
abbrev pub IsTaskInOrder : Package → Task → Type 0
IsTaskInOrder p (task.Const level v) = level ≤ 7
IsTaskInOrder p (task.Var level i) = (level ≤ 7) × (i < 2 ^ level)
IsTaskInOrder p (task.Map tree f) = OwnsFunction p f
IsTaskInOrder p (task.Apply tree f g) = AreLevel p f g
IsTaskInOrder p (task.Ternary tree f g h) = AreLevel p f g × AreLevel p f h
IsTaskInOrder p (task.Restrict f i b) = OwnsFunction p f × (i < 2 ^ f.head.level)
IsTaskInOrder p (task.Kron f g) = AreLevel p f g × (f.head.level ≤ 6)
IsTaskInOrder p (task.Matmul f g) = AreLevel p f g × (1 ≤ f.head.level)
IsTaskInOrder p (task.Transpose f) = OwnsFunction p f × (1 ≤ f.head.level)
IsTaskInOrder p (task.Id level) = IsMatrixLevel level
IsTaskInOrder p (task.Walsh level) = IsMatrixLevel level
IsTaskInOrder p (task.UnitAt level r c) = IsMatrixLevel level × (r < 2 ^ (2 ^ (level - 1))) × (c < 2 ^ (2 ^ (level - 1)))

abbrev pub IsInOrder : Package → Job → Type 0
IsInOrder p job = IsTaskInOrder p (task_of job)

-- The package owns the function, which is of the level and has the value at each assignment.
pub record HasValues (p : Package) (f : Func) (l : ℕ) (value : List Bool → Option ℤ) : Type 0 where
  pub owned : OwnsFunction p f
  pub level : f.head.level ≡ l
  pub values : (bits : List Bool) → IsAssignment l bits → value_at (meaning p f) bits ≡ value bits

-- The function is the job's: the job is in order, and the function has its values.
pub record Finishes (p : Package) (t : Task) (f : Func) : Type 0 where
  pub in_order : IsTaskInOrder p t
  pub values : HasValues p f (task_level t) (task_value p t)

-- Where the job was finished before, the answer is its function, and nothing changed.
abbrev pub AnswersFinished : {E : Type 0} → (before now : Package) → Task → Result Func E → Type 0
AnswersFinished before now t result = (f : Func) → IsRemembered before t f → (result ≡ Ok f) × (now ≡ before)

-- The grouping is in the table and of the level, and with a list of values, one for each exit, it has the value at each
-- assignment. A value may stand in the list more than once.
pub record Gives (t : Levels) (g : Gid) (exit_values : List ℤ) (l : ℕ) (value : List Bool → Option ℤ) : Type 0 where
  pub level : g.level ≡ l
  pub there : g.at < count t g.level
  pub valued : length exit_values ≡ exits t g.level g.at
  pub values : (bits : List Bool) → IsAssignment l bits → value_at (function_of t g.level g.at exit_values) bits ≡ value bits

-- The assignment is the least one of the level that has no value.
abbrev pub IsLeastWithout : ℕ → (List Bool → Option ℤ) → List Bool → Type 0
IsLeastWithout level value bits = IsLeast level (λ a. value a ≡ None) bits

-- the flat function that has a job's values
abbrev pub job_function : Package → Job → FlatFunction
job_function p job = tabulated (job_level job) (λ bits. unwrap_or (job_value p job bits) (pos 0))

-- all that the pattern of a job's function is made of
abbrev pub job_parts : Package → Job → List Pattern
job_parts p job = subs (pattern_of (job_function p job) ∷ [])

-- The job restricts a function.
abbrev pub IsRestriction : Job → Type 0
IsRestriction (Restrict f i b) = Unit {0}
IsRestriction others = ⊥
