use Rattle.std.specs.Prelude.{◌≡◌, ◌<◌, List, [], ◌∷◌, ◌++◌, map, length, All, Contains, slice_index_or}
use Rattle.cf_model.specs.Renumbering.{AllDiffer}
use Rattle.cf_model.specs.declared.terms.Term.{Term}
use Rattle.cf_model.specs.declared.terms.Word1.{Word1}
use Rattle.cf_model.specs.declared.terms.Word2.{Word2}
use Rattle.cf_ops.specs.Operations.{of_one, of_two, of_three}
use Rattle.cf_pkg.specs.declared.Func.{Func}
use Rattle.cf_pkg.specs.declared.memo.Operation.{Operation}
use Rattle.cf_pkg.specs.declared.memo.Operation.TheVariants.{One, Two, Choice, Tree}
use Rattle.cf_pkg.specs.declared.memo.Alone.TheVariants.{Constant, Variable, Identity, Walsh, Unit as UnitAt}
use Rattle.cf_pkg.specs.declared.memo.OfOne.TheVariants.{Map, Restrict, Transpose}
use Rattle.cf_pkg.specs.declared.memo.OfTwo.TheVariants.{Apply, Kron, Matmul}
use Rattle.cf_pkg.specs.declared.memo.JobKey.{JobKey}
use Rattle.cf_pkg.specs.declared.memo.JobKey.TheVariants.{Alone, OfOne, OfTwo, OfThree}
use Rattle.cf_pkg.specs.Tasks.{Task}
use Rattle.cf_pkg.specs.Tasks as task

-- What a package remembers: the trees of operations that no word names, and the functions of finished jobs by their keys.
pub record Remembered : Type 0 where
  pub trees : List Term
  pub entries : List (JobKey × Func)

-- no job is finished
abbrev pub no_job : Remembered
no_job = record { trees = []; entries = [] }

-- the tree of an operation
abbrev pub tree_at : List Term → Operation → Term
tree_at trees (One word) = of_one word
tree_at trees (Two word) = of_two word
tree_at trees Choice = of_three
tree_at trees (Tree place) = slice_index_or trees place Term.X

-- the job of a key
abbrev pub task_at : List Term → JobKey → Task
task_at trees (Alone (Constant level value)) = task.Const level value
task_at trees (Alone (Variable level position)) = task.Var level position
task_at trees (Alone (Identity level)) = task.Id level
task_at trees (Alone (Walsh level)) = task.Walsh level
task_at trees (Alone (UnitAt level row column)) = task.UnitAt level row column
task_at trees (OfOne (Map o) f) = task.Map (tree_at trees o) f
task_at trees (OfOne (Restrict position bit) f) = task.Restrict f position bit
task_at trees (OfOne Transpose f) = task.Transpose f
task_at trees (OfTwo (Apply o) f g) = task.Apply (tree_at trees o) f g
task_at trees (OfTwo Kron f g) = task.Kron f g
task_at trees (OfTwo Matmul f g) = task.Matmul f g
task_at trees (OfThree o f g h) = task.Ternary (tree_at trees o) f g h

-- an entry's job and its function
abbrev pub entry_of : List Term → JobKey × Func → Task × Func
entry_of trees e = (task_at trees e.0, e.1)

-- the finished jobs, each with its function
abbrev pub finished : Remembered → List (Task × Func)
finished m = map (entry_of m.trees) m.entries

-- The job is finished, and this is its function.
abbrev pub IsFinished : Remembered → Task → Func → Type 0
IsFinished m t f = Contains (finished m) (t, f)

-- The job isn't finished.
abbrev pub IsUndone : Remembered → Task → Type 0
IsUndone m t = (f : Func) → IsFinished m t f → ⊥

-- The job is finished, with this function alone.
pub record IsAnswer (m : Remembered) (t : Task) (f : Func) : Type 0 where
  pub there : IsFinished m t f
  pub alone : (g : Func) → IsFinished m t g → g ≡ f

-- No word's tree is equal to the tree.
pub record IsWordless (tree : Term) : Type 0 where
  pub one : (word : Word1) → of_one word ≡ tree → ⊥
  pub two : (word : Word2) → of_two word ≡ tree → ⊥
  pub choice : of_three ≡ tree → ⊥

-- A tree of the list has its place there.
abbrev pub IsPlaced : List Term → Operation → Type 0
IsPlaced trees (Tree place) = place < length trees
IsPlaced trees word = Unit {0}

-- The operation is the tree's.
pub record IsOperation (trees : List Term) (o : Operation) (tree : Term) : Type 0 where
  pub placed : IsPlaced trees o
  pub is_it : tree_at trees o ≡ tree

-- An operation has the tree.
abbrev pub HasTree : List Term → Term → Type 0
HasTree trees tree = (o : Operation) × IsOperation trees o tree

-- The key's tree, if it has one, has its place.
abbrev pub IsTold : List Term → JobKey → Type 0
IsTold trees (OfOne (Map o) f) = IsPlaced trees o
IsTold trees (OfTwo (Apply o) f g) = IsPlaced trees o
IsTold trees (OfThree o f g h) = IsPlaced trees o
IsTold trees other = Unit {0}

-- The key is the job's.
pub record IsKeyOf (trees : List Term) (key : JobKey) (t : Task) : Type 0 where
  pub told : IsTold trees key
  pub is_it : task_at trees key ≡ t

-- A key is the job's, so that its tree, if it has one, is a word's or in the list.
abbrev pub HasKey : List Term → Task → Type 0
HasKey trees t = (key : JobKey) × IsKeyOf trees key t

-- What a memo keeps: no tree stands in it twice or is a word's, each key has its tree, and a job has one function.
pub record IsMemo (m : Remembered) : Type 0 where
  pub differ : AllDiffer m.trees
  pub wordless : All IsWordless m.trees
  pub told : (e : JobKey × Func) → Contains m.entries e → IsTold m.trees e.0
  pub alone : (t : Task) (f g : Func) → IsFinished m t f → IsFinished m t g → f ≡ g

-- The memo has the same jobs with the same functions, and all its trees, and perhaps one more.
pub record EntersTree (before now : Remembered) : Type 0 where
  pub jobs : finished now ≡ finished before
  pub entries : now.entries ≡ before.entries
  pub placed : (o : Operation) → IsPlaced before.trees o → IsPlaced now.trees o

-- the memo with one more job
abbrev pub with_entry : Remembered → JobKey → Func → Remembered
with_entry m key f = record m { entries = m.entries ++ (key, f) ∷ [] }
