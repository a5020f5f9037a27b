use Rattle.std.specs.Prelude.{ℤ, pos, Bool, List, [], ◌∷◌, if◌then◌else◌}
use Rattle.cf_reference.specs.declared.grammar.Head.TheVariants as head
use Rattle.cf_reference.specs.Trees.{Number, Tree, Num, At, Named, Call, Arguments, none, more, atom}
use Rattle.cf_reference.specs.Trees as tree
use Rattle.cf_script.specs.declared.trees.Expr.{Expr, One', Fold', Ite', Restrict', Exists', Forall', SumOut', Compose', AndExists', Kron', Matmul', Transpose', Row_of-Expr, end_of-Expr, more_of-Expr}
use Rattle.cf_script.specs.declared.trees.Expr as expr
use Rattle.cf_script.specs.declared.trees.Var.{Var}
use Rattle.cf_script.specs.Vars.{atom_of}
use Rattle.cf_script.specs.declared.trees.Statement.{Statement}
use Rattle.cf_script.specs.declared.trees.Statement.TheVariants as statement

-- variables as arguments
abbrev pub atoms : List Var → Arguments
atoms [] = none
atoms (v ∷ later) = atom (atom_of v) (atoms later)

abbrev pub bit_number : Bool → ℤ
bit_number b = if b then pos 1 else pos 0

-- expressions and statements without where they lie in memory
abbrev mutual
  pub tree_of : Expr → Tree
  tree_of (expr.Num n) = Num n
  tree_of (expr.At n) = At n
  tree_of (expr.Named name) = Named name.now
  tree_of (expr.Const level n) = Call head.Const (atom (Number level) (atom (Number n) none))
  tree_of (One' word at e) = Call (head.One word) (more (tree_of e) none)
  tree_of (Fold' word shape all) = Call (head.Fold word) (row_of all)
  tree_of (Ite' shape all) = Call head.Ite (row_of all)
  tree_of (Restrict' at e v b) = Call head.Restrict (more (tree_of e) (atom (atom_of v) (atom (Number (bit_number b)) none)))
  tree_of (Exists' at e vars) = Call head.Exists (more (tree_of e) (atoms vars))
  tree_of (Forall' at e vars) = Call head.Forall (more (tree_of e) (atoms vars))
  tree_of (SumOut' at e vars) = Call head.SumOut (more (tree_of e) (atoms vars))
  tree_of (Compose' at e v also f) = Call head.Compose (more (tree_of e) (atom (atom_of v) (more (tree_of f) none)))
  tree_of (AndExists' at e also f vars) = Call head.AndExists (more (tree_of e) (more (tree_of f) (atoms vars)))
  tree_of (Kron' at e also f) = Call head.Kron (more (tree_of e) (more (tree_of f) none))
  tree_of (Matmul' at e also f) = Call head.Matmul (more (tree_of e) (more (tree_of f) none))
  tree_of (Transpose' at e) = Call head.Transpose (more (tree_of e) none)
  tree_of (expr.Id level) = Call head.Id (atom (Number level) none)
  tree_of (expr.Walsh level) = Call head.Walsh (atom (Number level) none)
  tree_of (expr.Unit level row col) = Call head.Unit (atom (Number level) (atom (Number row) (atom (Number col) none)))

  pub row_of : {m : _} → Row_of-Expr m → Arguments
  row_of end_of-Expr = none
  row_of (more_of-Expr e rest) = more (tree_of e) (row_of rest)

-- the arguments of a list of expressions
abbrev pub listed : List Expr → Arguments
listed [] = none
listed (e ∷ es) = more (tree_of e) (listed es)

abbrev pub statement_of : Statement → tree.Statement
statement_of statement.Empty = tree.Empty
statement_of (statement.Level level) = tree.Level level
statement_of (statement.Vars names) = tree.Vars names
statement_of (statement.Let name e) = tree.Let name.now (tree_of e)
statement_of (statement.Load prefix file) = tree.Load prefix.now file.now
statement_of (statement.Value name bits) = tree.Value name.now bits.now
statement_of (statement.First name n) = tree.First name.now n
statement_of (statement.List name n most) = tree.Listed name.now n most
statement_of (statement.Entry name row col) = tree.Entry name.now row col
statement_of (statement.Equal name other) = tree.Equal name.now other.now
statement_of (statement.Size name) = tree.Size name.now
statement_of statement.Stats = tree.Stats
