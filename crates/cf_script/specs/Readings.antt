use Rattle.std.specs.Prelude.{ℕ, ◌≡◌, List, true, Some}
use Rattle.cf_reference.specs.Trees.{Tree, tree_fits}
use Rattle.cf_reference.specs.Grammar.{leaf, SpellsTree}
use Rattle.cf_script.specs.declared.trees.Expr.{Expr}
use Rattle.cf_script.specs.Views.{tree_of}

-- What was read is what the words spell, where its numbers fit; the rest comes after it.

pub record IsReading (e : Expr) (all rest : List (List ℕ)) : Type 0 where
  pub tree : Tree
  pub spells : SpellsTree tree all rest
  pub shows : tree_fits tree ≡ true → tree_of e ≡ tree

-- the same for a word by itself
pub record IsLeaf (e : Expr) (word : List ℕ) : Type 0 where
  pub tree : Tree
  pub spells : leaf word ≡ Some tree
  pub shows : tree_fits tree ≡ true → tree_of e ≡ tree

-- The words don't begin with an expression.
abbrev pub SpellsNone : List (List ℕ) → Type 0
SpellsNone all = (t : Tree) (rest : List (List ℕ)) → SpellsTree t all rest → ⊥
