use Rattle.cf_reference.specs.Trees.{Atom, Variable, Position}
use Rattle.cf_script.specs.declared.trees.Var.{Var}
use Rattle.cf_script.specs.declared.trees.Var.TheVariants as var

-- a variable without where its name lies in memory
abbrev pub atom_of : Var → Atom
atom_of (var.At i) = Position i
atom_of (var.Named name) = Variable name.now
