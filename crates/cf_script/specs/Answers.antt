use Rattle.std.specs.Prelude.{ℕ, ℤ, ◌≡◌, ◌||◌, Bool, true, false, not, List, [], ◌∷◌, Option, Some, None, Result, Ok, Err, IsTrue, codes}
use Rattle.std.specs.List.{list_any}
use Rattle.std.specs.Str.{bytes_eq}
use Rattle.cf_model.specs.Values.{fits}
use Rattle.cf_reference.specs.declared.grammar.Keyword.{Keyword}
use Rattle.cf_reference.specs.declared.grammar.Keyword.TheVariants as keyword
use Rattle.cf_reference.specs.Words.{number, place, is_name, equals}
use Rattle.cf_reference.specs.Trees.{statement_fits}
use Rattle.cf_reference.specs.Trees as tree
use Rattle.cf_reference.specs.Grammar.{SpellsBehind}
use Rattle.cf_script.specs.declared.faults.ScriptFault.{ScriptFault}
use Rattle.cf_script.specs.declared.faults.ScriptFault.TheVariants as fault
use Rattle.cf_script.specs.declared.trees.Statement.{Statement}
use Rattle.cf_script.specs.Views.{statement_of}

-- whether a keyword's statement keeps more than slices and numbers
abbrev pub keeps_memory : Keyword → Bool
keeps_memory keyword.Var = true
keeps_memory keyword.Let = true
keeps_memory other = false

-- Only a line that begins with `var` or `let` takes memory.
abbrev pub takes_memory : List (List ℕ) → Bool
takes_memory [] = false
takes_memory (word ∷ rest) = bytes_eq word (codes "var") || bytes_eq word (codes "let")

-- What a keyword and the bytes behind it, with their words, come to, by cases on the answer.
abbrev pub Answers : Keyword → List ℕ → List (List ℕ) → Result Statement ScriptFault → Type 0
Answers key bytes all (Ok s) = SpellsBehind key (statement_of s) bytes all × (statement_fits (statement_of s) ≡ true)
Answers key bytes all (Err fault.NoMemory) = IsTrue (keeps_memory key)
Answers key bytes all (Err fault.Malformed) = (t : tree.Statement) → SpellsBehind key t bytes all → ⊥
Answers key bytes all (Err fault.WideNumber) = (t : tree.Statement) × SpellsBehind key t bytes all × (statement_fits t ≡ false)
Answers key bytes all (Err fault.TooDeep) = ⊥

-- a name and `=`, with the rest behind them
pub record SpellsName (name : List ℕ) (all rest : List (List ℕ)) : Type 0 where
  pub words : all ≡ name ∷ equals ∷ rest
  pub named : IsTrue (is_name name)

abbrev pub is_unfit : Option ℤ → Bool
is_unfit None = false
is_unfit (Some n) = not (fits n)

-- a word that is a number, or `@` and a number, that doesn't fit
abbrev pub is_wide : List ℕ → Bool
is_wide word = is_unfit (number word) || is_unfit (place word)

abbrev pub any_wide : List (List ℕ) → Bool
any_wide all = list_any is_wide all
