use Rattle.std.specs.Prelude.{◌≡◌, ◌<◌, ℤ, List, [], length, slice_index_or as get_or}
use Rattle.cf_model.specs.FlatFunctions.{FlatFunction}
use Rattle.cf_model.specs.Patterns.{Pattern, sub}
use Rattle.cf_model.specs.Diagrams.{Extends, HasPatterns}
use Rattle.cf_model.specs.Functions.{function_of}
use Rattle.cf_table.specs.Groupings.{Groupings, only_base, Owns, exits_of, pattern_of}
use Rattle.cf_build.specs.Assembling.{AddsOnly}
use Rattle.cf_tuple.specs.Books.{Lengthens as KeepsTuples}
use Rattle.cf_values.specs.Books.{Lengthens}
use Rattle.cf_pkg.specs.declared.Func.{Func}
use Rattle.cf_pkg.specs.Tasks.{Task}
use Rattle.cf_pkg.specs.Memos.{Remembered, no_job, IsFinished}

-- A package as contracts see it: its groupings, its lists of values, and the finished jobs that it remembers.
pub record Package : Type 0 where
  pub groupings : Groupings
  pub lists : List (List ℤ)
  pub memo : Remembered

-- the package of these groupings and these lists of values, with these jobs
abbrev pub package_of : Groupings → List (List ℤ) → Remembered → Package
package_of t lists memo = record { groupings = t; lists = lists; memo = memo }

-- the package without a function: the two groupings of level 0, no list of values, and no job
abbrev pub no_function : Package
no_function = record { groupings = only_base; lists = []; memo = no_job }

-- The job is finished in the package, with this function.
abbrev pub IsRemembered : Package → Task → Func → Type 0
IsRemembered p t f = IsFinished p.memo t f

-- the values of a function, one for each exit of its grouping
abbrev pub values_of : Package → Func → List ℤ
values_of p f = get_or p.lists f.vals.at []

-- The package owns the function: its grouping and its list of values are there, with one value per exit.
pub record OwnsFunction (p : Package) (f : Func) : Type 0 where
  pub head : Owns p.groupings f.head
  pub list : f.vals.at < length p.lists
  pub valued : length (values_of p f) ≡ exits_of p.groupings f.head

-- the flat function that a function means
abbrev pub meaning : Package → Func → FlatFunction
meaning p f = function_of p.groupings.levels f.head.level f.head.at (values_of p f)

-- The package owns the function, and it means the flat function.
pub record Means (p : Package) (f : Func) (flat : FlatFunction) : Type 0 where
  pub owned : OwnsFunction p f
  pub is_it : meaning p f ≡ flat

-- What was in the package is there at its ids, each function means what it meant, and each finished job has the function
-- that it had.
pub record Keeps (before now : Package) : Type 0 where
  pub groupings : Extends before.groupings.levels now.groupings.levels
  pub tuples : KeepsTuples before.groupings.tuples now.groupings.tuples
  pub lists : Lengthens before.lists now.lists
  pub functions : (f : Func) → OwnsFunction before f → Means now f (meaning before f)
  pub jobs : (t : Task) (f : Func) → IsRemembered before t f → IsRemembered now t f

-- all that the pattern of a function's grouping is made of
abbrev pub function_parts : Package → Func → List Pattern
function_parts p f = sub f.head.level (pattern_of p.groupings f.head)

-- All parts of the function's pattern are in the table.
abbrev pub HasParts : Package → Func → Type 0
HasParts p f = HasPatterns p.groupings.levels (function_parts p f)

-- The table has gained only groupings of these patterns.
abbrev pub Adds : (before now : Package) → List Pattern → Type 0
Adds before now parts = AddsOnly before.groupings.levels now.groupings.levels parts

-- The table has gained only parts of the function's pattern.
abbrev pub AddsParts : (before now : Package) → Func → Type 0
AddsParts before now f = Adds before now (function_parts now f)
