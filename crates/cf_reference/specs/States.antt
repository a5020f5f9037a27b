use Rattle.std.specs.Prelude.{◌≡◌, ◌≤◌, ◌^◌, ℕ, ℤ, pos, int_le, int_lt, ◌&&◌, ◌||◌, All, length, Bool, false, List, [], ◌∷◌, ◌++◌, map, Option, Some, None, unwrap_or, is_some, option_map, if◌then◌else◌}
use Rattle.std.specs.List.{list_any}
use Rattle.std.specs.Option.{option_or}
use Rattle.std.specs.Str.{bytes_eq}
use Rattle.cf_model.specs.Renumbering.{place}
use Rattle.cf_model.specs.FlatFunctions.{FlatFunction, IsFlatFunction, value_at, variable}

-- What a run keeps between two lines: the level, the variables by their positions, and the functions by name, in the
-- order in which the names were first bound.
pub record State : Type 0 where
  pub level : Option ℕ
  pub variables : List (List ℕ)
  pub functions : List (List ℕ × FlatFunction)

-- Files by name, with their contents.
abbrev pub Files : Type 0
Files = List (List ℕ × List ℕ)

-- the content of the file of this name
abbrev pub content_of : Files → List ℕ → Option (List ℕ)
content_of [] name = None
content_of (file ∷ files) name = if bytes_eq name file.0 then Some file.1 else content_of files name

-- neither a level nor names
abbrev pub initial : State
initial = record { level = None; variables = []; functions = [] }

-- The level of the variables. Where none is set yet nothing asks for it.
abbrev pub level_in : State → ℕ
level_in s = unwrap_or s.level 0

-- whether a number is one of those from 0 on that are less than n
abbrev pub is_below : ℤ → ℕ → Bool
is_below i n = int_le (pos 0) i && int_lt i (pos n)

-- whether a name is one of some names
abbrev pub is_among : List (List ℕ) → List ℕ → Bool
is_among names name = list_any (λ other. bytes_eq other name) names

-- the position of a variable
abbrev pub position_of : List (List ℕ) → List ℕ → Option ℕ
position_of variables name = if is_among variables name then Some (place bytes_eq variables name) else None

abbrev pub function_named : List (List ℕ × FlatFunction) → List ℕ → Option FlatFunction
function_named [] name = None
function_named (binding ∷ more) name = if bytes_eq name binding.0 then Some binding.1 else function_named more name

-- a name that is bound anew keeps its place
abbrev pub bind : List (List ℕ × FlatFunction) → List ℕ → FlatFunction → List (List ℕ × FlatFunction)
bind [] name f = (name, f) ∷ []
bind (binding ∷ more) name f =
    if bytes_eq name binding.0 then (binding.0, f) ∷ more else binding ∷ bind more name f

-- what a name stands for: a variable for the bit at its position, another name for its function
abbrev pub named : State → List ℕ → Option FlatFunction
named s name =
    option_or (option_map (variable (level_in s)) (position_of s.variables name)) (function_named s.functions name)

-- whether a variable or a function has the name
abbrev pub is_bound : State → List ℕ → Bool
is_bound s name = is_some (named s name)

-- a function of no values, which no name stands for
abbrev pub nothing : FlatFunction
nothing = record { level = 0; values = [] }

-- the function of a name that stands for one
abbrev pub function_of : State → List ℕ → FlatFunction
function_of s name = unwrap_or (named s name) nothing

-- a function's value at an assignment of its level
abbrev pub at : FlatFunction → List Bool → ℤ
at f bits = unwrap_or (value_at f bits) (pos 0)

-- whether some name stands twice
abbrev pub repeats : List (List ℕ) → Bool
repeats [] = false
repeats (name ∷ later) = is_among later name || repeats later

-- all names: those of the variables, and then those of the functions
abbrev pub names_in : State → List (List ℕ)
names_in s = s.variables ++ map (λ binding. binding.0) s.functions

-- What holds of each state that a run reaches: the level is 0 to 7, there are names only once it is set, there are at
-- most 2 ^ level variables, each function is a flat function, and no name is bound twice.
pub record IsState (s : State) : Type 0 where
  pub low : level_in s ≤ 7
  pub unset : s.level ≡ None → (s.variables ≡ []) × (s.functions ≡ [])
  pub room : length s.variables ≤ 2 ^ level_in s
  pub flat : All (λ binding. IsFlatFunction binding.1) s.functions
  pub differ : repeats (names_in s) ≡ false
