use Rattle.std.specs.Prelude.{◌≡◌, ◌↔◌, ◌≤◌, ◌^◌, ℕ, List, [], map, length, All, slice_get, Option, Some, None, false}
use Rattle.cf_model.specs.FlatFunctions.{variable}
use Rattle.cf_reference.specs.States.{State, level_in, named, names_in, repeats}
use Rattle.cf_pkg.specs.declared.Func.{Func}
use Rattle.cf_pkg.specs.Packages.{Package, no_function, OwnsFunction, Means, meaning}

-- names, each with a function of a package, in the order in which they were first bound
abbrev pub Names : Type 0
Names = List (List ℕ × Func)

-- the names alone
abbrev pub names_of : Names → List (List ℕ)
names_of bound = map (λ b. b.0) bound

-- A session as contracts see it: its package, its level, and its variables and functions.
pub record Held : Type 0 where
  pub pkg : Package
  pub level : Option ℕ
  pub variables : Names
  pub functions : Names

-- neither a level nor a name
abbrev pub nothing_held : Held
nothing_held = record { pkg = no_function; level = None; variables = []; functions = [] }

-- the state of the reference run that a session holds
abbrev pub state_of : Held → State
state_of h = record {
  level = h.level;
  variables = names_of h.variables;
  functions = map (λ b. (b.0, meaning h.pkg b.1)) h.functions;
}

-- What holds of each session: the level is 0 to 7, there are names only once it is set, there are at most 2 ^ level
-- variables, the variable at position i is the function of bit i, each function is the package's, and no name is bound
-- twice.
pub record IsHeld (h : Held) : Type 0 where
  pub low : level_in (state_of h) ≤ 7
  pub unset : h.level ≡ None → (h.variables ≡ []) × (h.functions ≡ [])
  pub room : length h.variables ≤ 2 ^ level_in (state_of h)
  pub positions : (i : ℕ) (b : List ℕ × Func) → slice_get h.variables i ≡ Some b → Means h.pkg b.1 (variable (level_in (state_of h)) i)
  pub owned : All (λ b. OwnsFunction h.pkg b.1) h.functions
  pub differ : repeats (names_in (state_of h)) ≡ false

-- A name that stands for a function of the package.
pub record StandsFor (h : Held) (name : List ℕ) (f : Func) : Type 0 where
  pub owned : OwnsFunction h.pkg f
  pub means : named (state_of h) name ≡ Some (meaning h.pkg f)

-- Of all names that stand for a function, those stand for this one whose flat functions are that of the name.
abbrev pub IsOneWith : Held → List ℕ → Func → Type 0
IsOneWith h name f =
    (other : List ℕ) (g : Func) → StandsFor h other g → ((g ≡ f) ↔ (named (state_of h) other ≡ named (state_of h) name))

-- Level and names are as before.
pub record KeepsNames (before now : Held) : Type 0 where
  pub level : now.level ≡ before.level
  pub variables : now.variables ≡ before.variables
  pub functions : now.functions ≡ before.functions
