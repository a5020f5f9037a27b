use Rattle.std.specs.Prelude.{◌≡◌, ◌≤◌, ◌+◌, ℕ, ℤ, nat_abs, nat_le, ◌==◌, ◌&&◌, Bool, true, List, [], ◌∷◌, ◌++◌, Option, None, Some, unwrap_or, if◌then◌else◌}
use Rattle.std.specs.List.{list_all}
use Rattle.cf_reference.specs.declared.grammar.Head.{Head}
use Rattle.cf_reference.specs.declared.grammar.Head.TheVariants.{Kron, Unit}
use Rattle.cf_reference.specs.Trees.{Tree, Atom}
use Rattle.cf_reference.specs.Calls.{Meant, Position, Number, levels, positions, are_equal, exact, is_index, own_rule, call_refusal}
use Rattle.cf_reference.specs.Reasons.{Refusal, OutOfRange, unless}
use Rattle.cf_reference.specs.States.{State, is_below}
use Rattle.cf_reference.specs.Expressions.{level, walk, walk_atom, meant_atom}
use Rattle.cf_session.specs.declared.walk.Walked.{Walked}

-- An expression isn't refused, and has the level.
pub record HasLevel (s : State) (e : Tree) (l : ℕ) : Type 0 where
  pub walked : walk s e ≡ None
  pub is_it : level s e ≡ l

-- A variable isn't refused, and has the position.
pub record HasPosition (s : State) (a : Atom) (i : ℤ) : Type 0 where
  pub walked : walk_atom s a ≡ None
  pub is_it : meant_atom s a ≡ Position i

-- the first of some
abbrev pub first_of : {A : Type 0} → List A → Option A
first_of [] = None
first_of (x ∷ xs) = Some x

-- the second and the third of some
abbrev pub second_of : {A : Type 0} → List A → Option A
second_of [] = None
second_of (x ∷ xs) = first_of xs

abbrev pub third_of : {A : Type 0} → List A → Option A
third_of [] = None
third_of (x ∷ xs) = second_of xs

-- whether a level is the first one's, or there is no first one
abbrev pub agrees : Option ℕ → ℕ → Bool
agrees None level = true
agrees (Some first) level = level == first

-- how many variables there must be for a position; 255 where no level has so many
abbrev pub variables_for : ℤ → ℕ
variables_for i = if is_below i 128 then nat_abs i + 1 else 255

-- the numbers among what arguments mean
abbrev pub numbers : List Meant → List ℤ
numbers [] = []
numbers (Number n ∷ later) = n ∷ numbers later
numbers (other ∷ later) = numbers later

-- What was noted of arguments is so.
pub record Shows (w : Walked) (args : List Meant) : Type 0 where
  pub low : unwrap_or w.common 0 ≤ 7
  pub first : w.common ≡ first_of (levels args)
  pub equal : w.equal ≡ are_equal (levels args)
  pub wanted : (n : ℕ) → n ≤ 128 → list_all (λ i. is_below i n) (positions args) ≡ nat_le w.wanted n
  pub number : w.number ≡ first_of (numbers args)
  pub row : w.row ≡ second_of (numbers args)
  pub column : w.column ≡ third_of (numbers args)

-- One more argument is noted.
abbrev pub Notes : Walked → Walked → Meant → Type 0
Notes old new m = (args : List Meant) → Shows old args → Shows new (args ++ m ∷ [])

-- the level of a call of functions of a level: a Kronecker product is one level higher
abbrev pub level_over : Head → ℕ → ℕ
level_over Kron level = level + 1
level_over other level = level

-- the level of a call: by that of its functions, or else its first number
abbrev pub level_by : Head → Option ℕ → Option ℤ → ℕ
level_by head (Some level) number = level_over head level
level_by head None (Some n) = nat_abs n
level_by head None None = 0

-- whether a row or a column, if there is one, is in the matrices of a level
abbrev pub has_index : ℕ → Option ℤ → Bool
has_index level None = true
has_index level (Some i) = is_index level i

-- whether the row and the column that a head asks for are in the matrices of a level
abbrev pub has_indices : Head → ℕ → Option ℤ → Option ℤ → Bool
has_indices Unit level row column = has_index level row && has_index level column
has_indices other level row column = true

-- A call of such arguments has that level, and breaks a rule of its own where it asks for a row or a column that isn't
-- there.
pub record IsLevelled (head : Head) (args : List Meant) : Type 0 where
  pub level : (exact head args).level ≡ level_by head (first_of (levels args)) (first_of (numbers args))
  pub own : own_rule head args ≡ unless (has_indices head (exact head args).level (second_of (numbers args)) (third_of (numbers args))) OutOfRange

-- A call of what was noted isn't refused, and has the level.
abbrev pub IsRuled : Head → Walked → ℕ → Type 0
IsRuled head w l =
    (args : List Meant) → Shows w args → IsLevelled head args
    → (call_refusal head args ≡ None) × ((exact head args).level ≡ l)

-- A call of what was noted is refused.
abbrev pub IsRefused : Head → Walked → Refusal → Type 0
IsRefused head w r = (args : List Meant) → Shows w args → IsLevelled head args → call_refusal head args ≡ Some r
