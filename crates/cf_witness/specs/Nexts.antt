use Rattle.std.specs.Prelude.{◌≡◌, ℕ, ◌<◌, ◌≤◌, Bool, true, false, List, length, slice_index_or as get_or}
use Rattle.std.specs.List.{list_any}
use Rattle.cf_model.specs.Assignments.{number_of}

-- Whether a number is marked, by a list of marks. A number past them isn't.
abbrev pub is_marked : List Bool → ℕ → Bool
is_marked marks x = get_or marks x false

-- whether one of the numbers is marked
abbrev pub has_marked : List Bool → List ℕ → Bool
has_marked marks xs = list_any (is_marked marks) xs

-- whether an assignment leads to a marked exit, by the pattern
abbrev pub leads : List ℕ → List Bool → List Bool → Bool
leads pattern marks bits = is_marked marks (get_or pattern (number_of bits) 0)

-- No marked number stands in the list from place `low` on and before place `high`.
abbrev pub LacksMarked : List ℕ → List Bool → ℕ → ℕ → Type 0
LacksMarked list marks low high = (n : ℕ) → low ≤ n → n < high → is_marked marks (get_or list n 0) ≡ true → ⊥

-- From place `low` on, the first marked number of the list is this exit, at place n.
pub record IsNext (list : List ℕ) (marks : List Bool) (low n exit : ℕ) : Type 0 where
  pub reached : low ≤ n
  pub within : n < length list
  pub exit_is : get_or list n 0 ≡ exit
  pub marked : is_marked marks exit ≡ true
  pub none_before : LacksMarked list marks low n
