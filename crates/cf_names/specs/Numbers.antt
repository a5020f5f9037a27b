use Rattle.std.specs.Prelude.{◌≡◌, ℕ, List, [], ◌∷◌, ◌++◌, Option, Some, None, if◌then◌else◌}
use Rattle.std.specs.List.{list_any}
use Rattle.std.specs.Str.{bytes_eq}
use Rattle.cf_model.specs.Renumbering.{place, rgs, distinct, canon}

-- A book of names is the list of its names, which all differ. The number of a name is its place in the book.
abbrev pub number_of : List (List ℕ) → List ℕ → Option ℕ
number_of names name = if list_any (λ other. bytes_eq other name) names then Some (place bytes_eq names name) else None

-- One more name is read, and gets the number n. Whatever names were read before to make the book what it was, all of
-- them and this one are numbered by first appearance, and the book has the different ones in that order.
abbrev pub NumbersNext : List (List ℕ) → List (List ℕ) → List ℕ → ℕ → Type 0
NumbersNext before now name n =
    (read : List (List ℕ)) → distinct bytes_eq read ≡ before
    → canon bytes_eq (read ++ name ∷ []) ≡ (rgs bytes_eq read ++ n ∷ [], now)
