use Rattle.std.specs.Prelude.{◌≡◌, ℕ, ◌<◌, ◌≤◌, ℤ, List, [], ◌∷◌, ◌++◌, length, map, All, slice_get, Some, ◌⊎◌}
use Rattle.std.specs.declared.vec.Vec.{Vec}
use Rattle.cf_model.specs.Renumbering.{AllDiffer}

-- the lists that vectors hold
abbrev pub items_of : {A Z : Type 0} → List (Vec A Z) → List (List A)
items_of vectors = map (λ v. v.items) vectors

-- A function's list of values, one for each exit: at least one, and no value twice.
pub record IsValueList (values : List ℤ) : Type 0 where
  pub some : 0 < length values
  pub differ : AllDiffer values

-- A book has no list twice, and each is a function's list of values.
pub record IsBook (lists : List (List ℤ)) : Type 0 where
  pub once : AllDiffer lists
  pub each : All IsValueList lists

-- The item stands at place `at` of the book, which is as before, or has that one item more at its end.
pub record IsInterned {A : Type 0} (before now : List A) (item : A) (at : ℕ) : Type 0 where
  pub is_there : slice_get now at ≡ Some item
  pub grown : (now ≡ before) ⊎ (now ≡ before ++ item ∷ [])

-- What was in the book is at its place, and there may be more.
pub record Lengthens {A : Type 0} (before now : List A) : Type 0 where
  pub more : length before ≤ length now
  pub kept : (i : ℕ) → i < length before → slice_get now i ≡ slice_get before i
