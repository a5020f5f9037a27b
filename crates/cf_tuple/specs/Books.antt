use Rattle.std.specs.Prelude.{◌≡◌, ℕ, ◌-◌, ◌/◌, ◌%◌, ◌^◌, ◌<◌, ◌≤◌, nat_lt, if◌then◌else◌, slice_index_or, List, [], ◌∷◌, ◌++◌, length, map, slice_get, Some, ◌⊎◌}
use Rattle.std.specs.declared.vec.Vec.{Vec}
use Rattle.smallvec.specs.SmallVec.{SmallVec}

-- the lists that vectors hold
abbrev pub items_of : {A Z : Type 0} → List (Vec A Z) → List (List A)
items_of vectors = map (λ v. v.items) vectors

-- the lists that small vectors hold
abbrev pub lists_of : {A : Type 0} → List (SmallVec A) → List (List A)
lists_of vectors = map (λ v. v.items) vectors

-- The item stands at place `at` of the book, which is as before, or has that one item more at its end.
pub record IsInterned {A : Type 0} (before now : List A) (item : A) (at : ℕ) : Type 0 where
  pub is_there : slice_get now at ≡ Some item
  pub grown : (now ≡ before) ⊎ (now ≡ before ++ item ∷ [])

-- What was in the book is at its place, and there may be more.
pub record Lengthens {A : Type 0} (before now : List A) : Type 0 where
  pub more : length before ≤ length now
  pub kept : (i : ℕ) → i < length before → slice_get now i ≡ slice_get before i

-- the small list that has a place of its own: one entry below 256, or two entries below 16
abbrev pub small_list : ℕ → List ℕ
small_list i = if nat_lt i 256 then i ∷ [] else (i - 256) / 16 ∷ (i - 256) % 16 ∷ []

-- At the place of each small list stands its id, or the greatest word where it has none.
abbrev pub IsNotedSmall : List (List ℕ) → List ℕ → Type 0
IsNotedSmall lists small = (i : ℕ) → i < length small → (slice_index_or small i 0 ≡ 2 ^ 64 - 1) ⊎ (slice_get lists (slice_index_or small i 0) ≡ Some (small_list i))
