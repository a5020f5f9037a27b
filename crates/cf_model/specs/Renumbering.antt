use Rattle.std.specs.Prelude.{◌≡◌, ℕ, suc, ◌<◌, ◌≤◌, ◌↔◌, max, Bool, if◌then◌else◌, List, [], ◌∷◌, ◌++◌, map, length, Some}
use Rattle.std.specs.List.{slice_get, list_any}

-- How many numbers are given out once the list is read, if the numbers below n were before.
abbrev pub width : ℕ → List ℕ → ℕ
width n [] = n
width n (x ∷ xs) = width (max n (suc x)) xs

-- The list numbers by first reach: each entry was given out before or is the next number, the numbers below n being
-- given out at the start. From n = 0 this is a restricted growth string.
abbrev pub Grows : ℕ → List ℕ → Type 0
Grows n [] = Unit {0}
Grows n (x ∷ xs) = (x ≤ n) × Grows (max n (suc x)) xs

-- The function has no value twice below k.
abbrev pub IsApart : {A : Type 0} → (ℕ → A) → ℕ → Type 0
IsApart f k = (i j : ℕ) → i < k → j < k → f i ≡ f j → i ≡ j

-- The functions have equal values below k.
abbrev pub Agree : {A : Type 0} → (ℕ → A) → (ℕ → A) → ℕ → Type 0
Agree f g k = (i : ℕ) → i < k → f i ≡ g i

-- No label stands at two places of the list.
abbrev pub AllDiffer : {A : Type 0} → List A → Type 0
AllDiffer {A} xs = (i j : ℕ) (x : A) → slice_get xs i ≡ Some x → slice_get xs j ≡ Some x → i ≡ j

-- The label stands at no place of the list.
abbrev pub IsNew : {A : Type 0} → List A → A → Type 0
IsNew xs x = (k : ℕ) → slice_get xs k ≡ Some x → ⊥

-- the first place of a label, or the length where it has none
abbrev pub place : {A : Type 0} → (A → A → Bool) → List A → A → ℕ
place eq [] x = 0
place eq (y ∷ ys) x = if eq y x then 0 else suc (place eq ys x)

-- the labels seen so far, with one more that was read
abbrev pub note : {A : Type 0} → (A → A → Bool) → List A → A → List A
note eq seen x = if list_any (λ y. eq y x) seen then seen else seen ++ x ∷ []

-- each label by its rank of first appearance, where `seen` were seen before in this order
abbrev pub rgs_on : {A : Type 0} → (A → A → Bool) → List A → List A → List ℕ
rgs_on eq seen [] = []
rgs_on eq seen (x ∷ xs) = place eq seen x ∷ rgs_on eq (note eq seen x) xs

-- the labels in order of first appearance, `seen` being the first
abbrev pub distinct_on : {A : Type 0} → (A → A → Bool) → List A → List A → List A
distinct_on eq seen [] = seen
distinct_on eq seen (x ∷ xs) = distinct_on eq (note eq seen x) xs

-- rgs(L): each label replaced by its rank of first appearance, from 0
abbrev pub rgs : {A : Type 0} → (A → A → Bool) → List A → List ℕ
rgs eq xs = rgs_on eq [] xs

-- distinct(L): the labels in order of first appearance
abbrev pub distinct : {A : Type 0} → (A → A → Bool) → List A → List A
distinct eq xs = distinct_on eq [] xs

-- canon(L): the two together
abbrev pub canon : {A : Type 0} → (A → A → Bool) → List A → List ℕ × List A
canon eq xs = (rgs eq xs, distinct eq xs)

-- The ranks and the labels are the canon of `all`: each place's rank leads to its label, the ranks number by first
-- reach and reach each label, and no label is listed twice.
pub record IsCanon {A : Type 0} (all : List A) (ranks : List ℕ) (labels : List A) : Type 0 where
  pub spells : map (slice_get labels) ranks ≡ map Some all
  pub grows : Grows 0 ranks
  pub reached : width 0 ranks ≡ length labels
  pub differ : AllDiffer labels

-- Two lists are equal at the same pairs of places.
abbrev pub SamePlaces : {A B : Type 0} → List A → List B → Type 0
SamePlaces xs ys = (i j : ℕ) → i < length xs → j < length xs → (slice_get xs i ≡ slice_get xs j) ↔ (slice_get ys i ≡ slice_get ys j)
