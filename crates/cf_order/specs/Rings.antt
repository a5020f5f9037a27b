use Rattle.std.specs.Prelude.{◌≡◌, ℕ, ◌+◌, ◌<◌, ◌≤◌, List, [], ◌∷◌, Bool, true, false, if◌then◌else◌, length, slice_index, slice_index_or, All, Contains}
use Rattle.cf_order.specs.Orders.{Needs, Chain}

-- a chain of needs leads from the signal to itself
abbrev pub IsOnRing : List (List ℕ) → ℕ → Type 0
IsOnRing rows s = (rest : List ℕ) × Chain rows s rest s

-- None of the first n signals lies on a ring.
abbrev pub HasNoneOnRing : List (List ℕ) → ℕ → Type 0
HasNoneOnRing rows n = (s : ℕ) → s < n → IsOnRing rows s → ⊥

-- The signal lies on a ring, and none before it does.
abbrev pub IsFirstOnRing : List (List ℕ) → ℕ → Type 0
IsFirstOnRing rows s = IsOnRing rows s × HasNoneOnRing rows s

-- the signal is marked as seen
abbrev pub IsSeen : List Bool → ℕ → Type 0
IsSeen seen t = slice_index_or seen t false ≡ true

-- how many are seen
abbrev pub trues : List Bool → ℕ
trues [] = 0
trues (true ∷ bs) = 1 + trues bs
trues (false ∷ bs) = trues bs

-- the signals of a list are seen, and those that weren't are put behind the queue
pub record Visits (needs : List ℕ) (old new : List Bool) (before after : List ℕ) : Type 0 where
  pub full : length new ≡ length old
  pub count : length after + trues old ≡ length before + trues new
  pub all : All (λ t. IsSeen new t) needs
  pub kept : (t : ℕ) → IsSeen old t → IsSeen new t
  pub only : (t : ℕ) → IsSeen new t → (IsSeen old t → ⊥) → Contains needs t
  pub longer : length before ≤ length after
  pub front : (k : ℕ) → k < length before → slice_index after k ≡ slice_index before k
  pub behind : (k : ℕ) → length before ≤ k → k < length after
      → Contains needs (slice_index after k) × IsSeen new (slice_index after k)
  pub listed : (t : ℕ) → IsSeen new t → (IsSeen old t → ⊥)
      → (k : ℕ) × (k < length after) × (slice_index after k ≡ t)
