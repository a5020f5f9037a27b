use Rattle.std.specs.Prelude.{◌≡◌, ℕ, ◌+◌, ◌<◌, List, [], ◌∷◌, length, slice_index, slice_index_or, take, All, Contains}
use Rattle.cf_order.specs.declared.order.OrderFault.{OrderFault}
use Rattle.cf_order.specs.declared.order.OrderFault.TheVariants as fault

-- what a signal needs
abbrev pub row : List (List ℕ) → ℕ → List ℕ
row rows s = slice_index_or rows s []

-- A signal needs another.
abbrev pub Needs : List (List ℕ) → ℕ → ℕ → Type 0
Needs rows s t = Contains (row rows s) t

-- Every signal stands in the order once, and after all that it needs.
pub record IsOrder (rows : List (List ℕ)) (order : List ℕ) : Type 0 where
  pub whole : length order ≡ length rows
  pub within : (i : ℕ) → i < length order → slice_index order i < length rows
  pub every : (s : ℕ) → s < length rows → Contains order s
  pub once : (i j : ℕ) → i < length order → j < length order
      → slice_index order i ≡ slice_index order j → i ≡ j
  pub after : (i : ℕ) → i < length order → (t : ℕ) → Needs rows (slice_index order i) t
      → Contains (take i order) t

-- from a signal through the list to a signal, each needing the next
abbrev pub Chain : List (List ℕ) → ℕ → List ℕ → ℕ → Type 0
Chain rows a [] b = Needs rows a b
Chain rows a (c ∷ cs) b = Needs rows a c × Chain rows c cs b

-- a list that isn't empty, in which each needs the next, and the last needs the first
abbrev pub IsRing : List (List ℕ) → List ℕ → Type 0
IsRing rows [] = ⊥
IsRing rows (a ∷ rest) = Chain rows a rest a

-- no signals need one another in a ring
abbrev pub HasNoRing : List (List ℕ) → Type 0
HasNoRing rows = (ring : List ℕ) → IsRing rows ring → ⊥

-- A fault tells a ring, or want of memory.
abbrev pub IsRingFault : List (List ℕ) → OrderFault → Type 0
IsRingFault rows fault.NoMemory = Unit {0}
IsRingFault rows (fault.Ring ring) = IsRing rows ring
