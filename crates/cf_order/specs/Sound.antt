use Rattle.std.specs.Prelude.{◌≡◌, ◌≢◌, ℕ, ◌+◌, ◌<◌, ◌≤◌, List, [], ◌∷◌, length, slice_index, slice_index_or}
use Rattle.cf_order.specs.declared.walk.Mark.{Mark}
use Rattle.cf_order.specs.declared.walk.Mark.TheVariants as mark
use Rattle.cf_order.specs.declared.walk.Frame.{Frame}
use Rattle.cf_order.specs.Orders.{row}
use Rattle.cf_order.specs.Walks.{Progress, mark_of, frame}

-- the frame at a depth of the way
abbrev pub frame_at : Progress → ℕ → Frame
frame_at w i = slice_index_or w.stack i (frame 0 0)

-- need k of a signal
abbrev pub need : List (List ℕ) → ℕ → ℕ → ℕ
need rows s k = slice_index (row rows s) k

-- The mark says that a signal is done.
abbrev pub IsDone : Mark → Type 0
IsDone m = (j : ℕ) × (m ≡ mark.Done j)

-- how many of the marks are done
abbrev pub one_if_done : Mark → ℕ
one_if_done mark.New = 0
one_if_done (mark.Open i) = 0
one_if_done (mark.Done i) = 1

abbrev pub dones : List Mark → ℕ
dones [] = 0
dones (m ∷ ms) = one_if_done m + dones ms

-- what is seen stays seen
abbrev pub Keeps : Progress → Progress → Type 0
Keeps old new = (s : ℕ) → mark_of old s ≢ mark.New → mark_of new s ≢ mark.New

-- What holds of a walk: marks, stack and order fit one another, each signal on the way needs the next one, and what is
-- done comes after all that it needs.
pub record Sound (rows : List (List ℕ)) (w : Progress) : Type 0 where
  pub full : length w.marks ≡ length rows
  pub counted : dones w.marks ≡ length w.order
  pub opened : (i : ℕ) → i < length w.stack → mark_of w (frame_at w i).signal ≡ mark.Open i
  pub placed : (i : ℕ) → i < length w.order → mark_of w (slice_index w.order i) ≡ mark.Done i
  pub is_open : (s i : ℕ) → mark_of w s ≡ mark.Open i
      → (i < length w.stack) × ((frame_at w i).signal ≡ s)
  pub is_done : (s i : ℕ) → mark_of w s ≡ mark.Done i
      → (i < length w.order) × (slice_index w.order i ≡ s)
  pub looked : (i k : ℕ) → i < length w.stack → k < (frame_at w i).next
      → IsDone (mark_of w (need rows (frame_at w i).signal k))
  pub within : (i : ℕ) → i < length w.stack
      → (frame_at w i).next ≤ length (row rows (frame_at w i).signal)
  pub chain : (i : ℕ) → i + 1 < length w.stack
      → ((frame_at w i).next < length (row rows (frame_at w i).signal))
      × (need rows (frame_at w i).signal (frame_at w i).next ≡ (frame_at w (i + 1)).signal)
  pub after : (i k : ℕ) → i < length w.order → k < length (row rows (slice_index w.order i))
      → (j : ℕ) × (j < i) × (mark_of w (need rows (slice_index w.order i) k) ≡ mark.Done j)
