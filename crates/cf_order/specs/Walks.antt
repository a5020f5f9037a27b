use Rattle.std.specs.Prelude.{◌≡◌, ℕ, ◌+◌, ◌-◌, ◌<◌, ◌≤◌, List, [], ◌∷◌, ◌++◌, length, replicate, slice_index_or, take, set}
use Rattle.cf_order.specs.declared.walk.Mark.{Mark}
use Rattle.cf_order.specs.declared.walk.Mark.TheVariants as mark
use Rattle.cf_order.specs.declared.walk.Frame.{Frame}

-- A walk as contracts see it: the mark of each signal, the signals on the way, and those that are done, in order.
pub record Progress : Type 0 where
  pub marks : List Mark
  pub stack : List Frame
  pub order : List ℕ

-- the mark of a signal
abbrev pub mark_of : Progress → ℕ → Mark
mark_of w s = slice_index_or w.marks s mark.New

abbrev pub frame : ℕ → ℕ → Frame
frame s k = record { signal = s; next = k }

-- a walk that has seen none of n signals
abbrev pub started : ℕ → Progress
started n = record { marks = replicate n mark.New; stack = []; order = [] }

-- the frame is the last of the way
abbrev pub top_of : Progress → Frame → Type 0
top_of w f = (0 < length w.stack) × (slice_index_or w.stack (length w.stack - 1) f ≡ f)

-- the walk with a signal at hand that is new
abbrev pub entered : Progress → ℕ → Progress
entered w s = record w {
  marks = set w.marks s (mark.Open (length w.stack));
  stack = w.stack ++ frame s 0 ∷ [];
}

-- the walk with one more need of the signal at hand done
abbrev pub passed : Progress → Frame → Progress
passed w f = record w {
  stack = set w.stack (length w.stack - 1) (frame f.signal (f.next + 1));
}

-- the walk with the signal at hand done
abbrev pub left : Progress → Frame → Progress
left w f = record {
  marks = set w.marks f.signal (mark.Done (length w.order));
  stack = take (length w.stack - 1) w.stack;
  order = w.order ++ f.signal ∷ [];
}
