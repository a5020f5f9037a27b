use Rattle.std.specs.Prelude.{ℕ, ◌≡◌, ◌+◌, ◌≤◌, Bool, true, false, List, [], ◌++◌, take, IsTrue}
use Rattle.cf_io.specs.Causes.{Counts, HasCause}
use Rattle.cf_io.specs.Shown.{SourceView, ReadingIsTold}
use Rattle.cf_io.specs.declared.source.Got.{Got}
use Rattle.cf_io.specs.declared.source.Got.TheVariants as got

-- how many bytes a read gave
abbrev pub count_of : Got → ℕ
count_of (got.Got n) = n
count_of got.End = 0
count_of got.Failed = 0

-- the read found the end
abbrev pub is_end : Got → Bool
is_end (got.Got n) = false
is_end got.End = true
is_end got.Failed = false

-- the read failed
abbrev pub is_failed : Got → Bool
is_failed (got.Got n) = false
is_failed got.End = false
is_failed got.Failed = true

-- a read gives at least one byte, and no more than there is room for
abbrev pub GotWithin : Got → ℕ → Type 0
GotWithin (got.Got n) room = (1 ≤ n) × (n ≤ room)
GotWithin got.End room = Unit {0}
GotWithin got.Failed room = Unit {0}

-- what a read into the front of a buffer does to a source
pub record Reads (old new : SourceView) (answer : Got) (buf : List ℕ) : Type 0 where
  pub taken : new.taken ≡ old.taken + count_of answer
  -- what is given are the next of the bytes that were left
  pub left : ReadingIsTold old → old.left ≡ take (count_of answer) buf ++ new.left
  pub read : ReadingIsTold old → new.read ≡ old.read ++ take (count_of answer) buf
  -- the end comes only where nothing is left
  pub end : ReadingIsTold old → IsTrue (is_end answer) → old.left ≡ []
  pub ended : new.ended ≡ is_end answer
  pub told : new.tells ≡ old.tells
  pub cause : HasCause old.faults new.faults (is_failed answer)

-- the count of faults tells exactly the reads that failed
abbrev pub CountsReads : SourceView → SourceView → Got → Type 0
CountsReads old new answer = Counts old.faults new.faults (is_failed answer)
