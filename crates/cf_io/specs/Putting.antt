use Rattle.std.specs.Prelude.{ℕ, ◌≡◌, ◌≤◌, Bool, true, false, List, ◌++◌, take}
use Rattle.cf_io.specs.Causes.{Counts, HasCause}
use Rattle.cf_io.specs.Shown.{SinkView, WritingIsTold}
use Rattle.cf_io.specs.declared.sink.Put.{Put}
use Rattle.cf_io.specs.declared.sink.Put.TheVariants as put

-- how many bytes a write took
abbrev pub took : Put → ℕ
took (put.Took n) = n
took put.Failed = 0

-- the write failed
abbrev pub is_put_failed : Put → Bool
is_put_failed (put.Took n) = false
is_put_failed put.Failed = true

-- a write takes at least one byte, and no more than it was given
abbrev pub TookWithin : Put → ℕ → Type 0
TookWithin (put.Took n) room = (1 ≤ n) × (n ≤ room)
TookWithin put.Failed room = Unit {0}

-- what a write of some bytes of a piece does to a sink
pub record Writes (old new : SinkView) (answer : Put) (piece : List ℕ) : Type 0 where
  -- the bytes that it took are appended
  pub written : WritingIsTold old → new.written ≡ old.written ++ take (took answer) piece
  pub told : new.tells ≡ old.tells
  pub cause : HasCause old.faults new.faults (is_put_failed answer)

-- the count of faults tells exactly the writes that failed
abbrev pub CountsWrites : SinkView → SinkView → Put → Type 0
CountsWrites old new answer = Counts old.faults new.faults (is_put_failed answer)

-- the bytes were appended
abbrev pub Appends : SinkView → SinkView → List ℕ → Type 0
Appends old new bytes = new.written ≡ old.written ++ bytes

-- a front of the bytes was appended
abbrev pub AppendsSome : SinkView → SinkView → List ℕ → Type 0
AppendsSome old new bytes = (n : ℕ) × Appends old new (take n bytes)
