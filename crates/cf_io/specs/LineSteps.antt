use Rattle.std.specs.Prelude.{ℕ, ◌≡◌, ◌+◌, ◌≤◌, ◌<◌, List, [], ◌∷◌, ◌++◌, length, Bool, false, IsTrue}
use Rattle.cf_reference.specs.Lines.{Line, line_end, lines, size, fit, Fit, Fits, LineTooLong, ScriptTooLong, NoNewline, line_limit, script_limit}
use Rattle.cf_io.specs.Held.{Held, taken_by}
use Rattle.cf_io.specs.Answers.{Answer}
use Rattle.cf_io.specs.Answers as answer
use Rattle.cf_io.specs.Causes.{Rose}
use Rattle.cf_io.specs.Shown.{SourceView, ReadingIsTold}
use Rattle.cf_io.specs.declared.lines.Next.{Next}
use Rattle.cf_io.specs.declared.lines.Next.TheVariants as next

-- the answer with its bytes in place of a slice
abbrev pub answer_of : Next → Answer
answer_of (next.Line line) = answer.Line line.now
answer_of next.End = answer.End
answer_of next.TooLong = answer.TooLong
answer_of next.ScriptTooLong = answer.ScriptTooLong
answer_of next.ReadFault = answer.ReadFault

-- A fault of reading leaves a line cut off: it comes before the source's end, and no newline is held yet, nor a byte that
-- makes the line or the script too long.
pub record CutsOff (old new : Held) : Type 0 where
  pub handed : new.handed ≡ old.handed
  pub open_before : old.ended ≡ false
  pub open_after : new.ended ≡ false
  pub plain : NoNewline new.bytes
  pub line : length new.bytes ≤ line_limit
  pub script : taken_by new ≤ script_limit

-- how each answer moves on
abbrev pub Moves : Held → Held → Answer → Type 0
Moves old new (answer.Line line) =
    (old.handed < new.handed) × (old.handed + length line ≤ new.handed) × (length line ≤ line_limit)
Moves old new answer.End = (new.handed ≡ old.handed) × (new.bytes ≡ []) × IsTrue new.ended
Moves old new answer.TooLong = (new.handed ≡ old.handed) × (old.handed + (line_limit + 1) ≤ taken_by new)
Moves old new answer.ScriptTooLong = (new.handed ≡ old.handed) × (script_limit + 1 ≤ taken_by new)
Moves old new answer.ReadFault = CutsOff old new

-- for any source: what was taken is handed out or held, an end stays, and each answer moves on
pub record Advances (old new : Held) (before now : ℕ) (answer : Answer) : Type 0 where
  pub taken : taken_by new + before ≡ taken_by old + now
  pub within : new.handed ≤ script_limit
  pub stays : IsTrue old.ended → IsTrue new.ended
  pub moves : Moves old new answer

-- the script that is to come: the bytes that are held, and those that the source has left
abbrev pub to_come : Held → SourceView → List ℕ
to_come held source = held.bytes ++ source.left

-- two pieces of a script: a line with its end is taken off their front, and any other answer leaves them
abbrev pub Splits : List ℕ → List ℕ → Answer → Type 0
Splits old new (answer.Line line) = (newline : Bool) × (old ≡ line ++ line_end newline ++ new)
Splits old new answer.End = new ≡ old
Splits old new answer.TooLong = new ≡ old
Splits old new answer.ScriptTooLong = new ≡ old
Splits old new answer.ReadFault = new ≡ old

-- the bytes that were taken from the source: what was held and they are split, and the rest is left
pub record Takes (old new : Held) (before after : SourceView) (answer : Answer) : Type 0 where
  pub fresh : List ℕ
  pub read : after.read ≡ before.read ++ fresh
  pub left : before.left ≡ fresh ++ after.left
  pub splits : Splits (old.bytes ++ fresh) new.bytes answer

-- the answer is the first of the lines that are to come
pub record IsFirst (from to : Held) (old new line : List ℕ) (newline : Bool) : Type 0 where
  pub lines : lines old ≡ record { bytes = line; newline = newline } ∷ lines new
  pub fits : fit from.handed (record { bytes = line; newline = newline }) ≡ Fits
  pub handed : to.handed ≡ from.handed + size (record { bytes = line; newline = newline })
  -- only the end of input ends a line without a newline
  pub last : newline ≡ false → IsTrue to.ended

-- the first of the lines that are to come is too long
pub record BeginsTooLong (from : Held) (old : List ℕ) (how : Fit) : Type 0 where
  pub line : Line
  pub more : List Line
  pub lines : lines old ≡ line ∷ more
  pub long : fit from.handed line ≡ how

-- the answer is the one that the lines that are to come call for
abbrev pub HandsOut : Held → List ℕ → Held → List ℕ → Answer → Type 0
HandsOut from old to new (answer.Line line) = (newline : Bool) × IsFirst from to old new line newline
HandsOut from old to new answer.End = (old ≡ []) × (new ≡ [])
HandsOut from old to new answer.TooLong = BeginsTooLong from old LineTooLong
HandsOut from old to new answer.ScriptTooLong = BeginsTooLong from old ScriptTooLong
HandsOut from old to new answer.ReadFault = new ≡ old

-- the answer is a fault of reading
abbrev pub IsReadFault : Answer → Type 0
IsReadFault (answer.Line line) = ⊥
IsReadFault answer.End = ⊥
IsReadFault answer.TooLong = ⊥
IsReadFault answer.ScriptTooLong = ⊥
IsReadFault answer.ReadFault = Unit {0}

-- the last read failed, and was counted
pub record LastFailed (before after : SourceView) : Type 0 where
  pub rose : Rose before.faults after.faults
  pub unended : after.ended ≡ false

-- where the buffer says that the source has ended, it has
abbrev pub EndIsTrue : Held → SourceView → Type 0
EndIsTrue held source = IsTrue held.ended → IsTrue source.ended

-- nothing is left where the buffer says that the source has ended
abbrev pub EndIsLast : Held → SourceView → Type 0
EndIsLast held source = IsTrue held.ended → source.left ≡ []

-- what a call of `next_line` does to the buffer and to the source
pub record Steps (old new : Held) (before after : SourceView) (answer : Answer) : Type 0 where
  pub advances : Advances old new before.taken after.taken answer
  pub true_end : EndIsTrue old before → EndIsTrue new after
  -- an end isn't forgotten: where the source has ended and the buffer doesn't say so, the call read nothing
  pub remembered : IsTrue after.ended → new.ended ≡ false → after ≡ before
  pub takes : ReadingIsTold before → Takes old new before after answer
  pub hands : ReadingIsTold before → EndIsLast old before →
      HandsOut old (to_come old before) new (to_come new after) answer
  pub last_end : ReadingIsTold before → EndIsLast old before → EndIsLast new after
