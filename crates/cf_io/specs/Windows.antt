use Rattle.std.specs.Prelude.{ℕ, ◌≡◌, ◌+◌, ◌≤◌, ◌-◌, ◌++◌, Bool, List, take, drop, length}
use Rattle.cf_reference.specs.Lines as lines
use Rattle.cf_reference.specs.Lines.{Line, fit, line_end, size}
use Rattle.cf_io.specs.Held.{Held}
use Rattle.cf_io.specs.Answers.{Answer}
use Rattle.cf_io.specs.Answers as answer
use Rattle.cf_io.specs.Shown.{SourceView}
use Rattle.cf_io.specs.declared.lines.Window.{Window}
use Rattle.cf_io.specs.declared.lines.Found.{Found}
use Rattle.cf_io.specs.declared.lines.Found.TheVariants as found
use Rattle.cf_io.specs.declared.lines.Fit.{Fit}
use Rattle.cf_io.specs.declared.lines.Fit.TheVariants as length_of

-- the bytes that are held
abbrev pub held : Window → List ℕ
held w = take (w.upto - w.from) (drop w.from w.buf.items)

-- what a window stands for
abbrev pub state : Window → Held
state w = record { bytes = held w; handed = w.handed; ended = w.ended }

-- the places are within the buffer, and the script isn't longer than it may be
pub record IsSound (w : Window) : Type 0 where
  pub ordered : w.from ≤ w.upto
  pub within : w.upto ≤ length w.buf.items
  pub size : length w.buf.items ≡ 262148
  pub handed : w.handed ≤ 1073741824

-- the bytes that were taken from the source stand behind those that were held
pub record Comes (held_old held_new : List ℕ) (before after : SourceView) : Type 0 where
  pub fresh : List ℕ
  pub read : after.read ≡ before.read ++ fresh
  pub left : before.left ≡ fresh ++ after.left
  pub held : held_new ≡ held_old ++ fresh

-- the bytes between two places of a buffer
abbrev pub between : ℕ → ℕ → List ℕ → List ℕ
between a b buf = take (b - a) (drop a buf)

-- an answer with its bytes in place of its places in the buffer
abbrev pub answer_in : List ℕ → Found → Answer
answer_in buf (found.Line a b) = answer.Line (between a b buf)
answer_in buf found.End = answer.End
answer_in buf found.TooLong = answer.TooLong
answer_in buf found.ScriptTooLong = answer.ScriptTooLong
answer_in buf found.ReadFault = answer.ReadFault

-- what was found in a window
abbrev pub found_in : Window → Found → Answer
found_in w found = answer_in w.buf.items found

-- the line lies in the buffer
abbrev pub LiesIn : Window → Found → Type 0
LiesIn w (found.Line a b) = (a ≤ b) × (b ≤ length w.buf.items)
LiesIn w found.End = Unit {0}
LiesIn w found.TooLong = Unit {0}
LiesIn w found.ScriptTooLong = Unit {0}
LiesIn w found.ReadFault = Unit {0}

-- how a line fares by its length
abbrev pub fit_of : Fit → lines.Fit
fit_of length_of.Fits = lines.Fits
fit_of length_of.LineTooLong = lines.LineTooLong
fit_of length_of.ScriptTooLong = lines.ScriptTooLong

-- how a line of this length fares, whatever its bytes
abbrev pub Fares : ℕ → ℕ → Bool → Fit → Type 0
Fares handed len newline found =
    (bytes : List ℕ) → length bytes ≡ len → fit handed (record { bytes = bytes; newline = newline }) ≡ fit_of found

-- the first `len` bytes that are held, as a line
abbrev pub front_line : Window → ℕ → Bool → Line
front_line w len newline = record { bytes = take len (held w); newline = newline }

-- a line and what is held after it
pub record TakesOff (old new : Window) (line : Line) (given : List ℕ) : Type 0 where
  pub bytes : given ≡ line.bytes
  pub fits : fit old.handed line ≡ lines.Fits
  pub handed : new.handed ≡ old.handed + size line
  pub held : held new ≡ drop (size line) (held old)

-- the line is handed out, or it is too long and nothing changes
abbrev pub Hands : Window → Window → Line → Found → Type 0
Hands old new line (found.Line a b) = TakesOff old new line (between a b new.buf.items)
Hands old new line found.End = ⊥
Hands old new line found.TooLong = (fit old.handed line ≡ lines.LineTooLong) × (state new ≡ state old)
Hands old new line found.ScriptTooLong = (fit old.handed line ≡ lines.ScriptTooLong) × (state new ≡ state old)
Hands old new line found.ReadFault = ⊥
