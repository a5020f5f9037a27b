use Rattle.std.specs.Prelude.{ℕ, ◌≢◌, ◌+◌, ◌-◌, ◌==◌, ◌&&◌, nat_lt, nat_le, Bool, true, false, List, [], ◌∷◌, length, if◌then◌else◌}
use Rattle.cf_reference.specs.Bytes as byte

-- A line of a script: its bytes, and whether a newline ends it.
pub record Line : Type 0 where
  pub bytes : List ℕ
  pub newline : Bool

abbrev pub line_end : Bool → List ℕ
line_end newline = if newline then byte.newline ∷ [] else []

-- the bytes that a line takes up in the script, with its newline
abbrev pub size : Line → ℕ
size line = length line.bytes + length (line_end line.newline)

-- A byte that is no newline stands before the first of the lines that follow, or is a line alone at the script's end.
abbrev pub put_first : ℕ → List Line → List Line
put_first b [] = record { bytes = b ∷ []; newline = false } ∷ []
put_first b (line ∷ more) = record { bytes = b ∷ line.bytes; newline = line.newline } ∷ more

-- The lines of a script: it is cut at newlines, and the last piece is a line if it has bytes.
unfoldable pub lines : List ℕ → List Line
lines [] = []
lines (b ∷ rest) = if b == byte.newline then record { bytes = []; newline = true } ∷ lines rest else put_first b (lines rest)

abbrev pub NoNewline : List ℕ → Type 0
NoNewline [] = Unit {0}
NoNewline (b ∷ bytes) = (b ≢ byte.newline) × NoNewline bytes

-- the most bytes of a line, without its newline
abbrev pub line_limit : ℕ
line_limit = 65536

-- the most bytes of a script
abbrev pub script_limit : ℕ
script_limit = 1073741824

-- how a line fares by its length
pub data Fit : Type 0 where
  Fits : Fit
  LineTooLong : Fit
  ScriptTooLong : Fit

-- The line begins behind `before` bytes of the script. The script is too long where its byte 1,073,741,825 is in the
-- line or is its newline, and no earlier byte was the line's byte 65,537; else a line with a byte 65,537 is too long.
abbrev pub fit : ℕ → Line → Fit
fit before line =
    if nat_lt script_limit (before + size line) && nat_le (script_limit - before) line_limit then ScriptTooLong
    else if nat_lt line_limit (length line.bytes) then LineTooLong
    else Fits

-- How many bytes of the script have to be read until it is known what the line does: a line that fits is read with its
-- newline, a line that is too long only to the byte that makes it so.
abbrev pub known_by : ℕ → Line → Fit → ℕ
known_by before line Fits = before + size line
known_by before line LineTooLong = before + (line_limit + 1)
known_by before line ScriptTooLong = script_limit + 1
