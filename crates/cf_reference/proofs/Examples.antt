-- The lines of a script on worked examples.
use Rattle.std.proofs.Common.{◌≡◌, ℕ, List, length, [], ◌∷◌, ◌++◌, true, false, refl}
use Rattle.std.specs.Prelude.{codes}
use Rattle.cf_reference.specs.Lines.{lines, fit, known_by, Fits, LineTooLong, ScriptTooLong}

-- a last piece without a newline is a line if it has bytes
last_piece : lines (codes "a" ++ 10 ∷ codes "b") ≡ record { bytes = codes "a"; newline = true } ∷ record { bytes = codes "b"; newline = false } ∷ []
unfolding lines
last_piece = refl

no_last_piece : lines (codes "a" ++ 10 ∷ 10 ∷ []) ≡ record { bytes = codes "a"; newline = true } ∷ record { bytes = []; newline = true } ∷ []
unfolding lines
no_last_piece = refl

-- A line has at most 65,536 bytes, its newline not among them.
longest_line : (bytes : List ℕ) → length bytes ≡ 65536 → fit 0 (record { bytes = bytes; newline = true }) ≡ Fits
longest_line bytes h = rw h refl

long_line : (bytes : List ℕ) → length bytes ≡ 65537 → fit 0 (record { bytes = bytes; newline = true }) ≡ LineTooLong
long_line bytes h = rw h refl

-- A line that fits is known by its newline, or by its last byte where it has none.
known_by_newline : known_by 3 (record { bytes = codes "a"; newline = true }) Fits ≡ 5
known_by_newline = refl

known_by_end : known_by 3 (record { bytes = codes "a"; newline = false }) Fits ≡ 4
known_by_end = refl

-- it is known by its byte 65,537, and a long script by its byte 1,073,741,825
known_by_byte : known_by 3 (record { bytes = codes "a"; newline = true }) LineTooLong ≡ 65540
known_by_byte = refl

known_by_script : known_by 3 (record { bytes = codes "a"; newline = true }) ScriptTooLong ≡ 1073741825
known_by_script = refl

-- The script's last byte but one ends a line that fits; where its newline is one byte further, the script is too long.
whole_script : fit 1073741823 (record { bytes = codes "a"; newline = false }) ≡ Fits
whole_script = refl

past_script : fit 1073741823 (record { bytes = codes "a"; newline = true }) ≡ ScriptTooLong
past_script = refl
