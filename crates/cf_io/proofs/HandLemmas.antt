use Rattle.std.proofs.Common.{ℕ, ◌≡◌, ◌+◌, ◌≤◌, Bool, true, false, List, length, take, refl, arith}
use Rattle.std.proofs.lemmas.List.{length-take-le}
use Rattle.std.specs.Int.{from_bool}
use Rattle.cf_reference.specs.Lines.{fit, Fits, line_end, size}
use Rattle.cf_reference.proofs.LineLaws.{fits_within}
use Rattle.cf_io.specs.Windows.{held, IsSound}
use Rattle.cf_io.specs.declared.lines.Window.{Window}
use Rattle.cf_io.proofs.WindowLemmas.{length_between}

end_size : (newline : Bool) → length (line_end newline) ≡ from_bool newline
end_size true = refl
end_size false = refl

-- a line at the front of what is held, whose newline takes up `e` bytes
pub record Sizes (w : Window) (len e : ℕ) (newline : Bool) : Type 0 where
  pub within : w.from + (len + e) ≤ w.upto
  pub line : length (take len (held w)) ≡ len
  pub size : size (record { bytes = take len (held w); newline = newline }) ≡ len + e

pub sizes : (w : Window) (len e : ℕ) (newline : Bool) → IsSound w → len + length (line_end newline) ≤ length (held w) → e ≡ from_bool newline → Sizes w len e newline
sizes w len e newline s h is =
    let ordered = s.ordered in
    let all = length_between w.from w.upto w.buf.items s.ordered s.within in
    let end = end_size newline in
    let short : length (take len (held w)) ≡ len = length-take-le len (held w) (omega arith) in
    record { within = omega arith; line = short; size = omega arith }

pub fitting : (w : Window) (len e : ℕ) (newline : Bool) → IsSound w → Sizes w len e newline
    → ((bytes : List ℕ) → length bytes ≡ len → fit w.handed (record { bytes = bytes; newline = newline }) ≡ Fits) → w.handed + (len + e) ≤ 1073741824
fitting w len e newline s z fits =
    let most = fits_within w.handed (record { bytes = take len (held w); newline = newline }) s.handed (fits (take len (held w)) z.line) in
    let size = z.size in
    omega arith
