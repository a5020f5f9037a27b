use Rattle.std.specs.Prelude.{ℕ, ◌+◌, List, Bool, length}

-- what a line buffer holds: bytes, how many bytes of the script were handed out before them with their line ends, and
-- whether the source answered that it ended
pub record Held : Type 0 where
  pub bytes : List ℕ
  pub handed : ℕ
  pub ended : Bool

-- how many bytes of the script were taken
abbrev pub taken_by : Held → ℕ
taken_by h = h.handed + length h.bytes
