use Rattle.std.specs.Prelude.{ℕ, ◌-◌, ◌%◌, ◌==◌, nat_lt, min, Bool, List, if◌then◌else◌}
use Rattle.std.specs.List.{list_any}

-- how many of `all` bytes a read gives that begins at place `at`: it ends at the next multiple of `piece`, at place
-- `cut` if it began before it, at the buffer's end, or at the last byte
abbrev pub piece_length : ℕ → ℕ → ℕ → ℕ → ℕ → ℕ
piece_length at piece cut room all =
    min (min (piece - at % piece) (if nat_lt at cut then cut - at else all - at)) (min room (all - at))

-- the call of this number is one of those that fail
abbrev pub is_listed : List ℕ → ℕ → Bool
is_listed fails call = list_any (λ n. n == call) fails
