-- When a count stays.
use Rattle.std.proofs.Common.{ℕ, ◌-◌, ◌<◌, ◌^◌, false, arith}
use Rattle.cf_io.specs.Causes.{Counts, Rose}

-- a call that isn't counted leaves the count, which hasn't risen then unless it stood at its last value
pub counts-still : (before now : ℕ) → Counts before now false → before < 2 ^ 64 - 1 → ¬ Rose before now
counts-still before now counts below rose = absurd (omega (arith, counts, below, rose))
