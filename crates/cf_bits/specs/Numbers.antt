use Rattle.std.specs.Prelude.{ℕ, ◌+◌, ◌*◌, Bool, if◌then◌else◌}

-- a number with one more binary digit behind it
abbrev pub with_digit : ℕ → Bool → ℕ
with_digit n bit = 2 * n + (if bit then 1 else 0)
