use Rattle.std.specs.Prelude.{ℕ, ◌≡◌, ◌≤◌, ◌+◌, ◌-◌, ◌^◌, min, Bool, IsTrue, if◌then◌else◌}

-- the count rose in a call, or stands at its last value
abbrev pub Rose : ℕ → ℕ → Type 0
Rose before now = min (before + 1) (2 ^ 64 - 1) ≤ now

-- the count doesn't fall, and rose where the call failed
pub record HasCause (before now : ℕ) (failed : Bool) : Type 0 where
  pub later : before ≤ now
  pub rose : IsTrue failed → Rose before now

-- one more, up to the last value of a count
abbrev pub one_more : ℕ → ℕ
one_more n = min (n + 1) (2 ^ 64 - 1)

-- the count tells exactly the calls of which this is true: each of them raises it by one, and no other call changes it
abbrev pub Counts : ℕ → ℕ → Bool → Type 0
Counts before now happened = now ≡ (if happened then one_more before else before)
