use Rattle.std.specs.Prelude.{ℤ, pos, negsuc, ◌^◌, ◌-◌, ◌&&◌, Bool, not, int_lt, FitsSigned, Option, Some, None, if◌then◌else◌}
use mir.Syntax.{w128}

-- A whole number fits if it lies in -2^127 to 2^127-1, the range of 128 signed bits.
abbrev pub Fits : ℤ → Type 0
Fits z = FitsSigned w128 z

-- whether it fits, as a test
abbrev pub fits : ℤ → Bool
fits z = not (int_lt z (negsuc (2 ^ 127 - 1))) && int_lt z (pos (2 ^ 127))

-- The value of an exact result: the number if it fits, else none.
abbrev pub fitting : ℤ → Option ℤ
fitting z = if fits z then Some z else None

-- a value worked out from a value, and none from none
abbrev pub and_then : {A B : Type 0} → Option A → (A → Option B) → Option B
and_then None f = None
and_then (Some x) f = f x
