use Rattle.std.specs.Prelude.{◌^◌, ℕ, ℤ, ◌&&◌, not, nat_lt, Bool, List}
use Rattle.std.specs.Bool.{beq}
use Rattle.std.specs.List.{list_all}
use Rattle.cf_model.specs.Assignments.{bit_at}
use Rattle.cf_model.specs.Terms.{truth}

-- whether both positions of a pair are those of variables of the level
abbrev pub is_pair : ℕ → ℕ × ℕ → Bool
is_pair level p = nat_lt p.0 (2 ^ level) && nat_lt p.1 (2 ^ level)

-- whether those of each pair are
abbrev pub are_pairs : ℕ → List (ℕ × ℕ) → Bool
are_pairs level pairs = list_all (is_pair level) pairs

-- whether the bits at a pair of positions are the same
abbrev pub is_same : List Bool → ℕ × ℕ → Bool
is_same bits p = beq (bit_at bits p.0) (bit_at bits p.1)

-- 1 where the bits at each pair of positions are the same, else 0
abbrev pub all_same : List (ℕ × ℕ) → List Bool → ℤ
all_same pairs bits = truth (list_all (is_same bits) pairs)

-- 0 where the bits at each pair of positions are the same, else 1
abbrev pub some_differ : List (ℕ × ℕ) → List Bool → ℤ
some_differ pairs bits = truth (not (list_all (is_same bits) pairs))
