use Rattle.std.specs.Prelude.{◌≡◌, ◌≤◌, ◌<◌, ℕ, zero, suc, ℤ, pos, if◌then◌else◌, ◌*◌, ◌^◌, Bool, List, length, map, Option, All, option_map, slice_get, position}
use Rattle.cf_model.specs.Assignments.{number_of, bits_of, bit_at, all_bits}
use Rattle.cf_model.specs.Values.{Fits}

-- how many assignments a level has: 2^(2^level), the points of its functions
abbrev pub points : ℕ → ℕ
points zero = 2
points (suc l) = points l * points l

-- An assignment of a level gives a bit to each of its 2^level variables.
abbrev pub IsAssignment : ℕ → List Bool → Type 0
IsAssignment level bits = length bits ≡ 2 ^ level

-- A flat function: a level, and the values at all its assignments in order of their numbers.
pub record FlatFunction : Type 0 where
  pub level : ℕ
  pub values : List ℤ

-- A level with a list is a flat function: the level is 0 to 7, there is a value for each assignment, and each fits.
pub record IsFlatFunction (f : FlatFunction) : Type 0 where
  pub level_in : f.level ≤ 7
  pub full : length f.values ≡ points f.level
  pub fit : All Fits f.values

-- the value at an assignment, which stands at the place of its number
abbrev pub value_at : FlatFunction → List Bool → Option ℤ
value_at f bits = slice_get f.values (number_of bits)

-- the flat function of a level whose value at each assignment is given
abbrev pub tabulated : ℕ → (List Bool → ℤ) → FlatFunction
tabulated level value = record { level = level; values = map value (all_bits (2 ^ level)) }

-- the variable at position i: it gives bit i
abbrev pub variable : ℕ → ℕ → FlatFunction
variable level i = tabulated level (λ bits. if bit_at bits i then pos 1 else pos 0)

-- The assignment is the least one of its level with the property: it has it, and no smaller one does.
pub record IsLeast (level : ℕ) (P : List Bool → Type 0) (bits : List Bool) : Type 0 where
  pub assigns : IsAssignment level bits
  pub has : P bits
  pub none_below : (other : List Bool) → IsAssignment level other → number_of other < number_of bits → P other → ⊥

-- the least assignment whose value passes a test, if one does
abbrev pub first_passing : (ℤ → Bool) → FlatFunction → Option (List Bool)
first_passing test f = option_map (bits_of (2 ^ f.level)) (position test f.values)
