use Rattle.std.specs.Prelude.{◌^◌, ℤ, Bool, false, List, Option, Some, None, filter}
use Rattle.std.specs.Ordering.{int_eq}
use Rattle.cf_model.specs.Assignments.{all_bits}
use Rattle.cf_model.specs.FlatFunctions.{FlatFunction, value_at}

-- whether there is a value, and it is v
abbrev pub is_value : ℤ → Option ℤ → Bool
is_value v None = false
is_value v (Some w) = int_eq w v

-- the assignments at which a flat function has the value v, in order of their numbers
abbrev pub assignments_of : FlatFunction → ℤ → List (List Bool)
assignments_of f v = filter (λ bits. is_value v (value_at f bits)) (all_bits (2 ^ f.level))
