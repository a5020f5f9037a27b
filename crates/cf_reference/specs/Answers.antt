use Rattle.std.specs.Prelude.{ℕ, ℤ, ◌+◌, ◌^◌, ◌==◌, not, Bool, List, [], ◌∷◌, ◌++◌, map, filter, take, length, flat_map, Option, Some, None}
use Rattle.std.specs.List.{find, range_with_len}
use Rattle.std.specs.Ordering.{int_eq}
use Rattle.cf_model.specs.Assignments.{all_bits}
use Rattle.cf_model.specs.FlatFunctions.{FlatFunction, variable, first_passing}
use Rattle.cf_model.specs.Patterns.{pattern_of, sizes}
use Rattle.cf_model.specs.Renumbering.{distinct}
use Rattle.cf_reference.specs.Replies.{bits_reply, none_reply, listed_reply, equal_reply, different_reply, size_reply, stats_reply}
use Rattle.cf_reference.specs.States.{State, level_in, at}
use Rattle.cf_reference.specs.Bytes as byte

-- What is answered of functions.

-- the bits that a text of digits 0 and 1 spells
abbrev pub spelled : List ℕ → List Bool
spelled text = map (λ b. b == byte.digit_1) text

abbrev pub found_reply : Option (List Bool) → List ℕ
found_reply None = none_reply
found_reply (Some bits) = bits_reply bits

-- the least assignment of a value
abbrev pub first_answer : FlatFunction → ℤ → List ℕ
first_answer f v = found_reply (first_passing (int_eq v) f)

-- the assignments of a value in order
abbrev pub assignments_of : FlatFunction → ℤ → List (List Bool)
assignments_of f v = filter (λ bits. int_eq v (at f bits)) (all_bits (2 ^ f.level))

abbrev pub list_reply : List (List Bool) → List ℕ
list_reply found = flat_map bits_reply found ++ listed_reply (length found)

-- the first of them, at most so many, and their number
abbrev pub list_answer : FlatFunction → ℤ → ℕ → List ℕ
list_answer f v most = list_reply (take most (assignments_of f v))

-- the least assignment at which two functions of one level differ
abbrev pub first_difference : FlatFunction → FlatFunction → Option (List Bool)
first_difference f g = find (λ bits. not (int_eq (at f bits) (at g bits))) (all_bits (2 ^ f.level))

abbrev pub equal_reply_at : FlatFunction → FlatFunction → Option (List Bool) → List ℕ
equal_reply_at f g None = equal_reply
equal_reply_at f g (Some bits) = different_reply bits (at f bits) (at g bits)

abbrev pub equal_answer : FlatFunction → FlatFunction → List ℕ
equal_answer f g = equal_reply_at f g (first_difference f g)

-- how many different patterns a function is made of, from level 0 to its own, and how many different values it has
abbrev pub size_answer : FlatFunction → List ℕ
size_answer f = size_reply (take (f.level + 1) (sizes (pattern_of f ∷ []))) (length (distinct int_eq f.values))

-- all variables, and all functions
abbrev pub functions_in : State → List FlatFunction
functions_in s = map (variable (level_in s)) (range_with_len 0 (length s.variables)) ++ map (λ binding. binding.1) s.functions

-- how many names are bound, and how many different patterns their functions are made of on each level
abbrev pub stats_answer : State → List ℕ
stats_answer s = stats_reply (length s.variables + length s.functions) (sizes (map pattern_of (functions_in s)))
