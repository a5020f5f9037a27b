use Rattle.std.proofs.Common.{◌≡◌, pos, true, false, [], ◌∷◌, refl}
use Rattle.cf_model.specs.Assignments.{all_bits}
use Rattle.cf_model.specs.FlatFunctions.{FlatFunction, variable}
use Rattle.cf_model.specs.Patterns.{Pattern, pattern_of, same_ranks, same_pattern, cut_into, rows, distinct_rows, a_pattern, b_patterns, return_lists, sub, subs, size_at, sizes, node_work, work_size}

-- the conjunction of two variables
abbrev p0001 : Pattern
p0001 = record { level = 1; ranks = 0 ∷ 0 ∷ 0 ∷ 1 ∷ [] }

-- functions with other values at the same places have one pattern
pattern_of_and : pattern_of (record { level = 1; values = pos 0 ∷ pos 0 ∷ pos 0 ∷ pos 1 ∷ [] }) ≡ p0001
pattern_of_and = refl

pattern_of_other_values : pattern_of (record { level = 1; values = pos 9 ∷ pos 9 ∷ pos 9 ∷ pos 4 ∷ [] }) ≡ p0001
pattern_of_other_values = refl

same_ranks_itself : same_ranks (0 ∷ 1 ∷ []) (0 ∷ 1 ∷ []) ≡ true
same_ranks_itself = refl

same_ranks_longer : same_ranks (0 ∷ 1 ∷ []) (0 ∷ 1 ∷ 0 ∷ []) ≡ false
same_ranks_longer = refl

same_pattern_itself : same_pattern p0001 p0001 ≡ true
same_pattern_itself = refl

-- the level belongs to a pattern
same_pattern_level : same_pattern (record { level = 0; ranks = 0 ∷ 1 ∷ [] }) (record { level = 1; ranks = 0 ∷ 1 ∷ [] }) ≡ false
same_pattern_level = refl

cut_into_two : cut_into 2 2 (0 ∷ 1 ∷ 2 ∷ 3 ∷ []) ≡ (0 ∷ 1 ∷ []) ∷ (2 ∷ 3 ∷ []) ∷ []
unfolding cut_into
cut_into_two = refl

cut_into_none : cut_into 0 2 (0 ∷ 1 ∷ []) ≡ []
unfolding cut_into
cut_into_none = refl

rows_0001 : rows 0 (0 ∷ 0 ∷ 0 ∷ 1 ∷ []) ≡ (0 ∷ 0 ∷ []) ∷ (0 ∷ 1 ∷ []) ∷ []
unfolding cut_into
rows_0001 = refl

rows_0110 : rows 0 (0 ∷ 1 ∷ 1 ∷ 0 ∷ []) ≡ (0 ∷ 1 ∷ []) ∷ (1 ∷ 0 ∷ []) ∷ []
unfolding cut_into
rows_0110 = refl

distinct_rows_0101 : distinct_rows 0 (0 ∷ 1 ∷ 0 ∷ 1 ∷ []) ≡ (0 ∷ 1 ∷ []) ∷ []
unfolding cut_into
distinct_rows_0101 = refl

-- Rows 0 1 and 1 0 are different, and have one B-pattern: their return lists tell them apart.
distinct_rows_0110 : distinct_rows 0 (0 ∷ 1 ∷ 1 ∷ 0 ∷ []) ≡ (0 ∷ 1 ∷ []) ∷ (1 ∷ 0 ∷ []) ∷ []
unfolding cut_into
distinct_rows_0110 = refl

a_pattern_0001 : a_pattern 0 (0 ∷ 0 ∷ 0 ∷ 1 ∷ []) ≡ 0 ∷ 1 ∷ []
unfolding cut_into
a_pattern_0001 = refl

a_pattern_0101 : a_pattern 0 (0 ∷ 1 ∷ 0 ∷ 1 ∷ []) ≡ 0 ∷ 0 ∷ []
unfolding cut_into
a_pattern_0101 = refl

b_patterns_0011 : b_patterns 0 (0 ∷ 0 ∷ 1 ∷ 1 ∷ []) ≡ (0 ∷ 0 ∷ []) ∷ (0 ∷ 0 ∷ []) ∷ []
unfolding cut_into
b_patterns_0011 = refl

b_patterns_0110 : b_patterns 0 (0 ∷ 1 ∷ 1 ∷ 0 ∷ []) ≡ (0 ∷ 1 ∷ []) ∷ (0 ∷ 1 ∷ []) ∷ []
unfolding cut_into
b_patterns_0110 = refl

return_lists_0011 : return_lists 0 (0 ∷ 0 ∷ 1 ∷ 1 ∷ []) ≡ (0 ∷ []) ∷ (1 ∷ []) ∷ []
unfolding cut_into
return_lists_0011 = refl

return_lists_0110 : return_lists 0 (0 ∷ 1 ∷ 1 ∷ 0 ∷ []) ≡ (0 ∷ 1 ∷ []) ∷ (1 ∷ 0 ∷ []) ∷ []
unfolding cut_into
return_lists_0110 = refl

sub_of_level_0 : sub 0 (0 ∷ 1 ∷ []) ≡ record { level = 0; ranks = 0 ∷ 1 ∷ [] } ∷ []
unfolding sub
sub_of_level_0 = refl

-- the A-pattern 01, and the B-patterns 00 and 01: 01 is listed twice
sub_0001 : sub 1 (0 ∷ 0 ∷ 0 ∷ 1 ∷ [])
    ≡ p0001 ∷ record { level = 0; ranks = 0 ∷ 1 ∷ [] } ∷ record { level = 0; ranks = 0 ∷ 0 ∷ [] } ∷ record { level = 0; ranks = 0 ∷ 1 ∷ [] } ∷ []
unfolding sub cut_into
sub_0001 = refl

subs_of_none : subs [] ≡ []
subs_of_none = refl

subs_of_two : subs (record { level = 0; ranks = 0 ∷ 0 ∷ [] } ∷ record { level = 0; ranks = 0 ∷ 1 ∷ [] } ∷ []) ≡ record { level = 0; ranks = 0 ∷ 0 ∷ [] } ∷ record { level = 0; ranks = 0 ∷ 1 ∷ [] } ∷ []
unfolding sub
subs_of_two = refl

size_at_0_of_0001 : size_at 0 (p0001 ∷ []) ≡ 2
unfolding sub cut_into
size_at_0_of_0001 = refl

size_at_1_of_0001 : size_at 1 (p0001 ∷ []) ≡ 1
unfolding sub cut_into
size_at_1_of_0001 = refl

sizes_0001 : sizes (p0001 ∷ []) ≡ 2 ∷ 1 ∷ 0 ∷ 0 ∷ 0 ∷ 0 ∷ 0 ∷ 0 ∷ []
unfolding sub cut_into
sizes_0001 = refl

-- a pattern counts once, however often it stands in the list
sizes_twice : sizes (p0001 ∷ p0001 ∷ []) ≡ 2 ∷ 1 ∷ 0 ∷ 0 ∷ 0 ∷ 0 ∷ 0 ∷ 0 ∷ []
unfolding sub cut_into
sizes_twice = refl

-- no function has no pattern
sizes_of_none : sizes [] ≡ 0 ∷ 0 ∷ 0 ∷ 0 ∷ 0 ∷ 0 ∷ 0 ∷ 0 ∷ []
sizes_of_none = refl

-- Level 2: rows have four entries. Those of this pattern are 0000, 0101, 0000 again and 1022.
abbrev of_level_2 : Pattern
of_level_2 = record { level = 2; ranks = 0 ∷ 0 ∷ 0 ∷ 0 ∷ 0 ∷ 1 ∷ 0 ∷ 1 ∷ 0 ∷ 0 ∷ 0 ∷ 0 ∷ 1 ∷ 0 ∷ 2 ∷ 2 ∷ [] }

abbrev with_three_values : FlatFunction
with_three_values = record {
  level = 2;
  values = pos 9 ∷ pos 9 ∷ pos 9 ∷ pos 9 ∷ pos 9 ∷ pos 4 ∷ pos 9 ∷ pos 4 ∷ pos 9 ∷ pos 9 ∷ pos 9 ∷ pos 9 ∷ pos 4 ∷ pos 9 ∷ pos 5 ∷ pos 5 ∷ [];
}

pattern_of_three_values : pattern_of with_three_values ≡ of_level_2
pattern_of_three_values = refl

rows_of_level_2 : rows 1 of_level_2.ranks ≡ (0 ∷ 0 ∷ 0 ∷ 0 ∷ []) ∷ (0 ∷ 1 ∷ 0 ∷ 1 ∷ []) ∷ (0 ∷ 0 ∷ 0 ∷ 0 ∷ []) ∷ (1 ∷ 0 ∷ 2 ∷ 2 ∷ []) ∷ []
unfolding cut_into
rows_of_level_2 = refl

a_pattern_of_level_2 : a_pattern 1 of_level_2.ranks ≡ 0 ∷ 1 ∷ 0 ∷ 2 ∷ []
unfolding cut_into
a_pattern_of_level_2 = refl

b_patterns_of_level_2 : b_patterns 1 of_level_2.ranks ≡ (0 ∷ 0 ∷ 0 ∷ 0 ∷ []) ∷ (0 ∷ 1 ∷ 0 ∷ 1 ∷ []) ∷ (0 ∷ 1 ∷ 2 ∷ 2 ∷ []) ∷ []
unfolding cut_into
b_patterns_of_level_2 = refl

return_lists_of_level_2 : return_lists 1 of_level_2.ranks ≡ (0 ∷ []) ∷ (0 ∷ 1 ∷ []) ∷ (1 ∷ 0 ∷ 2 ∷ []) ∷ []
unfolding cut_into
return_lists_of_level_2 = refl

-- on level 1 its A-pattern 0102 and its three B-patterns, on level 0 the patterns 00 and 01
sizes_of_level_2 : sizes (of_level_2 ∷ []) ≡ 2 ∷ 4 ∷ 1 ∷ 0 ∷ 0 ∷ 0 ∷ 0 ∷ 0 ∷ []
unfolding sub cut_into
sizes_of_level_2 = refl

-- 4 for the pattern, 3, 2, 2 and 3 for 0102, 0000, 0101 and 0122, and 1 for each of 00 and 01
work_size_of_level_2 : work_size of_level_2 ≡ 16
unfolding sub cut_into
work_size_of_level_2 = refl

-- variable 5 of the eight of level 3
sizes_variable_5 : sizes (pattern_of (variable 3 5) ∷ []) ≡ 2 ∷ 2 ∷ 2 ∷ 1 ∷ 0 ∷ 0 ∷ 0 ∷ 0 ∷ []
unfolding all_bits sub cut_into
sizes_variable_5 = refl

node_work_01 : node_work 0 (0 ∷ 1 ∷ []) ≡ 1
node_work_01 = refl

node_work_0001 : node_work 1 (0 ∷ 0 ∷ 0 ∷ 1 ∷ []) ≡ 3
unfolding cut_into
node_work_0001 = refl

-- 3 for 0001 and 1 for each of the two patterns of level 0
work_size_0001 : work_size p0001 ≡ 5
unfolding sub cut_into
work_size_0001 = refl

-- two rows are equal: 2 for 0101 and 1 for each of 00 and 01
work_size_0101 : work_size (record { level = 1; ranks = 0 ∷ 1 ∷ 0 ∷ 1 ∷ [] }) ≡ 4
unfolding sub cut_into
work_size_0101 = refl
