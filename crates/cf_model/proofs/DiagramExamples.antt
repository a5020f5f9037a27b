use Rattle.std.proofs.Common.{ℕ, List, length, ◌≡◌, zero, suc, ◌<◌, [], ◌∷◌, ◌++◌, get_or, refl, sym, ap, arith}
use Rattle.cf_model.specs.Patterns.{a_pattern, sub, cut_into}
use Rattle.cf_model.specs.Diagrams.{Levels, Connection, Node, no_connection, no_node, exit_at, connection_at, nodes, count, node, row, spell, pattern, all_returns, exits, IsGoodConnection, IsGoodNode, IsGood, Extends, with_node, HasPattern, HasPatterns}
use Rattle.cf_model.proofs.GoodnessFacts.{TwoBaseGroupings, ACalleesExist, MiddlesMatchExits, BCalleesExist, EntriesMatchExits, NoEntryTwice, FirstReach, NoEqualConnections, NoEqualNodes, broken_facts, good_from_tests}
use Rattle.std.specs.Prelude.{◌^◌}
use Rattle.std.specs.List.{repeat}
use Rattle.cf_model.proofs.Canonicity.{pattern_full}
use Rattle.cf_model.proofs.Callees.{a_law}
use Rattle.cf_model.proofs.Growing.{with_node_extends}

-- the places of the two groupings of level 0
abbrev pub dont_care : ℕ
dont_care = 0

abbrev pub fork : ℕ
fork = 1

abbrev pub to : ℕ → List ℕ → Connection
to callee returns = record { callee = callee; returns = returns }

abbrev pub grouping : ℕ → List Connection → Node
grouping a_callee connections = record { a_callee = a_callee; connections = connections }

-- a table of two levels
abbrev pub table : List Node → Levels
table level_1 = (no_node ∷ no_node ∷ []) ∷ level_1 ∷ []

-- Four groupings of level 1: the second variable, the first, their conjunction and their exclusive or.
abbrev pub second : Node
second = grouping dont_care (to fork (0 ∷ 1 ∷ []) ∷ [])

abbrev pub first : Node
first = grouping fork (to dont_care (0 ∷ []) ∷ to dont_care (1 ∷ []) ∷ [])

abbrev pub conjunction : Node
conjunction = grouping fork (to dont_care (0 ∷ []) ∷ to fork (0 ∷ 1 ∷ []) ∷ [])

abbrev pub exclusive_or : Node
exclusive_or = grouping fork (to fork (0 ∷ 1 ∷ []) ∷ to fork (1 ∷ 0 ∷ []) ∷ [])

abbrev pub four : Levels
four = table (second ∷ first ∷ conjunction ∷ exclusive_or ∷ [])

four_break_nothing : broken_facts four ≡ []
four_break_nothing = refl

four_are_good : IsGood four
four_are_good = good_from_tests four refl

pattern_of_second : pattern four 1 0 ≡ 0 ∷ 1 ∷ 0 ∷ 1 ∷ []
unfolding pattern
pattern_of_second = refl

pattern_of_first : pattern four 1 1 ≡ 0 ∷ 0 ∷ 1 ∷ 1 ∷ []
unfolding pattern
pattern_of_first = refl

pattern_of_conjunction : pattern four 1 2 ≡ 0 ∷ 0 ∷ 0 ∷ 1 ∷ []
unfolding pattern
pattern_of_conjunction = refl

pattern_of_exclusive_or : pattern four 1 3 ≡ 0 ∷ 1 ∷ 1 ∷ 0 ∷ []
unfolding pattern
pattern_of_exclusive_or = refl

pattern_of_dont_care : pattern four 0 dont_care ≡ 0 ∷ 0 ∷ []
unfolding pattern
pattern_of_dont_care = refl

pattern_of_fork : pattern four 0 fork ≡ 0 ∷ 1 ∷ []
unfolding pattern
pattern_of_fork = refl

-- A grouping of level 2 over the four: the conjunction leads 00, 01 and 10 to the first variable, and 11 to the exclusive
-- or, whose exits return to 1 and 2.
abbrev five : Levels
five = four ++ (grouping 2 (to 1 (0 ∷ 1 ∷ []) ∷ to 3 (1 ∷ 2 ∷ []) ∷ []) ∷ []) ∷ []

five_are_good : IsGood five
five_are_good = good_from_tests five refl

pattern_of_level_2 : pattern five 2 0 ≡ 0 ∷ 0 ∷ 1 ∷ 1 ∷ 0 ∷ 0 ∷ 1 ∷ 1 ∷ 0 ∷ 0 ∷ 1 ∷ 1 ∷ 1 ∷ 2 ∷ 2 ∷ 1 ∷ []
unfolding pattern
pattern_of_level_2 = refl

exits_of_level_2 : exits five 2 0 ≡ 3
exits_of_level_2 = refl

-- the words for the parts of a table
count_of_level_1 : count four 1 ≡ 4
count_of_level_1 = refl

count_past : count four 2 ≡ 0
count_past = refl

nodes_of_level_1 : nodes four 1 ≡ second ∷ first ∷ conjunction ∷ exclusive_or ∷ []
nodes_of_level_1 = refl

nodes_past : nodes four 2 ≡ []
nodes_past = refl

node_2 : node four 1 2 ≡ conjunction
node_2 = refl

node_past : node four 1 4 ≡ no_node
node_past = refl

connection_1 : connection_at conjunction.connections 1 ≡ to fork (0 ∷ 1 ∷ [])
connection_1 = refl

connection_past : connection_at conjunction.connections 2 ≡ no_connection
connection_past = refl

-- the callee's exit 0 returns to the outer exit 1
exit_at_0 : exit_at (to fork (1 ∷ 0 ∷ [])) 0 ≡ 1
exit_at_0 = refl

exit_at_1 : exit_at (to fork (1 ∷ 0 ∷ [])) 1 ≡ 0
exit_at_1 = refl

-- the entry at 0, and not the place at which 0 stands
exit_at_of_three : exit_at (to 0 (2 ∷ 0 ∷ 1 ∷ [])) 0 ≡ 2
exit_at_of_three = refl

-- a row is the callee's pattern, read through the return tuple
row_of_fork : row (pattern four 0) (to fork (1 ∷ 0 ∷ [])) ≡ 1 ∷ 0 ∷ []
unfolding pattern
row_of_fork = refl

row_of_dont_care : row (pattern four 0) (to dont_care (1 ∷ [])) ≡ 1 ∷ 1 ∷ []
unfolding pattern
row_of_dont_care = refl

spell_of_first : spell (pattern four 0) first ≡ 0 ∷ 0 ∷ 1 ∷ 1 ∷ []
unfolding pattern
spell_of_first = refl

spell_of_second : spell (pattern four 0) second ≡ 0 ∷ 1 ∷ 0 ∷ 1 ∷ []
unfolding pattern
spell_of_second = refl

returns_of_exclusive_or : all_returns exclusive_or.connections ≡ 0 ∷ 1 ∷ 1 ∷ 0 ∷ []
returns_of_exclusive_or = refl

returns_of_first : all_returns first.connections ≡ 0 ∷ 1 ∷ []
returns_of_first = refl

exits_of_conjunction : exits four 1 2 ≡ 2
exits_of_conjunction = refl

-- two exits and one middle vertex
exits_of_second : exits four 1 0 ≡ 2
exits_of_second = refl

middles_of_second : length second.connections ≡ 1
middles_of_second = refl

exits_of_dont_care : exits four 0 dont_care ≡ 1
exits_of_dont_care = refl

exits_of_fork : exits four 0 fork ≡ 2
exits_of_fork = refl

-- For each fact of goodness, a table that breaks it alone.
three_base_groupings : broken_facts ((no_node ∷ no_node ∷ no_node ∷ []) ∷ []) ≡ TwoBaseGroupings ∷ []
three_base_groupings = refl

-- the A-callee is at place 2 of level 0
no_such_a_callee : broken_facts (table (grouping 2 (to dont_care (0 ∷ []) ∷ to dont_care (1 ∷ []) ∷ []) ∷ [])) ≡ ACalleesExist ∷ []
no_such_a_callee = refl

-- FORK has two exits, and there is one middle vertex
middle_vertex_missing : broken_facts (table (grouping fork (to dont_care (0 ∷ []) ∷ []) ∷ [])) ≡ MiddlesMatchExits ∷ []
middle_vertex_missing = refl

no_such_b_callee : broken_facts (table (grouping dont_care (to 2 (0 ∷ 1 ∷ []) ∷ []) ∷ [])) ≡ BCalleesExist ∷ []
no_such_b_callee = refl

-- DONT_CARE has one exit, and its return tuple two entries
entry_too_many : broken_facts (table (grouping dont_care (to dont_care (0 ∷ 1 ∷ []) ∷ []) ∷ [])) ≡ EntriesMatchExits ∷ []
entry_too_many = refl

entry_twice : broken_facts (table (grouping dont_care (to fork (0 ∷ 0 ∷ []) ∷ []) ∷ [])) ≡ NoEntryTwice ∷ []
entry_twice = refl

-- exit 1 comes before exit 0
exits_out_of_order : broken_facts (table (grouping dont_care (to fork (1 ∷ 0 ∷ []) ∷ []) ∷ [])) ≡ FirstReach ∷ []
exits_out_of_order = refl

-- exit 1 is left out
exit_left_out : broken_facts (table (grouping dont_care (to fork (0 ∷ 2 ∷ []) ∷ []) ∷ [])) ≡ FirstReach ∷ []
exit_left_out = refl

-- two middle vertices that should be one
equal_connections : broken_facts (table (grouping fork (to dont_care (0 ∷ []) ∷ to dont_care (0 ∷ []) ∷ []) ∷ [])) ≡ NoEqualConnections ∷ []
equal_connections = refl

equal_nodes : broken_facts (table (first ∷ second ∷ first ∷ [])) ≡ NoEqualNodes ∷ []
equal_nodes = refl

-- goodness of one part
good_connection : IsGoodConnection 2 (exits four 0) (to fork (3 ∷ 5 ∷ []))
good_connection = record { callee_exists = omega arith; entries = refl; once = apart }
  where
    apart : (i j : ℕ) → i < 2 → j < 2 → exit_at (to fork (3 ∷ 5 ∷ [])) i ≡ exit_at (to fork (3 ∷ 5 ∷ [])) j → i ≡ j
    apart zero zero hi hj e = refl
    apart zero (suc zero) hi hj e = absurd (omega (arith, e))
    apart zero (suc (suc j)) hi hj e = absurd (omega (arith, hj))
    apart (suc zero) zero hi hj e = absurd (omega (arith, e))
    apart (suc zero) (suc zero) hi hj e = refl
    apart (suc zero) (suc (suc j)) hi hj e = absurd (omega (arith, hj))
    apart (suc (suc i)) j hi hj e = absurd (omega (arith, hi))

bad_connection : IsGoodConnection 2 (exits four 0) (to fork (3 ∷ [])) → ⊥
bad_connection g = omega (arith, g.entries)

good_node : IsGoodNode 2 (exits four 0) conjunction
good_node = four_are_good.good_nodes 0 2 (omega arith)

bad_node : IsGoodNode 2 (exits four 0) (grouping fork []) → ⊥
bad_node g = omega (arith, g.middles)

-- appending the conjunction to a table that has the two variables
variables_then_conjunction : with_node (table (second ∷ first ∷ [])) 1 conjunction ≡ table (second ∷ first ∷ conjunction ∷ [])
variables_then_conjunction = refl

appended_to_none : with_node (table []) 1 first ≡ table (first ∷ [])
appended_to_none = refl

more_extends : Extends (table (second ∷ first ∷ [])) (table (second ∷ first ∷ conjunction ∷ []))
more_extends = with_node_extends (table (second ∷ first ∷ [])) 1 conjunction (omega arith)

-- a table whose groupings moved extends nothing
moved_does_not_extend : Extends (table (second ∷ first ∷ [])) (table (first ∷ second ∷ [])) → ⊥
moved_does_not_extend x = omega (arith, ap (λ (n : Node). n.a_callee) (x.kept 1 0 (omega arith)))

four_have_0001 : HasPattern four (record { level = 1; ranks = 0 ∷ 0 ∷ 0 ∷ 1 ∷ [] })
unfolding pattern
four_have_0001 = (2, omega arith, refl)

four_have_01 : HasPattern four (record { level = 0; ranks = 0 ∷ 1 ∷ [] })
unfolding pattern
four_have_01 = (fork, omega arith, refl)

-- none of the four is the disjunction
four_lack_0111 : HasPattern four (record { level = 1; ranks = 0 ∷ 1 ∷ 1 ∷ 1 ∷ [] }) → ⊥
unfolding pattern
four_lack_0111 h = by h.0 h.1 h.2
  where
    by : (i : ℕ) → i < 4 → pattern four 1 i ≡ 0 ∷ 1 ∷ 1 ∷ 1 ∷ [] → ⊥
    by zero l e = omega (arith, ap (λ (ranks : List ℕ). get_or ranks 2 0) e)
    by (suc zero) l e = omega (arith, ap (λ (ranks : List ℕ). get_or ranks 1 0) e)
    by (suc (suc zero)) l e = omega (arith, ap (λ (ranks : List ℕ). get_or ranks 1 0) e)
    by (suc (suc (suc zero))) l e = omega (arith, ap (λ (ranks : List ℕ). get_or ranks 3 0) e)
    by (suc (suc (suc (suc i)))) l e = omega (arith, l)

-- a grouping of level 7: its pattern of 2^128 entries is never made
pattern_of_level_7 : (t : Levels) → IsGood t → (i : ℕ) → i < count t 7 → length (pattern t 7 i) ≡ 2 ^ 128
pattern_of_level_7 t g i h = pattern_full t g 7 i h

-- the constants of a level at place 0, and its first variable at place 1, over a level with the same two
abbrev pub constant_and_first : List Node
constant_and_first = grouping 0 (to 0 (0 ∷ []) ∷ []) ∷ grouping 1 (to 0 (0 ∷ []) ∷ to 0 (1 ∷ []) ∷ []) ∷ []

-- a table with these two groupings on each level
abbrev pub two_a_level : Levels
two_a_level = (no_node ∷ no_node ∷ []) ∷ repeat 7 (constant_and_first ∷ [])

two_a_level_are_good : IsGood two_a_level
two_a_level_are_good = good_from_tests two_a_level refl

-- The A-pattern of the first variable of level 7 is the first variable of level 6: its 2^64 rows are never made.
a_pattern_of_level_7 : a_pattern 6 (pattern two_a_level 7 1) ≡ pattern two_a_level 6 1
a_pattern_of_level_7 = sym (a_law two_a_level two_a_level_are_good 6 1 (omega arith))

four_have_its_parts : HasPatterns four (sub 1 (0 ∷ 0 ∷ 0 ∷ 1 ∷ []))
unfolding pattern sub cut_into
four_have_its_parts = (four_have_0001, ((1, omega arith, refl), ((0, omega arith, refl), ((1, omega arith, refl), tt))))
