-- The reference run on worked scripts.
use Rattle.std.proofs.Common.{◌≡◌, List, length, true, [], ◌∷◌, ◌++◌, Some, None, refl}
use Rattle.std.specs.Prelude.{ℕ, codes, pos}
use Rattle.std.specs.Fmt.{digits}
use Rattle.cf_model.specs.Assignments.{all_bits}
use Rattle.cf_model.specs.Patterns.{cut_into, sub}
use Rattle.cf_model.specs.declared.terms.Word2.TheVariants.{And}
use Rattle.cf_reference.specs.Words.{before_comment, words, natural, number, place, is_name, is_bits}
use Rattle.cf_reference.specs.declared.grammar.Head.TheVariants.{Const, Fold}
use Rattle.cf_reference.specs.Heads.{head_of, variable_head, matrix_head}
use Rattle.cf_reference.specs.Trees.{Level, Let, At, Named, Call, none, more}
use Rattle.cf_reference.specs.Grammar.{keyword_of, leaf, atom_of}
use Rattle.cf_reference.specs.LineRefusals.{Malformed, Good}
use Rattle.cf_reference.specs.Parsing.{parse, is_deep, statement_at, readers}
use Rattle.cf_reference.specs.Calls.{Number, call_refusal}
use Rattle.cf_reference.specs.Expressions.{part, walk}
use Rattle.cf_reference.specs.Failures.{subexpressions, failure}
use Rattle.cf_reference.specs.States.{initial}
use Rattle.cf_reference.specs.Carrying.{set_level, declare, define, tell_value, tell_first, tell_list, tell_entry, tell_equal, tell_size, tell_stats}
use Rattle.cf_reference.specs.Scripts.{text_of, Done, Refused, Usage, carry, run_lines, ref}
use Rattle.cf_reference.specs.Lines.{lines}

-- the lines of a script, each ended by a newline
abbrev pub script : List (List ℕ) → List ℕ
script [] = []
script (line ∷ later) = line ++ 10 ∷ script later

unfoldable pub text : List (List ℕ) → List ℕ
unfolding digits all_bits lines before_comment words natural number place is_name is_bits head_of variable_head matrix_head keyword_of leaf atom_of is_deep statement_at readers walk part subexpressions failure set_level declare define tell_value tell_first tell_list tell_entry tell_equal tell_size tell_stats carry run_lines
text rows = (ref [] (codes "run" ∷ []) (script rows)).text

level_line : parse (codes "level 1") ≡ Good (Level (pos 1))
unfolding before_comment words keyword_of natural is_deep statement_at
level_line = refl

no_second_argument : parse (codes "let f = and(@0)") ≡ Malformed
unfolding before_comment words keyword_of head_of variable_head matrix_head leaf atom_of number place natural is_name is_deep statement_at readers
no_second_argument = refl

call_line : parse (codes "let f = and(a, @1)") ≡ Good (Let (codes "f") (Call (Fold And) (more (Named (codes "a")) (more (At (pos 1)) none))))
unfolding before_comment words keyword_of head_of variable_head matrix_head leaf atom_of number place natural is_name is_deep statement_at readers
call_line = refl

value_of_a_variable : text (codes "level 1" ∷ codes "let f = @0" ∷ codes "value f 10" ∷ []) ≡ codes "1" ++ 10 ∷ []
unfolding text
value_of_a_variable = refl

refused_at : text (codes "level 1" ∷ codes "let f = plus(170141183460469231731687303715884105727,@0)" ∷ []) ≡ codes "refused 2 14 10" ++ 10 ∷ []
unfolding text
refused_at = refl

-- functions that were built before keep their meaning
rebinding : text (codes "level 1" ∷ codes "let f = @0" ∷ codes "let g = not(f)" ∷ codes "let f = @1" ∷ codes "let h = not(@0)" ∷ codes "equal g h" ∷ codes "equal g f" ∷ []) ≡ codes "equal" ++ 10 ∷ codes "different 00 1 0" ++ 10 ∷ []
unfolding text
rebinding = refl

and_two : text (codes "level 1" ∷ codes "var a b" ∷ codes "let f = and(a,b)" ∷ codes "value f 11" ∷ codes "value f 10" ∷ codes "first f 1" ∷ codes "first f 2" ∷ codes "list f 0 2" ∷ []) ≡ script (codes "1" ∷ codes "0" ∷ codes "11" ∷ codes "none" ∷ codes "00" ∷ codes "01" ∷ codes "listed 2" ∷ [])
unfolding text
and_two = refl

sizes_of : text (codes "level 1" ∷ codes "var a b" ∷ codes "let f = and(a,b)" ∷ codes "size f" ∷ codes "stats" ∷ []) ≡ script (codes "size 2 1 exits 2" ∷ codes "stats 3 2 3 0 0 0 0 0 0" ∷ [])
unfolding text cut_into sub
sizes_of = refl

-- no name, and so no grouping
stats_of_nothing : text (codes "level 1" ∷ codes "stats" ∷ []) ≡ codes "stats 0 0 0 0 0 0 0 0 0" ++ 10 ∷ []
unfolding text
stats_of_nothing = refl

-- a level that is set is refused before its range
level_again : text (codes "level 1" ∷ codes "level 9" ∷ []) ≡ codes "refused 2 5" ++ 10 ∷ []
unfolding text
level_again = refl

highest_level : text (codes "level 7" ∷ codes "stats" ∷ []) ≡ codes "stats 0 0 0 0 0 0 0 0 0" ++ 10 ∷ []
unfolding text
highest_level = refl

bad_level : text (codes "level 8" ∷ []) ≡ codes "refused 1 10" ++ 10 ∷ []
unfolding text
bad_level = refl

no_level : text (codes "# nothing" ∷ codes "stats" ∷ []) ≡ codes "refused 2 4" ++ 10 ∷ []
unfolding text
no_level = refl

twice_declared : text (codes "level 1" ∷ codes "var a a" ∷ []) ≡ codes "refused 2 7" ++ 10 ∷ []
unfolding text
twice_declared = refl

-- names are tested before their number
taken_first : text (codes "level 1" ∷ codes "var a b c a" ∷ []) ≡ codes "refused 2 7" ++ 10 ∷ []
unfolding text
taken_first = refl

too_many : text (codes "level 1" ∷ codes "var a b c" ∷ []) ≡ codes "refused 2 8" ++ 10 ∷ []
unfolding text
too_many = refl

taken_by_a_function : text (codes "level 1" ∷ codes "let f = @0" ∷ codes "var f" ∷ []) ≡ codes "refused 3 7" ++ 10 ∷ []
unfolding text
taken_by_a_function = refl

taken_by_a_variable : text (codes "level 1" ∷ codes "var a" ∷ codes "let a = @5" ∷ []) ≡ codes "refused 3 7" ++ 10 ∷ []
unfolding text
taken_by_a_variable = refl

out_of_range : text (codes "level 1" ∷ codes "let f = @2" ∷ []) ≡ codes "refused 2 11" ++ 10 ∷ []
unfolding text
out_of_range = refl

-- the arguments are walked before a call's own rule
no_name : text (codes "level 1" ∷ codes "let f = and(@0, g)" ∷ []) ≡ codes "refused 2 6" ++ 10 ∷ []
unfolding text
no_name = refl

-- the levels of a fold are tested once, after all its arguments
levels_differ : text (codes "level 1" ∷ codes "let f = plus(const(0,1), @0, g)" ∷ []) ≡ codes "refused 2 6" ++ 10 ∷ []
unfolding text
levels_differ = refl

levels_differ_last : text (codes "level 1" ∷ codes "let f = plus(const(0,1), @0)" ∷ []) ≡ codes "refused 2 9" ++ 10 ∷ []
unfolding text
levels_differ_last = refl

short_bits : text (codes "level 1" ∷ codes "let f = @0" ∷ codes "value f 1" ∷ []) ≡ codes "refused 3 11" ++ 10 ∷ []
unfolding text
short_bits = refl

malformed : text (codes "level 1" ∷ codes "let f = and(@0)" ∷ []) ≡ codes "refused 2 1" ++ 10 ∷ []
unfolding text
malformed = refl

wide_number : text (codes "level 1" ∷ codes "let f = @170141183460469231731687303715884105728" ∷ []) ≡ codes "refused 2 12" ++ 10 ∷ []
unfolding text
wide_number = refl

-- an overflow has the level of the subexpression that fails
own_level : text (codes "level 1" ∷ codes "let z = const(0,-170141183460469231731687303715884105728)" ∷ codes "let f = neg(z)" ∷ []) ≡ codes "refused 3 14 0" ++ 10 ∷ []
unfolding text
own_level = refl

-- A fold's step comes before the arguments behind it: the first two fail at 10, the third at 01.
step_before_argument : text (codes "level 1" ∷ codes "let f = plus(170141183460469231731687303715884105727,@0,plus(170141183460469231731687303715884105727,@1))" ∷ []) ≡ codes "refused 2 14 10" ++ 10 ∷ []
unfolding text
step_before_argument = refl

-- what fails in an argument comes before what fails in a later one, and not the least of all
argument_before_argument : text (codes "level 1" ∷ codes "let f = plus(plus(170141183460469231731687303715884105727,@0),plus(170141183460469231731687303715884105727,@1))" ∷ []) ≡ codes "refused 2 14 10" ++ 10 ∷ []
unfolding text
argument_before_argument = refl

-- the first argument less the second
minus_in_order : text (codes "level 1" ∷ codes "let f = minus(@0,@1)" ∷ codes "value f 10" ∷ codes "value f 01" ∷ []) ≡ script (codes "1" ∷ codes "-1" ∷ [])
unfolding text
minus_in_order = refl

-- a fold's steps come one by one
step_by_step : text (codes "level 0" ∷ codes "let f = plus(170141183460469231731687303715884105727,@0,-1)" ∷ []) ≡ codes "refused 2 14 1" ++ 10 ∷ []
unfolding text
step_by_step = refl

twice_later : text (codes "level 1" ∷ codes "var a b b" ∷ []) ≡ codes "refused 2 7" ++ 10 ∷ []
unfolding text
twice_later = refl

-- `list` is asked for 1 to 1000 lines
no_lines : text (codes "level 0" ∷ codes "let f = @0" ∷ codes "list f 1 0" ∷ []) ≡ codes "refused 3 11" ++ 10 ∷ []
unfolding text
no_lines = refl

-- a name that stands for nothing is refused before the number of lines
no_name_to_list : text (codes "level 0" ∷ codes "list g 1 0" ∷ []) ≡ codes "refused 2 6" ++ 10 ∷ []
unfolding text
no_name_to_list = refl

too_many_lines : text (codes "level 0" ∷ codes "let f = @0" ∷ codes "list f 1 1001" ∷ [])
    ≡ codes "refused 3 11" ++ 10 ∷ []
unfolding text
too_many_lines = refl

most_lines : text (codes "level 0" ∷ codes "let f = @0" ∷ codes "list f 1 1000" ∷ [])
    ≡ script (codes "1" ∷ codes "listed 1" ∷ [])
unfolding text
most_lines = refl

-- a function has a level of its own
own_levels : text (codes "level 1" ∷ codes "let z = const(0,7)" ∷ codes "value z 1" ∷ codes "let f = @0" ∷ codes "equal z f" ∷ [])
    ≡ script (codes "7" ∷ codes "refused 5 9" ∷ [])
unfolding text
own_levels = refl

second_name : text (codes "level 1" ∷ codes "let f = @0" ∷ codes "equal f g" ∷ []) ≡ codes "refused 3 6" ++ 10 ∷ []
unfolding text
second_name = refl

const_level : text (codes "level 1" ∷ codes "let f = const(8,1)" ∷ []) ≡ codes "refused 2 10" ++ 10 ∷ []
unfolding text
const_level = refl

const_of_7 : call_refusal Const (Number (pos 7) ∷ Number (pos 1) ∷ []) ≡ None
const_of_7 = refl

choice : text (codes "level 1" ∷ codes "let f = ite(@0, 5, @1)" ∷ codes "list f 5 4" ∷ codes "equal f @0" ∷ [])
    ≡ script (codes "10" ∷ codes "11" ∷ codes "listed 2" ∷ codes "refused 4 1" ∷ [])
unfolding text
choice = refl

-- sixty-five open parentheses
deep_line : text (codes "(((((((((((((((((((((((((((((((((((((((((((((((((((((((((((((((((" ∷ [])
    ≡ codes "refused 1 13" ++ 10 ∷ []
unfolding text
deep_line = refl

sixth_of_eight : text (codes "level 3" ∷ codes "let f = @5" ∷ codes "size f" ∷ [])
    ≡ codes "size 2 2 2 1 exits 2" ++ 10 ∷ []
unfolding text cut_into sub
sixth_of_eight = refl

-- a line that is too long, and a script that is
long_line : (bytes : List ℕ) → length bytes ≡ 65537 → text_of 1 (carry [] initial 0 (record { bytes = bytes; newline = true })) ≡ codes "refused 1 2" ++ 10 ∷ []
unfolding digits carry
long_line bytes h = rw h refl

long_script : text_of 2 (carry [] initial 1073741823 (record { bytes = codes "a"; newline = true })) ≡ codes "refused 2 3" ++ 10 ∷ []
unfolding digits carry
long_script = refl

other_words : (ref [] (codes "run" ∷ codes "extra" ∷ []) []).close ≡ Usage
other_words = refl

-- a last line without a newline is carried out, and its refusal ends the run
read_to_its_end : ref [] (codes "run" ∷ []) (codes "level 0" ++ 10 ∷ codes "value f 0")
    ≡ record { text = codes "refused 2 6" ++ 10 ∷ []; close = Refused; state = record initial { level = Some 0 }; read = 17 }
unfolding text
read_to_its_end = refl

done_at_the_end : (ref [] (codes "run" ∷ []) (codes "level 0" ++ 10 ∷ [])).close ≡ Done
unfolding text
done_at_the_end = refl
