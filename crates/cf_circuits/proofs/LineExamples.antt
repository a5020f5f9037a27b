-- Lines, words and the facts about lines before a line, on worked examples.
use Rattle.std.proofs.Common.{ℕ, ◌≡◌, true, false, List, [], ◌∷◌, Some, None, refl}
use Rattle.std.specs.Prelude.{codes}
use Rattle.cf_circuits.specs.declared.gates.Cell.TheVariants as cell
use Rattle.cf_circuits.specs.declared.faults.BlifWhy.TheVariants as why
use Rattle.cf_circuits.specs.declared.kinds.Kind.TheVariants as kind
use Rattle.cf_circuits.specs.LogicalLines.{Line, physical, before_comment, continues, blanked, texts, words, logical}
use Rattle.cf_circuits.specs.Kinds.{kind_of_word, formal_of, actual_of}
use Rattle.cf_circuits.specs.Causes.{is_inside, model_names, last_dotted, first_behind, covers, same_output, is_called, cause}
use Rattle.cf_circuits.specs.Netlists.{cover_lines, plane_of, on_of, body}

physical_lines : physical (codes "a\n\nb") ≡ codes "a" ∷ [] ∷ codes "b" ∷ []
unfolding physical
physical_lines = refl

-- a newline at the end begins no line
last_newline : physical (codes "a\n") ≡ codes "a" ∷ []
unfolding physical
last_newline = refl

first_hash : before_comment (codes "a b#c#d") ≡ codes "a b"
unfolding before_comment
first_hash = refl

backslash_and_blanks : continues (codes "a \\ \t\r") ≡ true
unfolding continues
backslash_and_blanks = refl

backslash_and_word : continues (codes "a \\ b") ≡ false
unfolding continues
backslash_and_word = refl

backslash_blanked : blanked (codes "a\\ ") ≡ codes "a  "
unfolding blanked
backslash_blanked = refl

three_words : words (codes " a\tbb\rc ") ≡ codes "a" ∷ codes "bb" ∷ codes "c" ∷ []
unfolding words
three_words = refl

-- a vertical tab is no blank
vertical_tab : words (97 ∷ 11 ∷ 98 ∷ []) ≡ (97 ∷ 11 ∷ 98 ∷ []) ∷ []
unfolding words
vertical_tab = refl

word_names : kind_of_word (codes ".names") ≡ kind.Gate
unfolding kind_of_word
word_names = refl

-- a word is known whole
word_longer : kind_of_word (codes ".namesx") ≡ kind.Unknown
unfolding kind_of_word
word_longer = refl

word_param : kind_of_word (codes ".param") ≡ kind.Ignored
unfolding kind_of_word
word_param = refl

-- a dot inside a word is a byte like others
word_with_dot : kind_of_word (codes "a.b") ≡ kind.Cover
unfolding kind_of_word
word_with_dot = refl

-- a pair is cut at its first equals sign
formal_first : formal_of (codes "a=b=c") ≡ codes "a"
unfolding formal_of
formal_first = refl

actual_rest : actual_of (codes "a=b=c") ≡ codes "b=c"
unfolding actual_of
actual_rest = refl

-- the lines of a text
abbrev lines : List ℕ → List Line
unfolding physical before_comment continues blanked texts words
lines bytes = logical bytes

abbrev line : ℕ → List (List ℕ) → Line
line number ws = record { number = number; words = ws }

inside_open : is_inside (lines (codes ".model m\n.names y\n")) ≡ true
unfolding lines kind_of_word
inside_open = refl

inside_ended : is_inside (lines (codes ".model m\n.end\n")) ≡ false
unfolding lines kind_of_word
inside_ended = refl

-- the next model begins without an end before it
inside_again : is_inside (lines (codes ".model m\n.end\n.model n\n")) ≡ true
unfolding lines kind_of_word
inside_again = refl

two_names : model_names (lines (codes ".model m\n.names y\n.model n\n")) ≡ codes "m" ∷ codes "n" ∷ []
unfolding lines kind_of_word
two_names = refl

dotted_gate : last_dotted (lines (codes ".model m\n.names y\n1\n")) ≡ Some (line 2 (codes ".names" ∷ codes "y" ∷ []))
unfolding lines kind_of_word
dotted_gate = refl

dotted_none : last_dotted (lines (codes "1\n")) ≡ None
unfolding lines kind_of_word
dotted_none = refl

-- the first one, not the last
behind_first : first_behind (lines (codes ".names y\n1\n0\n")) ≡ Some (line 2 (codes "1" ∷ []))
unfolding lines kind_of_word
behind_first = refl

behind_none : first_behind (lines (codes "1\n.names y\n")) ≡ None
unfolding lines kind_of_word
behind_none = refl

cover_of_two : covers 2 (codes "1-" ∷ codes "0" ∷ []) ≡ true
cover_of_two = refl

cover_of_none : covers 0 (codes "1" ∷ []) ≡ true
cover_of_none = refl

cover_too_long : covers 1 (codes "1-" ∷ codes "0" ∷ []) ≡ false
cover_too_long = refl

cover_without_cells : covers 1 (codes "1" ∷ []) ≡ false
cover_without_cells = refl

outputs_differ : same_output (Some (line 3 (codes "1" ∷ codes "1" ∷ []))) (codes "0" ∷ codes "0" ∷ []) ≡ false
outputs_differ = refl

called_with_pins : is_called (codes "n" ∷ codes "a=b" ∷ codes "c=b" ∷ []) ≡ true
unfolding formal_of actual_of
called_with_pins = refl

called_with_one_formal : is_called (codes "n" ∷ codes "a=b" ∷ codes "a=c" ∷ []) ≡ false
unfolding formal_of actual_of
called_with_one_formal = refl

-- outside a model a gate's first cause is that
gate_outside : cause [] (line 1 (codes ".names" ∷ [])) ≡ Some why.NotBlif
unfolding kind_of_word
gate_outside = refl

run_of_cover_lines : cover_lines (lines (codes "1\n0\n.names y\n1\n")) ≡ line 1 (codes "1" ∷ []) ∷ line 2 (codes "0" ∷ []) ∷ []
unfolding lines kind_of_word
run_of_cover_lines = refl

body_of_model : body (lines (codes ".names y\n.model n\n.names z\n")) ≡ line 1 (codes ".names" ∷ codes "y" ∷ []) ∷ []
unfolding lines kind_of_word
body_of_model = refl

plane_of_three : plane_of (codes "01-" ∷ codes "1" ∷ []) ≡ cell.Zero ∷ cell.One ∷ cell.Any ∷ []
plane_of_three = refl

-- a word alone is the output
plane_of_none : plane_of (codes "1" ∷ []) ≡ []
plane_of_none = refl

on_of_no_line : on_of [] ≡ true
on_of_no_line = refl

off_set : on_of (line 3 (codes "1" ∷ codes "0" ∷ []) ∷ []) ≡ false
off_set = refl
