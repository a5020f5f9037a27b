-- `load` on worked lines and circuits.
use Rattle.std.proofs.Common.{ℕ, ◌≡◌, List, length, [], ◌∷◌, ◌++◌, refl}
use Rattle.std.specs.Prelude.{codes}
use Rattle.std.specs.Fmt.{digits}
use Rattle.cf_model.specs.Assignments.{all_bits}
use Rattle.cf_model.specs.Patterns.{cut_into, sub}
use Rattle.cf_order.specs.Chains.{chains, total}
use Rattle.cf_circuits.specs.LogicalLines.{physical, before_comment as without_comment, continues, blanked, texts, words as circuit_words}
use Rattle.cf_circuits.specs.Kinds.{kind_of_word, formal_of, actual_of}
use Rattle.cf_circuits.specs.Causes.{first_fault}
use Rattle.cf_circuits.specs.Netlists.{models_of}
use Rattle.cf_circuits.specs.Expansions.{cval}
use Rattle.cf_reference.specs.Words.{before_comment, behind_run, behind_word, words, pieces, natural, number, place, is_name, is_bits}
use Rattle.cf_reference.specs.Heads.{head_of, variable_head, matrix_head}
use Rattle.cf_reference.specs.Trees.{Load}
use Rattle.cf_reference.specs.Grammar.{keyword_of, leaf, atom_of}
use Rattle.cf_reference.specs.LineRefusals.{Malformed, Good}
use Rattle.cf_reference.specs.Parsing.{parse, is_deep, statement_at, readers}
use Rattle.cf_reference.specs.Expressions.{part, walk}
use Rattle.cf_reference.specs.Failures.{subexpressions, failure}
use Rattle.cf_reference.specs.Reasons.{FileTooLarge}
use Rattle.cf_reference.specs.States.{State, Files}
use Rattle.cf_reference.specs.Carrying.{Refuses, load_bytes, load_circuit, set_level, declare, define, tell_value, tell_first, tell_list, tell_equal, tell_size, tell_stats}
use Rattle.cf_reference.specs.Scripts.{carry, run_lines, ref}
use Rattle.cf_reference.specs.Lines.{lines}

-- the name of a file is cut at blanks, and may have signs in it
signs_in_a_name : pieces (codes "  p (x=@y,z) ") ≡ codes "p" ∷ codes "(x=@y,z)" ∷ []
unfolding pieces
signs_in_a_name = refl

load_line : parse (codes "load c a/b.blif # a file") ≡ Good (Load (codes "c") (codes "a/b.blif"))
unfolding before_comment behind_run behind_word words pieces keyword_of is_name is_deep statement_at
load_line = refl

open_name : parse (codes "load p (x") ≡ Good (Load (codes "p") (codes "(x"))
unfolding before_comment behind_run behind_word words pieces keyword_of is_name is_deep statement_at
open_name = refl

-- a prefix is a name, and a blank stands behind it
no_blank : parse (codes "load p(x") ≡ Malformed
unfolding before_comment behind_run behind_word words pieces keyword_of is_name is_deep statement_at
no_blank = refl

no_blank_between : parse (codes "load p(x y") ≡ Malformed
unfolding before_comment behind_run behind_word words pieces keyword_of is_name is_deep statement_at
no_blank_between = refl

no_file_name : parse (codes "load p # x") ≡ Malformed
unfolding before_comment behind_run behind_word words pieces keyword_of is_name is_deep statement_at
no_file_name = refl

two_files : parse (codes "load p x y") ≡ Malformed
unfolding before_comment behind_run behind_word words pieces keyword_of is_name is_deep statement_at
two_files = refl

-- lines, each ended by a newline
abbrev rows : List (List ℕ) → List ℕ
rows [] = []
rows (line ∷ later) = line ++ 10 ∷ rows later

abbrev text : Files → List (List ℕ) → List ℕ
unfolding digits all_bits lines before_comment behind_run behind_word words pieces natural number place is_name is_bits head_of variable_head matrix_head keyword_of leaf atom_of is_deep statement_at readers walk part subexpressions failure set_level declare define load_circuit tell_value tell_first tell_list tell_equal tell_size tell_stats carry run_lines physical without_comment continues blanked texts circuit_words kind_of_word formal_of actual_of first_fault models_of cval chains total
text files script = (ref files (codes "run" ∷ []) (rows script)).text

-- A circuit of an inverter; a cover line with another output than the first; an output that nothing drives; two copies of one
-- model; an input that has the name of an output's function; and a ring.
abbrev circuits : Files
circuits =
    (codes "not.blif", rows (codes ".model m" ∷ codes ".inputs a" ∷ codes ".outputs y" ∷ codes ".names a y" ∷ codes "0 1" ∷ []))
    ∷ (codes "mixed.blif", rows (codes ".model m" ∷ codes ".inputs a" ∷ codes ".outputs y" ∷ codes ".names a y" ∷ codes "1 1" ∷ codes "0 0" ∷ []))
    ∷ (codes "undriven.blif", rows (codes ".model m" ∷ codes ".inputs a" ∷ codes ".outputs y" ∷ codes ".end" ∷ []))
    ∷ (codes "cross.blif", rows (codes ".model top" ∷ codes ".inputs a b" ∷ codes ".outputs p q p" ∷ codes ".subckt half x=a y=b z=p" ∷ codes ".subckt half x=b y=a z=q" ∷ codes ".end" ∷ codes ".model half" ∷ codes ".inputs x y" ∷ codes ".outputs z" ∷ codes ".names x y z" ∷ codes "10 1" ∷ codes ".end" ∷ []))
    ∷ (codes "own.blif", rows (codes ".model m" ∷ codes ".inputs c.y" ∷ codes ".outputs y" ∷ codes ".names c.y y" ∷ codes "0 1" ∷ []))
    ∷ (codes "ring.blif", rows (codes ".model m" ∷ codes ".outputs y" ∷ codes ".names y x" ∷ codes "1 1" ∷ codes ".names x y" ∷ codes "1 1" ∷ []))
    ∷ []

-- the input of the circuit becomes the second variable
inverter : text circuits (codes "level 1" ∷ codes "var b" ∷ codes "load c not.blif" ∷ codes "value c.y 10" ∷ codes "value c.y 11" ∷ codes "let f = not(a)" ∷ codes "equal f c.y" ∷ [])
    ≡ rows (codes "1" ∷ codes "0" ∷ codes "equal" ∷ [])
unfolding text
inverter = refl

-- an input that is a variable has that one's position
declared_input : text circuits (codes "level 1" ∷ codes "var a b" ∷ codes "load c not.blif" ∷ codes "value c.y 01" ∷ [])
    ≡ rows (codes "1" ∷ [])
unfolding text
declared_input = refl

-- a circuit may be loaded again, and its functions are bound anew
loaded_twice : text circuits (codes "level 0" ∷ codes "let c.y = 7" ∷ codes "load c not.blif" ∷ codes "load c not.blif" ∷ codes "value c.y 0" ∷ [])
    ≡ rows (codes "1" ∷ [])
unfolding text
loaded_twice = refl

-- a model that is called twice, and an output that stands twice
copies : text circuits (codes "level 1" ∷ codes "load t cross.blif" ∷ codes "value t.p 10" ∷ codes "value t.q 10" ∷ codes "first t.q 1" ∷ codes "stats" ∷ [])
    ≡ rows (codes "1" ∷ codes "0" ∷ codes "01" ∷ codes "stats 4 2 4 0 0 0 0 0 0" ∷ [])
unfolding text cut_into sub
copies = refl

ring : text circuits (codes "level 0" ∷ codes "load t ring.blif" ∷ []) ≡ rows (codes "refused 2 18 9" ∷ [])
unfolding text
ring = refl

no_file : text circuits (codes "level 1" ∷ codes "load c gone.blif" ∷ []) ≡ rows (codes "refused 2 15" ∷ [])
unfolding text
no_file = refl

-- the line of the text and its cause, and the kind of the links' fault and its name
faulty_text : text circuits (codes "level 1" ∷ codes "load m mixed.blif" ∷ []) ≡ rows (codes "refused 2 17 6 4" ∷ [])
unfolding text
faulty_text = refl

faulty_links : text circuits (codes "level 1" ∷ codes "load m undriven.blif" ∷ []) ≡ rows (codes "refused 2 18 5 y" ∷ [])
unfolding text
faulty_links = refl

too_large : (s : State) (prefix bytes : List ℕ) → length bytes ≡ 8388609 → load_bytes s prefix bytes ≡ Refuses FileTooLarge
too_large s prefix bytes h = rw h refl

no_level : text circuits (codes "load c not.blif" ∷ []) ≡ rows (codes "refused 1 4" ∷ [])
unfolding text
no_level = refl

-- an input has the name of a function
input_taken : text circuits (codes "level 0" ∷ codes "let a = 1" ∷ codes "load c not.blif" ∷ []) ≡ rows (codes "refused 3 7" ∷ [])
unfolding text
input_taken = refl

-- no position is left for the input, which is tested before the output
no_position : text circuits (codes "level 0" ∷ codes "var c.y" ∷ codes "load c not.blif" ∷ []) ≡ rows (codes "refused 3 8" ∷ [])
unfolding text
no_position = refl

-- an output's function would have the name of a variable
output_taken : text circuits (codes "level 1" ∷ codes "var c.y" ∷ codes "load c not.blif" ∷ []) ≡ rows (codes "refused 3 7" ∷ [])
unfolding text
output_taken = refl

-- also that of a variable which this load would declare
own_input : text circuits (codes "level 1" ∷ codes "load c own.blif" ∷ []) ≡ rows (codes "refused 2 7" ∷ [])
unfolding text
own_input = refl
