-- Logical lines and faults of BLIF texts on worked examples.
use Rattle.std.proofs.Common.{zero, suc, ◌≡◌, List, [], ◌∷◌, ◌++◌, Option, Some, None, refl}
use Rattle.std.specs.Prelude.{ℕ, codes}
use Rattle.cf_circuits.specs.declared.faults.BlifWhy.{BlifWhy}
use Rattle.cf_circuits.specs.declared.faults.BlifWhy.TheVariants as why
use Rattle.cf_circuits.specs.LogicalLines.{physical, before_comment, continues, blanked, texts, words, logical}
use Rattle.cf_circuits.specs.Kinds.{kind_of_word, formal_of, actual_of}
use Rattle.cf_circuits.specs.Causes.{Fault, first_fault, fault}

-- a text of lines, each ended by a newline
abbrev pub text : List (List ℕ) → List ℕ
text [] = []
text (line ∷ later) = line ++ 10 ∷ text later

abbrev fault_in : List (List ℕ) → Option Fault
unfolding physical before_comment continues blanked texts words kind_of_word formal_of actual_of first_fault
fault_in rows = fault (text rows)

abbrev at : ℕ → BlifWhy → Option Fault
at line cause = Some (record { line = line; why = cause })

-- numbers are those of the first physical lines, and a word may stand before the backslash
joined : logical (text (codes "# one" ∷ codes "a\\" ∷ codes "b\\\\ # two" ∷ [] ∷ codes "c\\d \\x # \\" ∷ codes " e\t\\\t" ∷ [])) ≡ record { number = 2; words = codes "a" ∷ codes "b\\" ∷ [] } ∷ record { number = 5; words = codes "c\\d" ∷ codes "\\x" ∷ [] } ∷ record { number = 6; words = codes "e" ∷ [] } ∷ []
unfolding physical before_comment continues blanked texts words kind_of_word formal_of actual_of
joined = refl

-- a cover of both outputs
mixed_cover : fault_in (codes ".model m" ∷ codes ".inputs a" ∷ codes ".outputs y" ∷ codes ".names a y" ∷ codes "1 1" ∷ codes "0 0" ∷ []) ≡ at 6 why.MixedCover
unfolding fault_in
mixed_cover = refl

-- a line of BLIF that this profile leaves out
latch : fault_in (codes ".model m" ∷ codes ".inputs d" ∷ codes ".outputs q" ∷ codes ".latch d q 0" ∷ []) ≡ at 4 why.Unsupported
unfolding fault_in
latch = refl

-- an output without a driver is no fault of a line
unlinked : fault_in (codes ".model m" ∷ codes ".inputs a" ∷ codes ".outputs y" ∷ codes ".end" ∷ []) ≡ None
unfolding fault_in
unlinked = refl

no_model_name : fault_in (codes ".model" ∷ []) ≡ at 1 why.NotBlif
unfolding fault_in
no_model_name = refl

two_model_names : fault_in (codes ".model a b" ∷ []) ≡ at 1 why.NotBlif
unfolding fault_in
two_model_names = refl

-- a model with an earlier one's name
same_name : fault_in (codes ".model m" ∷ codes ".end" ∷ codes ".model m" ∷ []) ≡ at 3 why.TwoModelsOneName
unfolding fault_in
same_name = refl

-- a line that has to stand inside a model
inputs_outside : fault_in (codes ".model m" ∷ codes ".end" ∷ codes ".inputs a" ∷ []) ≡ at 3 why.NotBlif
unfolding fault_in
inputs_outside = refl

outputs_outside : fault_in (codes ".outputs a" ∷ codes ".model m" ∷ []) ≡ at 1 why.NotBlif
unfolding fault_in
outputs_outside = refl

-- outside a model the first cause counts
names_outside : fault_in (codes ".names" ∷ []) ≡ at 1 why.NotBlif
unfolding fault_in
names_outside = refl

-- but an unknown word is unknown anywhere
unknown_outside : fault_in (codes ".latch" ∷ codes ".model m" ∷ []) ≡ at 1 why.Unsupported
unfolding fault_in
unknown_outside = refl

ignored_outside : fault_in (codes ".attr a" ∷ codes ".model m" ∷ []) ≡ None
unfolding fault_in
ignored_outside = refl

no_output : fault_in (codes ".model m" ∷ codes ".names" ∷ []) ≡ at 2 why.NoOutput
unfolding fault_in
no_output = refl

bad_cover : fault_in (codes ".model m" ∷ codes ".names a y" ∷ codes "11 1" ∷ []) ≡ at 3 why.BadCover
unfolding fault_in
bad_cover = refl

bad_cell : fault_in (codes ".model m" ∷ codes ".names a y" ∷ codes "2 1" ∷ []) ≡ at 3 why.BadCover
unfolding fault_in
bad_cell = refl

bad_output : fault_in (codes ".model m" ∷ codes ".names a y" ∷ codes "1 2" ∷ []) ≡ at 3 why.BadCover
unfolding fault_in
bad_output = refl

-- a bad cover line is bad before it is mixed
bad_and_mixed : fault_in (codes ".model m" ∷ codes ".names a y" ∷ codes "1 1" ∷ codes "11 0" ∷ []) ≡ at 4 why.BadCover
unfolding fault_in
bad_and_mixed = refl

cover_without_inputs : fault_in (codes ".model m" ∷ codes ".names y" ∷ codes "1 1" ∷ []) ≡ at 3 why.BadCover
unfolding fault_in
cover_without_inputs = refl

-- a cover line has to follow its gate
cover_after_inputs : fault_in (codes ".model m" ∷ codes ".names y" ∷ codes ".inputs a" ∷ codes "1" ∷ []) ≡ at 4 why.NotBlif
unfolding fault_in
cover_after_inputs = refl

cover_after_ignored : fault_in (codes ".model m" ∷ codes ".names y" ∷ codes ".attr a" ∷ codes "1" ∷ []) ≡ at 4 why.NotBlif
unfolding fault_in
cover_after_ignored = refl

-- lines without words don't part a gate from its cover
cover_after_empty : fault_in (codes ".model m" ∷ codes ".names y" ∷ codes "# none" ∷ codes "" ∷ codes "1" ∷ []) ≡ None
unfolding fault_in
cover_after_empty = refl

cover_first : fault_in (codes "1" ∷ []) ≡ at 1 why.NotBlif
unfolding fault_in
cover_first = refl

call_without_model : fault_in (codes ".model m" ∷ codes ".subckt" ∷ []) ≡ at 2 why.NotBlif
unfolding fault_in
call_without_model = refl

call_without_pins : fault_in (codes ".model m" ∷ codes ".subckt n" ∷ []) ≡ None
unfolding fault_in
call_without_pins = refl

pair_without_equals : fault_in (codes ".model m" ∷ codes ".subckt n ab" ∷ []) ≡ at 2 why.NotBlif
unfolding fault_in
pair_without_equals = refl

pair_without_formal : fault_in (codes ".model m" ∷ codes ".subckt n =b" ∷ []) ≡ at 2 why.NotBlif
unfolding fault_in
pair_without_formal = refl

pair_without_actual : fault_in (codes ".model m" ∷ codes ".subckt n a=" ∷ []) ≡ at 2 why.NotBlif
unfolding fault_in
pair_without_actual = refl

formal_twice : fault_in (codes ".model m" ∷ codes ".subckt n a=b c=d a=e" ∷ []) ≡ at 2 why.NotBlif
unfolding fault_in
formal_twice = refl

end_with_words : fault_in (codes ".model m" ∷ codes ".end m" ∷ []) ≡ at 2 why.NotBlif
unfolding fault_in
end_with_words = refl

end_twice : fault_in (codes ".model m" ∷ codes ".end" ∷ codes ".end" ∷ []) ≡ at 3 why.NotBlif
unfolding fault_in
end_twice = refl

-- without a model the text is refused at line 0
nothing : fault_in (codes "# nothing" ∷ []) ≡ at 0 why.NotBlif
unfolding fault_in
nothing = refl

-- a fault is told at the first physical line
told_at_first_line : fault_in (codes ".model m" ∷ codes ".subckt n \\" ∷ codes "a=b \\ # more follows" ∷ codes "a" ∷ []) ≡ at 2 why.NotBlif
unfolding fault_in
told_at_first_line = refl

-- a line of a backslash alone joins the empty line behind it
backslash_alone : fault_in (codes ".model m" ∷ codes "\\" ∷ codes "" ∷ codes ".end x" ∷ []) ≡ at 4 why.NotBlif
unfolding fault_in
backslash_alone = refl

-- a backslash inside a word is a byte like others
backslash_inside : fault_in (codes ".model m" ∷ codes ".names a\\b" ∷ codes "1" ∷ []) ≡ None
unfolding fault_in
backslash_inside = refl

-- at the end of the text a backslash joins nothing
backslash_at_end : fault_in (codes ".model m" ∷ codes ".end \\" ∷ []) ≡ None
unfolding fault_in
backslash_at_end = refl

-- so many words
abbrev many : ℕ → List ℕ → List ℕ
many zero word = []
many (suc n) word = word ++ many n word

wide_gate : fault_in (codes ".model m" ∷ (codes ".names" ++ many 257 (codes " a") ++ codes " y") ∷ []) ≡ at 2 why.WideGate
unfolding fault_in
wide_gate = refl

widest_gate : fault_in (codes ".model m" ∷ (codes ".names" ++ many 256 (codes " a") ++ codes " y") ∷ []) ≡ None
unfolding fault_in
widest_gate = refl
