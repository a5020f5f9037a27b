-- The grammar on worked lines.
use Rattle.std.proofs.Common.{◌≡◌, ◌^◌, ◌∷◌, ◌++◌, [], true, false, refl, Some, None, arith}
use Rattle.std.specs.Prelude.{ℕ, List, codes, pos, negsuc}
use Rattle.std.specs.List.{repeat}
use Rattle.cf_model.specs.declared.terms.Word1.TheVariants.{Not, Neg}
use Rattle.cf_model.specs.declared.terms.Word2.TheVariants.{And, Or, Xor, Plus, Minus, Times, Min, Max, Eq, Lt}
use Rattle.cf_reference.specs.declared.grammar.Keyword.TheVariants as keyword
use Rattle.cf_reference.specs.Words.{before_comment, words, words_of_line, open_sign, close_sign, comma, natural, number, place, is_name, is_bits, behind_run, behind_word}
use Rattle.cf_reference.specs.declared.grammar.Head.TheVariants.{Const, One, Fold, Ite, Restrict, Exists, Forall, SumOut, Compose, AndExists, Kron, Matmul, Transpose, Id, Walsh, Unit}
use Rattle.cf_reference.specs.Heads.{AVariable, ABit, head_of, variable_head, matrix_head, takes}
use Rattle.cf_reference.specs.Trees.{Variable, Position, Number, Num, At, Named, Call, none, more, atom, depth, statement_fits, Empty, Level, Vars, Let, Value, First, Listed, Entry}
use Rattle.cf_reference.specs.Grammar.{keyword_of, leaf, atom_of, Spells}
use Rattle.cf_reference.specs.LineRefusals.{IsDeep, Good, Malformed, WideNumber, TooDeep}
use Rattle.cf_reference.specs.Parsing.{readers, statement_at, is_deep, parse}

-- blanks and a comment
blank_line : words_of_line (9 ∷ 32 ∷ codes "# level 1") ≡ []
unfolding before_comment words
blank_line = refl

empty_line : Spells (codes "  # nothing") Empty
unfolding before_comment words
empty_line = record { words = refl }

-- a word is as long as it can be, and each sign is a word
call_words : words_of_line (codes "let f=and (a,@1)") ≡ codes "let" ∷ codes "f" ∷ codes "=" ∷ codes "and" ∷ open_sign ∷ codes "a" ∷ comma ∷ codes "@1" ∷ close_sign ∷ []
unfolding before_comment words
call_words = refl

-- a vertical tab is no blank
vertical_tab : words (97 ∷ 11 ∷ 98 ∷ []) ≡ (97 ∷ 11 ∷ 98 ∷ []) ∷ []
unfolding words
vertical_tab = refl

-- a carriage return is one
carriage_return : words (codes "stats" ++ 13 ∷ []) ≡ codes "stats" ∷ []
unfolding words
carriage_return = refl

-- a name begins with a letter or `_`, and goes on with most signs
names : (is_name (codes "_1") ≡ true) × (is_name (codes "a-b+c'") ≡ true) × (is_name (codes "1a") ≡ false) × (is_name (codes "-a") ≡ false)
unfolding is_name
names = (refl, refl, refl, refl)

-- words that are none of the grammar's
no_leaves : (leaf (codes "1a") ≡ None) × (leaf (codes "@0x") ≡ None) × (leaf (codes "@0@1") ≡ None) × (leaf (codes "a@0") ≡ None) × (leaf (codes "-") ≡ None) × (leaf (97 ∷ 128 ∷ []) ≡ None)
unfolding leaf number place natural is_name
no_leaves = (refl, refl, refl, refl, refl, refl)

-- leading zeros are allowed, and numbers are of any size
leaves : (leaf (codes "-007") ≡ Some (Num (negsuc 6))) × (leaf (codes "-0") ≡ Some (Num (pos 0))) × (leaf (codes "@010") ≡ Some (At (pos 10))) × (leaf (codes "and") ≡ Some (Named (codes "and")))
unfolding leaf number place natural is_name
leaves = (refl, refl, refl, refl)

wide : (leaf (codes "170141183460469231731687303715884105728") ≡ Some (Num (pos 170141183460469231731687303715884105728))) × (statement_fits (Level (pos 170141183460469231731687303715884105728)) ≡ false)
unfolding leaf number natural
wide = (refl, refl)

-- numbers and BITS of more than 128 digits
long_words : (number (repeat 129 (codes "0") ++ codes "7") ≡ Some (pos 7)) × (is_bits (repeat 129 (codes "1")) ≡ true)
unfolding number natural is_bits
long_words = (refl, refl)

-- each number of a statement has to fit
wide_numbers : (statement_fits (First (codes "f") (pos (2 ^ 127))) ≡ false) × (statement_fits (Listed (codes "f") (pos (2 ^ 127)) (pos 1)) ≡ false) × (statement_fits (Listed (codes "f") (pos 1) (pos (2 ^ 127))) ≡ false)
wide_numbers = (refl, refl, refl)

no_bits : is_bits (codes "012") ≡ false
unfolding is_bits
no_bits = refl

-- keywords and call words are names
let_and : Spells (codes "let and = @0") (Let (codes "and") (At (pos 0)))
unfolding before_comment words keyword_of leaf number place natural is_name
let_and = record {
  words = (keyword.Let, refl, (codes "and", At (pos 0), codes "@0" ∷ [], refl, refl, record { word = codes "@0"; words = refl; alone = refl; is = refl }, refl));
}

abbrev const_words : List (List ℕ)
const_words = codes "const" ∷ open_sign ∷ codes "2" ∷ comma ∷ codes "-1" ∷ close_sign ∷ close_sign ∷ []

-- a blank may stand before `(`
let_call : Spells (codes "let f = not (const(2,-1))") (Let (codes "f") (Call (One Not) (more (Call Const (atom (Number (pos 2)) (atom (Number (negsuc 0)) none))) none)))
unfolding before_comment words keyword_of head_of variable_head matrix_head atom_of number natural is_name
let_call = record {
  words = (
    keyword.Let,
    refl,
    (
      codes "f",
      Call (One Not) (more (Call Const (atom (Number (pos 2)) (atom (Number (negsuc 0)) none))) none),
      codes "not" ∷ open_sign ∷ const_words,
      refl,
      refl,
      (
        const_words,
        record { word = codes "not"; words = refl; is = refl },
        refl,
        (
          refl,
          const_words,
          refl,
          close_sign ∷ [],
          (
            codes "2" ∷ comma ∷ codes "-1" ∷ close_sign ∷ close_sign ∷ [],
            record { word = codes "const"; words = refl; is = refl },
            refl,
            (
              comma ∷ codes "-1" ∷ close_sign ∷ close_sign ∷ [],
              record { word = codes "2"; words = refl; is = refl },
              (close_sign ∷ close_sign ∷ [], record { word = codes "-1"; words = refl; is = refl }, refl),
            ),
          ),
          refl,
        ),
      ),
      refl,
    ),
  );
}

-- a fold of one argument is none, and `minus` takes exactly two
arguments : (takes (Fold And) 1 ≡ false) × (takes (Fold And) 3 ≡ true) × (takes (Fold Minus) 3 ≡ false)
arguments = (refl, refl, refl)

two_arguments : (takes (Fold Eq) 2 ≡ true) × (takes (Fold Eq) 3 ≡ false) × (takes (Fold Lt) 2 ≡ true) × (takes (Fold Lt) 3 ≡ false)
two_arguments = (refl, refl, refl, refl)

other_arguments : (takes Const 1 ≡ false) × (takes (One Not) 2 ≡ false) × (takes Ite 2 ≡ false) × (takes Ite 3 ≡ true) × (takes Ite 4 ≡ false)
other_arguments = (refl, refl, refl, refl, refl)

-- one variable or more, and not none
variables_of : (takes Exists 1 ≡ false) × (takes Exists 2 ≡ true) × (takes SumOut 5 ≡ true) × (takes AndExists 2 ≡ false) × (takes AndExists 3 ≡ true)
variables_of = (refl, refl, refl, refl, refl)

three_alone : (takes Restrict 2 ≡ false) × (takes Restrict 3 ≡ true) × (takes Restrict 4 ≡ false) × (takes Compose 3 ≡ true) × (takes Compose 4 ≡ false)
three_alone = (refl, refl, refl, refl, refl)

-- a fold of any length is one call
one_call : depth (Call (Fold Plus) (more (Num (pos 1)) (more (Num (pos 2)) (more (Num (pos 3)) none)))) ≡ 1
one_call = refl

-- calls that stand inside one another count, and not calls beside one another
two_calls : depth (Call (Fold Plus) (more (Call (One Not) (more (At (pos 0)) none)) (more (Call (One Not) (more (At (pos 1)) none)) none))) ≡ 2
two_calls = refl

-- sixty-five open parentheses are too deep, whatever comes after them
too_deep : IsDeep (codes "(((((((((((((((((((((((((((((((((((((((((((((((((((((((((((((((((" ++ codes "))")
too_deep = (65, omega arith)

-- a `)` before them makes up for one
closed_before : parse (codes ")" ++ repeat 65 (codes "(")) ≡ Malformed
unfolding before_comment words is_deep statement_at keyword_of
closed_before = refl

-- whole lines
level_line : parse (codes "level 007 # seven") ≡ Good (Level (pos 7))
unfolding before_comment words is_deep statement_at keyword_of natural
level_line = refl

value_line : (parse (codes "value f 01") ≡ Good (Value (codes "f") (codes "01"))) × (parse (codes "value f 012") ≡ Malformed)
unfolding before_comment words is_deep statement_at keyword_of is_name is_bits
value_line = (refl, refl)

vars_line : (parse (codes "var a b") ≡ Good (Vars (codes "a" ∷ codes "b" ∷ []))) × (parse (codes "var a,b") ≡ Malformed) × (parse (codes "var") ≡ Malformed)
unfolding before_comment words is_deep statement_at keyword_of is_name
vars_line = (refl, refl, refl)

fold_line : parse (codes "let f = and(x,@1)") ≡ Good (Let (codes "f") (Call (Fold And) (more (Named (codes "x")) (more (At (pos 1)) none))))
unfolding before_comment words is_deep statement_at readers keyword_of head_of variable_head matrix_head leaf atom_of number place natural is_name
fold_line = refl

-- a fold of one argument, three arguments of `minus`, a word behind the expression, and a form that isn't built
malformed_lines : (parse (codes "let f = and(x)") ≡ Malformed) × (parse (codes "let f = minus(1,2,3)") ≡ Malformed) × (parse (codes "let f = x y") ≡ Malformed) × (parse (codes "let f = unless(x,y)") ≡ Malformed)
unfolding before_comment words is_deep statement_at readers keyword_of head_of variable_head matrix_head leaf atom_of number place natural is_name
malformed_lines = (refl, refl, refl, refl)

-- variables by their positions and names, each in its place
restrict_line : parse (codes "let f = restrict(x,@1,0)") ≡ Good (Let (codes "f") (Call Restrict (more (Named (codes "x")) (atom (Position (pos 1)) (atom (Number (pos 0)) none)))))
unfolding before_comment words is_deep statement_at readers keyword_of head_of variable_head matrix_head leaf atom_of number place natural is_name
restrict_line = refl

exists_line : parse (codes "let f = exists(x,a,@07)") ≡ Good (Let (codes "f") (Call Exists (more (Named (codes "x")) (atom (Variable (codes "a")) (atom (Position (pos 7)) none)))))
unfolding before_comment words is_deep statement_at readers keyword_of head_of variable_head matrix_head leaf atom_of number place natural is_name
exists_line = refl

compose_line : parse (codes "let f = compose(x,a,@1)") ≡ Good (Let (codes "f") (Call Compose (more (Named (codes "x")) (atom (Variable (codes "a")) (more (At (pos 1)) none)))))
unfolding before_comment words is_deep statement_at readers keyword_of head_of variable_head matrix_head leaf atom_of number place natural is_name
compose_line = refl

-- a bit of two digits, a number for a variable, and an expression for one
no_variables : (parse (codes "let f = restrict(x,a,01)") ≡ Malformed) × (parse (codes "let f = compose(x,1,y)") ≡ Malformed) × (parse (codes "let f = exists(x,not(a))") ≡ Malformed)
unfolding before_comment words is_deep statement_at readers keyword_of head_of variable_head matrix_head leaf atom_of number place natural is_name
no_variables = (refl, refl, refl)

unit_line : parse (codes "let f = unit(1,02,0)") ≡ Good (Let (codes "f") (Call Unit (atom (Number (pos 1)) (atom (Number (pos 2)) (atom (Number (pos 0)) none)))))
unfolding before_comment words is_deep statement_at readers keyword_of head_of variable_head matrix_head leaf atom_of number place natural is_name
unit_line = refl

entry_line : (parse (codes "entry f 1 007") ≡ Good (Entry (codes "f") (pos 1) (pos 7))) × (parse (codes "entry f 1") ≡ Malformed) × (parse (codes "entry f -1 0") ≡ Malformed)
unfolding before_comment words is_deep statement_at keyword_of number natural is_name
entry_line = (refl, refl, refl)

-- a number that doesn't fit yields to a line's form, and both yield to its parentheses
refused_lines : (parse (codes "level 170141183460469231731687303715884105728") ≡ WideNumber) × (parse (codes "level 170141183460469231731687303715884105728 7") ≡ Malformed)
    × (parse (codes "x ((((((((((((((((((((((((((((((((((((((((((((((((((((((((((((((((( 9") ≡ TooDeep)
    × (parse (codes "x (((((((((((((((((((((((((((((((((((((((((((((((((((((((((((((((( 9") ≡ Malformed)
unfolding before_comment words is_deep statement_at keyword_of natural
refused_lines = (refl, refl, refl, refl)

-- variables, by names and by positions, and bits
variables : (atom_of AVariable (codes "x") ≡ Some (Variable (codes "x"))) × (atom_of AVariable (codes "@1") ≡ Some (Position (pos 1))) × (atom_of AVariable (codes "1") ≡ None)
unfolding atom_of place natural is_name
variables = (refl, refl, refl)

bits_alone : (atom_of ABit (codes "1") ≡ Some (Number (pos 1))) × (atom_of ABit (codes "01") ≡ None)
unfolding atom_of
bits_alone = (refl, refl)

-- each word that calls
heads_of_one : (head_of (codes "not") ≡ Some (One Not)) × (head_of (codes "neg") ≡ Some (One Neg))
unfolding head_of variable_head matrix_head
heads_of_one = (refl, refl)

heads_of_truths : (head_of (codes "and") ≡ Some (Fold And)) × (head_of (codes "or") ≡ Some (Fold Or)) × (head_of (codes "xor") ≡ Some (Fold Xor))
unfolding head_of variable_head matrix_head
heads_of_truths = (refl, refl, refl)

heads_of_numbers : (head_of (codes "plus") ≡ Some (Fold Plus)) × (head_of (codes "minus") ≡ Some (Fold Minus)) × (head_of (codes "times") ≡ Some (Fold Times))
unfolding head_of variable_head matrix_head
heads_of_numbers = (refl, refl, refl)

heads_of_orders : (head_of (codes "min") ≡ Some (Fold Min)) × (head_of (codes "max") ≡ Some (Fold Max)) × (head_of (codes "eq") ≡ Some (Fold Eq)) × (head_of (codes "lt") ≡ Some (Fold Lt))
unfolding head_of variable_head matrix_head
heads_of_orders = (refl, refl, refl, refl)

heads_over_variables : (head_of (codes "restrict") ≡ Some Restrict) × (head_of (codes "exists") ≡ Some Exists) × (head_of (codes "forall") ≡ Some Forall) × (head_of (codes "sumout") ≡ Some SumOut)
unfolding head_of variable_head matrix_head
heads_over_variables = (refl, refl, refl, refl)

heads_of_two_functions : (head_of (codes "compose") ≡ Some Compose) × (head_of (codes "andexists") ≡ Some AndExists)
unfolding head_of variable_head matrix_head
heads_of_two_functions = (refl, refl)

heads_of_matrices : (head_of (codes "kron") ≡ Some Kron) × (head_of (codes "matmul") ≡ Some Matmul) × (head_of (codes "transpose") ≡ Some Transpose) × (head_of (codes "id") ≡ Some Id) × (head_of (codes "walsh") ≡ Some Walsh) × (head_of (codes "unit") ≡ Some Unit)
unfolding head_of variable_head matrix_head
heads_of_matrices = (refl, refl, refl, refl, refl, refl)

other_heads : (head_of (codes "const") ≡ Some Const) × (head_of (codes "ite") ≡ Some Ite)
unfolding head_of variable_head matrix_head
other_heads = (refl, refl)

-- a word that calls nothing
no_head : parse (codes "let f = unless(x,y,1)") ≡ Malformed
unfolding before_comment words is_deep statement_at readers keyword_of head_of variable_head matrix_head leaf atom_of number place natural is_name
no_head = refl

-- the bytes behind the first word, with the blanks before them
behind_a_word : behind_word (codes "  value f  10") ≡ codes " f  10"
unfolding behind_word behind_run
behind_a_word = refl

behind_a_sign : behind_word (codes "(a") ≡ codes "a"
unfolding behind_word behind_run
behind_a_sign = refl

behind_one_word : behind_word (codes "stats") ≡ []
unfolding behind_word behind_run
behind_one_word = refl
