use Rattle.std.proofs.Common.{◌≡◌, true, false, [], ◌∷◌, Some, None, refl, sym, inl, inr}
use Rattle.std.specs.Prelude.{codes}
use Rattle.std.specs.List.{repeat}
use Rattle.std.proofs.lemmas.Bool.{false≢true}
use Rattle.cf_model.specs.Assignments.{number_of, bits_of, bits, digit_of, digits_of, are_digits, bits_of_text, first_half, second_half, weave, row_of, column_of, unweave, bit_at, with_bit, is_less, IsLexBefore, all_bits}

-- the first bit is the highest: 100 has number 4, and 001 has number 1
number_of_100 : number_of (true ∷ false ∷ false ∷ []) ≡ 4
number_of_100 = refl

number_of_001 : number_of (false ∷ false ∷ true ∷ []) ≡ 1
number_of_001 = refl

bits_of_6 : bits_of 4 6 ≡ false ∷ true ∷ true ∷ false ∷ []
bits_of_6 = refl

-- one bit of the number 2 is its lowest, 0
bits_of_too_large : bits_of 1 2 ≡ false ∷ []
bits_of_too_large = refl

bits_of_word : bits (record { len = 2; number = 1 }) ≡ false ∷ true ∷ []
bits_of_word = refl

bits_of_full_word : bits (record { len = 3; number = 7 }) ≡ true ∷ true ∷ true ∷ []
bits_of_full_word = refl

digit_of_1 : digit_of true ≡ 49
digit_of_1 = refl

digit_of_0 : digit_of false ≡ 48
digit_of_0 = refl

digits_of_10 : digits_of (true ∷ false ∷ []) ≡ codes "10"
digits_of_10 = refl

digits_of_none : digits_of [] ≡ []
digits_of_none = refl

are_digits_011 : are_digits (codes "011") ≡ true
are_digits_011 = refl

are_digits_02 : are_digits (codes "02") ≡ false
are_digits_02 = refl

text_011 : bits_of_text (codes "011") ≡ Some (false ∷ true ∷ true ∷ [])
text_011 = refl

-- neither another byte nor an empty text spells bits
text_02 : bits_of_text (codes "02") ≡ None
text_02 = refl

text_empty : bits_of_text [] ≡ None
text_empty = refl

-- a text has 1 to 128 digits
text_1 : bits_of_text (codes "1") ≡ Some (true ∷ [])
text_1 = refl

text_of_128_digits : bits_of_text (repeat 64 (codes "01")) ≡ Some (repeat 64 (false ∷ true ∷ []))
text_of_128_digits = refl

text_of_129_digits : bits_of_text (repeat 43 (codes "011")) ≡ None
text_of_129_digits = refl

first_half_of_0110 : first_half (false ∷ true ∷ true ∷ false ∷ []) ≡ false ∷ true ∷ []
first_half_of_0110 = refl

second_half_of_0110 : second_half (false ∷ true ∷ true ∷ false ∷ []) ≡ true ∷ false ∷ []
second_half_of_0110 = refl

second_half_of_01 : second_half (false ∷ true ∷ []) ≡ true ∷ []
second_half_of_01 = refl

-- The row 11 and the column 00 are the assignment 1010. Its first half is 10 and no row index.
weave_11_00 : weave (true ∷ true ∷ []) (false ∷ false ∷ []) ≡ true ∷ false ∷ true ∷ false ∷ []
weave_11_00 = refl

half_of_1010 : first_half (true ∷ false ∷ true ∷ false ∷ []) ≡ true ∷ false ∷ []
half_of_1010 = refl

weave_0_1 : weave (false ∷ []) (true ∷ []) ≡ false ∷ true ∷ []
weave_0_1 = refl

unweave_1010 : unweave (true ∷ false ∷ true ∷ false ∷ []) ≡ (true ∷ true ∷ [], false ∷ false ∷ [])
unweave_1010 = refl

unweave_01 : unweave (false ∷ true ∷ []) ≡ (false ∷ [], true ∷ [])
unweave_01 = refl

row_of_0111 : row_of (false ∷ true ∷ true ∷ true ∷ []) ≡ false ∷ true ∷ []
row_of_0111 = refl

column_of_0111 : column_of (false ∷ true ∷ true ∷ true ∷ []) ≡ true ∷ true ∷ []
column_of_0111 = refl

row_of_01 : row_of (false ∷ true ∷ []) ≡ false ∷ []
row_of_01 = refl

column_of_01 : column_of (false ∷ true ∷ []) ≡ true ∷ []
column_of_01 = refl

bit_0_of_10 : bit_at (true ∷ false ∷ []) 0 ≡ true
bit_0_of_10 = refl

bit_1_of_10 : bit_at (true ∷ false ∷ []) 1 ≡ false
bit_1_of_10 = refl

-- past the last bit there is none that is 1
bit_past : bit_at (true ∷ []) 1 ≡ false
bit_past = refl

with_bit_0 : with_bit (false ∷ false ∷ []) 0 true ≡ true ∷ false ∷ []
with_bit_0 = refl

with_bit_1 : with_bit (false ∷ true ∷ []) 1 true ≡ false ∷ true ∷ []
with_bit_1 = refl

less_01_10 : is_less (false ∷ true ∷ []) (true ∷ false ∷ []) ≡ true
less_01_10 = refl

less_itself : is_less (true ∷ []) (true ∷ []) ≡ false
less_itself = refl

lex_01_10 : IsLexBefore (false ∷ true ∷ []) (true ∷ false ∷ [])
lex_01_10 = inl (refl, refl)

lex_10_11 : IsLexBefore (true ∷ false ∷ []) (true ∷ true ∷ [])
lex_10_11 = inr (refl, inl (refl, refl))

-- neither the greater one before the smaller, nor a list before itself
lex_not_11_10 : IsLexBefore (true ∷ true ∷ []) (true ∷ false ∷ []) → ⊥
lex_not_11_10 h = elim h [
  | inl e ↦ false≢true (sym e.0)
  | inr r ↦ elim r.1 [ inl e ↦ false≢true (sym e.0) | inr s ↦ false≢true (sym s.0) ]
]

lex_not_itself : IsLexBefore (true ∷ []) (true ∷ []) → ⊥
lex_not_itself h = elim h [ inl e ↦ false≢true (sym e.0) | inr r ↦ r.1 ]

-- a list comes before the lists that it begins
lex_front : IsLexBefore (true ∷ []) (true ∷ false ∷ [])
lex_front = inr (refl, tt)

-- lists of two lengths: 011 comes before 10, though its number is greater
lex_before_of_lengths : IsLexBefore (false ∷ true ∷ true ∷ []) (true ∷ false ∷ [])
lex_before_of_lengths = inl (refl, refl)

less_of_lengths : is_less (false ∷ true ∷ true ∷ []) (true ∷ false ∷ []) ≡ false
less_of_lengths = refl

all_of_one : all_bits 1 ≡ (false ∷ []) ∷ (true ∷ []) ∷ []
unfolding all_bits
all_of_one = refl

all_of_two : all_bits 2 ≡ (false ∷ false ∷ []) ∷ (false ∷ true ∷ []) ∷ (true ∷ false ∷ []) ∷ (true ∷ true ∷ []) ∷ []
unfolding all_bits
all_of_two = refl
