use Rattle.std.specs.Prelude.{◌≡◌, ℕ, zero, suc, ◌+◌, ◌*◌, ◌/◌, ◌%◌, ◌^◌, ◌==◌, ◌&&◌, ◌||◌, ◌⊎◌, nat_lt, nat_le, Bool, true, false, List, [], ◌∷◌, ◌++◌, length, map, fold, take, drop, slice_set, slice_index_or, Option, Some, None, if◌then◌else◌}
use Rattle.std.specs.List.{list_all}

-- An assignment of level k is a list of 2 ^ k bits, the first variable first. Its number reads the first bit
-- as the highest.
abbrev pub number_of : List Bool → ℕ
number_of bits = fold (λ n bit. 2 * n + (if bit then 1 else 0)) 0 bits

-- the k bits whose number is n, the highest first
abbrev pub bits_of : ℕ → ℕ → List Bool
bits_of zero n = []
bits_of (suc k) n = ((n / 2 ^ k) % 2 == 1) ∷ bits_of k n

-- an assignment as a machine word keeps it: how many bits, and their number
pub record Assignment : Type 0 where
  pub len : ℕ
  pub number : ℕ

-- the bits of such a word
abbrev pub bits : Assignment → List Bool
bits a = bits_of a.len a.number

-- a bit as a digit of a text, `0` or `1`
abbrev pub digit_of : Bool → ℕ
digit_of bit = if bit then 49 else 48

-- bits as the digits of a text
abbrev pub digits_of : List Bool → List ℕ
digits_of bits = map digit_of bits

-- whether each byte of a text is `0` or `1`
abbrev pub are_digits : List ℕ → Bool
are_digits text = list_all (λ b. b == 48 || b == 49) text

-- the bits that a text of 1 to 128 digits spells; any other text spells none
abbrev pub bits_of_text : List ℕ → Option (List Bool)
bits_of_text text =
    if nat_le 1 (length text) && nat_le (length text) 128 && are_digits text then Some (map (λ b. b == 49) text) else None

-- the first half of an assignment, which the callee of a grouping's A-connection reads
abbrev pub first_half : List Bool → List Bool
first_half bits = take (length bits / 2) bits

-- the second half, which the callees of its B-connections read
abbrev pub second_half : List Bool → List Bool
second_half bits = drop (length bits / 2) bits

-- A row index and a column index of equal length as one assignment: row bit 0, column bit 0, row bit 1, and so on.
abbrev pub weave : List Bool → List Bool → List Bool
weave [] col = []
weave (r ∷ row) [] = []
weave (r ∷ row) (c ∷ col) = r ∷ c ∷ weave row col

-- the row index of an assignment: every other bit, from the first
abbrev pub row_of : List Bool → List Bool
row_of [] = []
row_of (r ∷ []) = r ∷ []
row_of (r ∷ c ∷ more) = r ∷ row_of more

-- the column index of an assignment: every other bit, from the second
abbrev pub column_of : List Bool → List Bool
column_of [] = []
column_of (r ∷ []) = []
column_of (r ∷ c ∷ more) = c ∷ column_of more

-- the row index and the column index that an assignment weaves
abbrev pub unweave : List Bool → List Bool × List Bool
unweave bits = (row_of bits, column_of bits)

-- bit i of an assignment, bits being counted from 0
abbrev pub bit_at : List Bool → ℕ → Bool
bit_at bits i = slice_index_or bits i false

-- the assignment with bit i set to b
abbrev pub with_bit : List Bool → ℕ → Bool → List Bool
with_bit bits i b = slice_set bits i b

-- the order of assignments of one level: by their numbers
abbrev pub is_less : List Bool → List Bool → Bool
is_less xs ys = nat_lt (number_of xs) (number_of ys)

-- The lexicographic order: at the first place at which the lists differ, the first one has 0 and the second one 1; a list
-- comes before the lists that it begins.
abbrev pub IsLexBefore : List Bool → List Bool → Type 0
IsLexBefore xs [] = ⊥
IsLexBefore [] (y ∷ ys) = Unit {0}
IsLexBefore (x ∷ xs) (y ∷ ys) = ((x ≡ false) × (y ≡ true)) ⊎ ((x ≡ y) × IsLexBefore xs ys)

-- all lists of k bits, in the order of their numbers
unfoldable pub all_bits : ℕ → List (List Bool)
all_bits zero = [] ∷ []
all_bits (suc k) = map (λ bits. false ∷ bits) (all_bits k) ++ map (λ bits. true ∷ bits) (all_bits k)
