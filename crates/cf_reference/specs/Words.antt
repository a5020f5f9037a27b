use Rattle.std.specs.Prelude.{ℕ, ℤ, pos, neg_ℤ, ◌+◌, ◌-◌, ◌*◌, ◌==◌, ◌&&◌, ◌||◌, not, nat_le, Bool, false, List, [], ◌∷◌, length, fold, Option, Some, None, if◌then◌else◌}
use Rattle.std.specs.Char.{is_ascii_digit, is_ascii_alphabetic, is_ascii_graphic}
use Rattle.std.specs.List.{list_all}
use Rattle.std.specs.Option.{option_map}
use Rattle.cf_reference.specs.Bytes as byte

-- The words of a line, and what a word by itself is.

-- what stands before the first `#`
unfoldable pub before_comment : List ℕ → List ℕ
before_comment [] = []
before_comment (b ∷ rest) = if b == byte.hash then [] else b ∷ before_comment rest

-- a space, a tab or a carriage return
abbrev pub is_blank : ℕ → Bool
is_blank b = b == byte.space || (b == byte.tab || b == byte.carriage_return)

-- one of ( ) , =
abbrev pub is_sign : ℕ → Bool
is_sign b = b == byte.open_sign || (b == byte.close_sign || (b == byte.comma || b == byte.equals))

-- a byte of a run
abbrev pub runs : ℕ → Bool
runs b = not (is_blank b || is_sign b)

abbrev pub begins_run : List ℕ → Bool
begins_run [] = false
begins_run (b ∷ rest) = runs b

-- a byte before the first word, as its first byte
abbrev pub lengthen : ℕ → List (List ℕ) → List (List ℕ)
lengthen b [] = (b ∷ []) ∷ []
lengthen b (word ∷ more) = (b ∷ word) ∷ more

-- The words of a text: each sign is a word, and so is each longest run of bytes that are neither blanks nor signs.
unfoldable pub words : List ℕ → List (List ℕ)
words [] = []
words (b ∷ rest) =
    if is_blank b then words rest
    else if is_sign b then (b ∷ []) ∷ words rest
    else if begins_run rest then lengthen b (words rest)
    else (b ∷ []) ∷ words rest

abbrev pub begins_piece : List ℕ → Bool
begins_piece [] = false
begins_piece (b ∷ rest) = not (is_blank b)

-- The pieces of a text, which are cut at blanks alone: each longest run of bytes other than blanks.
unfoldable pub pieces : List ℕ → List (List ℕ)
pieces [] = []
pieces (b ∷ rest) =
    if is_blank b then pieces rest
    else if begins_piece rest then lengthen b (pieces rest)
    else (b ∷ []) ∷ pieces rest

-- the bytes behind a run
unfoldable pub behind_run : List ℕ → List ℕ
behind_run [] = []
behind_run (b ∷ rest) = if runs b then behind_run rest else b ∷ rest

-- The bytes behind the first word of a text; their words are the words behind it.
unfoldable pub behind_word : List ℕ → List ℕ
behind_word [] = []
behind_word (b ∷ rest) =
    if is_blank b then behind_word rest
    else if is_sign b then rest
    else behind_run rest

-- the words of a line, without its comment
abbrev pub words_of_line : List ℕ → List (List ℕ)
words_of_line line = words (before_comment line)

-- the signs, as words
abbrev pub open_sign : List ℕ
open_sign = byte.open_sign ∷ []

abbrev pub close_sign : List ℕ
close_sign = byte.close_sign ∷ []

abbrev pub comma : List ℕ
comma = byte.comma ∷ []

abbrev pub equals : List ℕ
equals = byte.equals ∷ []

abbrev pub decimal_value : List ℕ → ℕ
decimal_value digits = fold (λ n digit. 10 * n + (digit - byte.digit_0)) 0 digits

-- The number of a NATURAL, which is one digit or more; leading zeros are allowed.
unfoldable pub natural : List ℕ → Option ℤ
natural word = if nat_le 1 (length word) && list_all is_ascii_digit word then Some (pos (decimal_value word)) else None

-- the number of a NUMBER, which is a NATURAL or `-` and a NATURAL
unfoldable pub number : List ℕ → Option ℤ
number [] = None
number (b ∷ digits) = if b == byte.minus then option_map neg_ℤ (natural digits) else natural (b ∷ digits)

-- the position in `@` and a NATURAL
unfoldable pub place : List ℕ → Option ℤ
place [] = None
place (b ∷ digits) = if b == byte.at_sign then natural digits else None

-- the first byte of a NAME: a letter or `_`
abbrev pub begins_name : ℕ → Bool
begins_name b = is_ascii_alphabetic b || b == byte.underscore

-- a byte of a NAME behind its first one: from 33 to 126, other than ( ) , = # @
abbrev pub continues_name : ℕ → Bool
continues_name b = is_ascii_graphic b && not (is_sign b || (b == byte.hash || b == byte.at_sign))

-- a NAME
unfoldable pub is_name : List ℕ → Bool
is_name [] = false
is_name (b ∷ rest) = begins_name b && list_all continues_name rest

-- BITS: one digit or more, each 0 or 1
unfoldable pub is_bits : List ℕ → Bool
is_bits word = nat_le 1 (length word) && list_all (λ b. b == byte.digit_0 || b == byte.digit_1) word
