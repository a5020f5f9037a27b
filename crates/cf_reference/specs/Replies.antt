use Rattle.std.specs.Prelude.{ℕ, ℤ, Bool, List, [], ◌∷◌, ◌++◌, map, decimal, codes}
use Rattle.std.specs.Fmt.{signed_decimal}
use Rattle.std.specs.List.{join_with_byte}
use Rattle.cf_model.specs.Assignments.{digits_of}
use Rattle.cf_reference.specs.Bytes as byte

-- a line of words, with one blank between two of them
abbrev pub reply : List (List ℕ) → List ℕ
reply words = join_with_byte byte.space words ++ byte.newline ∷ []

abbrev pub value_reply : ℤ → List ℕ
value_reply v = reply (signed_decimal v ∷ [])

-- an assignment, as its bits
abbrev pub bits_reply : List Bool → List ℕ
bits_reply bits = reply (digits_of bits ∷ [])

-- no assignment was found
abbrev pub none_reply : List ℕ
none_reply = reply (codes "none" ∷ [])

abbrev pub equal_reply : List ℕ
equal_reply = reply (codes "equal" ∷ [])

-- an assignment at which two functions differ, with the first one's value and the second one's
abbrev pub different_reply : List Bool → ℤ → ℤ → List ℕ
different_reply bits v w = reply (codes "different" ∷ digits_of bits ∷ signed_decimal v ∷ signed_decimal w ∷ [])

-- a function's groupings on each level from 0 on, and its exits
abbrev pub size_reply : List ℕ → ℕ → List ℕ
size_reply counts exits = reply (codes "size" ∷ map decimal counts ++ codes "exits" ∷ decimal exits ∷ [])

-- how many names are bound, and the groupings on each level
abbrev pub stats_reply : ℕ → List ℕ → List ℕ
stats_reply names counts = reply (codes "stats" ∷ decimal names ∷ map decimal counts)

-- how many assignments were listed
abbrev pub listed_reply : ℕ → List ℕ
listed_reply n = reply (codes "listed" ∷ decimal n ∷ [])

-- the refusal of a line by a number; some refusals have words of detail
abbrev pub refusal : ℕ → ℕ → List (List ℕ) → List ℕ
refusal line number detail = reply (codes "refused" ∷ decimal line ∷ decimal number ∷ detail)

abbrev pub usage_reply : List ℕ
usage_reply = codes "usage: cflobdd run | gen N | check A B | dump FILE" ++ byte.newline ∷ []
