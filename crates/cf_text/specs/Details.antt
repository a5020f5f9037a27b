use Rattle.std.specs.Prelude.{ℕ, List, [], ◌∷◌, ◌++◌, decimal, codes}
use Rattle.std.specs.List.{join_with_byte}
use Rattle.cf_model.specs.Assignments.{bits, digits_of}
use Rattle.cf_reference.specs.Replies.{refusal}
use Rattle.cf_text.specs.declared.refusals.Detail.{Detail}
use Rattle.cf_text.specs.declared.refusals.Detail.TheVariants.{Nothing, At, One, Two, Named}

-- the words of a detail; behind those of `Named` a name follows
abbrev pub detail_words : Detail → List (List ℕ)
detail_words Nothing = []
detail_words (At at) = digits_of (bits at) ∷ []
detail_words (One n) = decimal n ∷ []
detail_words (Two m n) = decimal m ∷ decimal n ∷ []
detail_words (Named n) = decimal n ∷ []

-- The refusal with its detail. One with a name ends with a blank, where the name and the newline go.
abbrev pub refused_bytes : ℕ → ℕ → Detail → List ℕ
refused_bytes line number (Named n) =
    join_with_byte 32 (codes "refused" ∷ decimal line ∷ decimal number ∷ detail_words (Named n)) ++ 32 ∷ []
refused_bytes line number detail = refusal line number (detail_words detail)
