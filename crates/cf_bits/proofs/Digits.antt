use Rattle.std.proofs.Common.{ℕ, ◌≡◌, ◌+◌, ◌<◌, ◌≤◌, ◌==◌, ◌∷◌, ◌++◌, [], Bool, true, false, List, Some, length, map, take, drop, set, slice_get, ap, sym, ◌∙◌, arith}
use Rattle.std.proofs.lemmas.List.{take_more, take_more_set, drop-set-lt, map-append}
use Rattle.std.proofs.lemmas.Option.{slice_get_within, get_or_from_slice_get}
use Rattle.std.proofs.lemmas.Grind.{drop_more_same}
use Rattle.std.proofs.lemmas.Bool.Decides.{nat_tests}
use Rattle.cf_model.specs.Assignments.{digit_of, digits_of, are_digits, bits_of_text}

-- one more digit at the end of those written
pub digits_more : (out : List ℕ) (bs : List Bool) (i at d : ℕ) (b : Bool) → at ≡ i → d ≡ digit_of b → i < length out → slice_get bs i ≡ Some b
    → take i out ≡ digits_of (take i bs) → take (i + 1) (set out at d) ≡ digits_of (take (i + 1) bs)
digits_more out bs i at d b place written within here so_far =
    ap (λ k. take (i + 1) (set out k d)) place
    ∙ take_more_set out i d within
    ∙ ap (λ ds. ds ++ d ∷ []) so_far
    ∙ ap (λ x. digits_of (take i bs) ++ x ∷ []) written
    ∙ sym (map-append digit_of (take i bs) (b ∷ []))
    ∙ ap digits_of (ap (λ c. take i bs ++ c ∷ []) (sym (get_or_from_slice_get bs i b b here)) ∙ sym (take_more bs i b (slice_get_within bs i b here)))

-- what lies behind the digits stays
pub rest_more : (out before : List ℕ) (i at d : ℕ) → at ≡ i → drop i out ≡ drop i before → drop (i + 1) (set out at d) ≡ drop (i + 1) before
rest_more out before i at d place so_far = drop-set-lt (i + 1) out at d (omega arith) ∙ drop_more_same out before i so_far

-- a text of 1 to 128 digits spells its bits
pub spelled : (text : List ℕ) → false ≡ (length text == 0) → length text ≤ 128 → true ≡ are_digits text → bits_of_text text ≡ Some (map (λ b. b == 49) text)
spelled text some most digits = grind (arith, nat_tests, digits)
