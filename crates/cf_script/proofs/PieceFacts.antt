-- How a text's pieces stand to its first byte that is a blank, and to its first one that is none.
use Rattle.std.proofs.Common.{ℕ, suc, ◌≡◌, ◌<◌, ◌+◌, Bool, true, false, not, cond, List, [], ◌∷◌, take, drop, get_or, length, Some, None, refl, ap, sym, ◌∙◌, arith}
use Rattle.std.specs.Prelude.{position}
use Rattle.std.specs.List.{position_from}
use Rattle.std.proofs.lemmas.Iterator.Adapters.{position_from-zero}
use Rattle.cf_reference.specs.Words.{is_blank, lengthen, begins_piece, pieces}

abbrev is_visible : ℕ → Bool
is_visible b = not (is_blank b)

skipped : (text : List ℕ) (k place : ℕ) → position_from is_visible k text ≡ Some place
    → (start : ℕ) × (place ≡ k + start) × (pieces text ≡ pieces (drop start text))
unfolding pieces
skipped [] k place some = cc
skipped (b ∷ text) k place some = at (is_blank b) refl (skipped text (k + 1) place) some
  where
    at : (t : Bool) → is_blank b ≡ t
        → (position_from is_visible (k + 1) text ≡ Some place → (start : ℕ) × (place ≡ k + 1 + start) × (pieces text ≡ pieces (drop start text)))
        → cond (not t) (Some k) (position_from is_visible (k + 1) text) ≡ Some place
        → (start : ℕ) × (place ≡ k + start) × (pieces (b ∷ text) ≡ pieces (drop start (b ∷ text)))
    at true is later h = let v = later h in (suc v.0, omega (arith, v.1), rw is v.2)
    at false is later h = (0, omega (arith, let e : k ≡ place = cc in e), refl)

only_blanks : (text : List ℕ) (k : ℕ) → position_from is_visible k text ≡ None → pieces text ≡ []
unfolding pieces
only_blanks [] k none = refl
only_blanks (b ∷ text) k none = at (is_blank b) refl (only_blanks text (k + 1)) none
  where
    at : (t : Bool) → is_blank b ≡ t → (position_from is_visible (k + 1) text ≡ None → pieces text ≡ [])
        → cond (not t) (Some k) (position_from is_visible (k + 1) text) ≡ None → pieces (b ∷ text) ≡ []
    at true is later h = rw is (later h)
    at false is later h = cc

-- the blanks before the first piece
pub pieces-from : (text : List ℕ) (start : ℕ) → position is_visible text ≡ Some start → pieces text ≡ pieces (drop start text)
pieces-from text start some =
    let v = skipped text 0 start (sym (position_from-zero is_visible text) ∙ some) in
    let e : start ≡ v.0 = omega (arith, v.1) in
    rw e v.2

pub pieces-none : (text : List ℕ) → position is_visible text ≡ None → pieces text ≡ []
pieces-none text none = only_blanks text 0 (sym (position_from-zero is_visible text) ∙ none)

by_piece : (b : ℕ) (rest : List ℕ) → is_blank b ≡ false
    → pieces (b ∷ rest) ≡ cond (begins_piece rest) (lengthen b (pieces rest)) ((b ∷ []) ∷ pieces rest)
unfolding pieces
by_piece b rest visible = rw visible refl

piece_at : (b : ℕ) (rest : List ℕ) (k place : ℕ) → is_blank b ≡ false → position_from is_blank k rest ≡ Some place
    → (end : ℕ) × (place ≡ k + end) × (pieces (b ∷ rest) ≡ (b ∷ take end rest) ∷ pieces (drop end rest))
piece_at b [] k place visible some = cc
piece_at b (c ∷ rest) k place visible some = at (λ x. piece_at c rest (k + 1) place x) (is_blank c) refl some
  where
    at : (is_blank c ≡ false → position_from is_blank (k + 1) rest ≡ Some place → (end : ℕ) × (place ≡ k + 1 + end) × (pieces (c ∷ rest) ≡ (c ∷ take end rest) ∷ pieces (drop end rest)))
        → (t : Bool) → is_blank c ≡ t → cond t (Some k) (position_from is_blank (k + 1) rest) ≡ Some place
        → (end : ℕ) × (place ≡ k + end) × (pieces (b ∷ c ∷ rest) ≡ (b ∷ take end (c ∷ rest)) ∷ pieces (drop end (c ∷ rest)))
    at later true is h = (0, omega (arith, let e : k ≡ place = cc in e), by_piece b (c ∷ rest) visible ∙ rw is refl)
    at later false is h =
        let r = later is h in (suc r.0, omega (arith, r.1), by_piece b (c ∷ rest) visible ∙ rw (is, r.2) refl)

piece_alone : (b : ℕ) → is_blank b ≡ false → pieces (b ∷ []) ≡ (b ∷ []) ∷ []
unfolding pieces
piece_alone b visible = rw visible refl

piece_whole : (b : ℕ) (rest : List ℕ) (k : ℕ) → is_blank b ≡ false → position_from is_blank k rest ≡ None
    → pieces (b ∷ rest) ≡ (b ∷ rest) ∷ []
piece_whole b [] k visible none = piece_alone b visible
piece_whole b (c ∷ rest) k visible none = at (λ x. piece_whole c rest (k + 1) x) (is_blank c) refl none
  where
    at : (is_blank c ≡ false → position_from is_blank (k + 1) rest ≡ None → pieces (c ∷ rest) ≡ (c ∷ rest) ∷ [])
        → (t : Bool) → is_blank c ≡ t → cond t (Some k) (position_from is_blank (k + 1) rest) ≡ None
        → pieces (b ∷ c ∷ rest) ≡ (b ∷ c ∷ rest) ∷ []
    at later true is h = cc
    at later false is h = by_piece b (c ∷ rest) visible ∙ rw (is, later is h) refl

all_of : (rest : List ℕ) → take (length rest) rest ≡ rest
all_of [] = refl
all_of (b ∷ rest) = ap (λ l. b ∷ l) (all_of rest)

none_of : (rest : List ℕ) → pieces (drop (length rest) rest) ≡ []
unfolding pieces
none_of [] = refl
none_of (b ∷ rest) = none_of rest

-- a piece that a text begins with goes up to the first blank
pub piece-run : (text : List ℕ) (end : ℕ) → 0 < length text → is_blank (get_or text 0 0) ≡ false → position is_blank text ≡ Some end
    → pieces text ≡ take end text ∷ pieces (drop end text)
piece-run [] end some visible place = absurd (omega arith)
piece-run (b ∷ rest) end some visible place =
    let r = piece_at b rest 1 end visible (ap (λ t. cond t (Some 0) (position_from is_blank 1 rest)) (sym visible) ∙ sym (position_from-zero is_blank (b ∷ rest)) ∙ place) in
    let e : end ≡ suc r.0 = omega (arith, r.1) in
    rw e r.2

pub piece-whole : (text : List ℕ) → 0 < length text → is_blank (get_or text 0 0) ≡ false → position is_blank text ≡ None
    → pieces text ≡ take (length text) text ∷ pieces (drop (length text) text)
piece-whole [] some visible place = absurd (omega arith)
piece-whole (b ∷ rest) some visible place =
    rw (all_of rest, none_of rest)
    (piece_whole b rest 1 visible (ap (λ t. cond t (Some 0) (position_from is_blank 1 rest)) (sym visible) ∙ sym (position_from-zero is_blank (b ∷ rest)) ∙ place))
