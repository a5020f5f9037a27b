-- How a text's words stand to the first byte of each kind.
use Rattle.std.proofs.Common.{ℕ, suc, ◌≡◌, ◌<◌, ◌+◌, ◌==◌, Bool, true, false, not, cond, List, [], ◌∷◌, take, drop, get_or, length, Some, None, refl, ap, sym, ◌∙◌, arith}
use Rattle.std.specs.Prelude.{position}
use Rattle.std.specs.List.{position_from}
use Rattle.std.proofs.lemmas.Iterator.Adapters.{position_from-zero}
use Rattle.cf_circuits.specs.LogicalLines.{physical, put_first, before_comment, words, is_blank, begins_word, lengthen}

abbrev is_hash : ℕ → Bool
is_hash b = b == 35

abbrev is_newline : ℕ → Bool
is_newline b = b == 10

abbrev is_visible : ℕ → Bool
is_visible b = not (is_blank b)

hash_at : (line : List ℕ) (k place : ℕ) → position_from is_hash k line ≡ Some place → (end : ℕ) × (place ≡ k + end) × (before_comment line ≡ take end line)
unfolding before_comment
hash_at [] k place some = cc
hash_at (b ∷ line) k place some = at (b == 35) (hash_at line (k + 1) place) some
  where
    at : (t : Bool) → (position_from is_hash (k + 1) line ≡ Some place → (end : ℕ) × (place ≡ k + 1 + end) × (before_comment line ≡ take end line))
        → cond t (Some k) (position_from is_hash (k + 1) line) ≡ Some place
        → (end : ℕ) × (place ≡ k + end) × (cond t [] (b ∷ before_comment line) ≡ take end (b ∷ line))
    at true later h = (0, omega (arith, let e : k ≡ place = cc in e), refl)
    at false later h = let cut = later h in (suc cut.0, omega (arith, cut.1), ap (λ l. b ∷ l) cut.2)

no_hash : (line : List ℕ) (k : ℕ) → position_from is_hash k line ≡ None → before_comment line ≡ line
unfolding before_comment
no_hash [] k none = refl
no_hash (b ∷ line) k none = at (b == 35) (no_hash line (k + 1)) none
  where
    at : (t : Bool) → (position_from is_hash (k + 1) line ≡ None → before_comment line ≡ line) → cond t (Some k) (position_from is_hash (k + 1) line) ≡ None
        → cond t [] (b ∷ before_comment line) ≡ b ∷ line
    at true later h = cc
    at false later h = ap (λ l. b ∷ l) (later h)

-- the part before the comment
pub comment-cut : (line : List ℕ) (end : ℕ) → position is_hash line ≡ Some end → take end line ≡ before_comment line
comment-cut line end some =
    let cut = hash_at line 0 end (sym (position_from-zero is_hash line) ∙ some) in
    let e : end ≡ cut.0 = omega (arith, cut.1) in
    rw e (sym cut.2)

pub comment-none : (line : List ℕ) → position is_hash line ≡ None → line ≡ before_comment line
comment-none line none = sym (no_hash line 0 (sym (position_from-zero is_hash line) ∙ none))

-- the first physical line ends at the first newline
newline_at : (bytes : List ℕ) (k place : ℕ) → position_from is_newline k bytes ≡ Some place
    → (end : ℕ) × (place ≡ k + end) × (physical bytes ≡ take end bytes ∷ physical (drop (suc end) bytes))
unfolding physical
newline_at [] k place some = cc
newline_at (b ∷ bytes) k place some = at (b == 10) (newline_at bytes (k + 1) place) some
  where
    at : (t : Bool) → (position_from is_newline (k + 1) bytes ≡ Some place → (end : ℕ) × (place ≡ k + 1 + end) × (physical bytes ≡ take end bytes ∷ physical (drop (suc end) bytes)))
        → cond t (Some k) (position_from is_newline (k + 1) bytes) ≡ Some place
        → (end : ℕ) × (place ≡ k + end) × (cond t ([] ∷ physical bytes) (put_first b (physical bytes)) ≡ take end (b ∷ bytes) ∷ physical (drop (suc end) (b ∷ bytes)))
    at true later h = (0, omega (arith, let e : k ≡ place = cc in e), refl)
    at false later h = let cut = later h in (suc cut.0, omega (arith, cut.1), ap (put_first b) cut.2)

no_newline : (b : ℕ) (bytes : List ℕ) (k : ℕ) → position_from is_newline k (b ∷ bytes) ≡ None → physical (b ∷ bytes) ≡ (b ∷ bytes) ∷ []
unfolding physical
no_newline b [] k none = at (b == 10) none
  where
    at : (t : Bool) → cond t (Some k) None ≡ None → cond t ([] ∷ []) (put_first b []) ≡ (b ∷ []) ∷ []
    at true h = cc
    at false h = refl
no_newline b (c ∷ bytes) k none = at (b == 10) (no_newline c bytes (k + 1)) none
  where
    at : (t : Bool) → (position_from is_newline (k + 1) (c ∷ bytes) ≡ None → physical (c ∷ bytes) ≡ (c ∷ bytes) ∷ [])
        → cond t (Some k) (position_from is_newline (k + 1) (c ∷ bytes)) ≡ None
        → cond t ([] ∷ physical (c ∷ bytes)) (put_first b (physical (c ∷ bytes))) ≡ (b ∷ c ∷ bytes) ∷ []
    at true later h = cc
    at false later h = ap (put_first b) (later h)

pub newline-cut : (bytes : List ℕ) (end : ℕ) → position is_newline bytes ≡ Some end → physical bytes ≡ take end bytes ∷ physical (drop (end + 1) bytes)
newline-cut bytes end some =
    let cut = newline_at bytes 0 end (sym (position_from-zero is_newline bytes) ∙ some) in
    let e : cut.0 ≡ end = omega (arith, cut.1) in
    let more : suc cut.0 ≡ end + 1 = omega (arith, cut.1) in
    cut.2 ∙ ap (λ x. take x bytes ∷ physical (drop (suc cut.0) bytes)) e ∙ ap (λ x. take end bytes ∷ physical (drop x bytes)) more

drop_all : (bytes : List ℕ) → drop (length bytes) bytes ≡ []
drop_all [] = refl
drop_all (b ∷ bytes) = drop_all bytes

pub newline-none : (bytes : List ℕ) → 0 < length bytes → position is_newline bytes ≡ None → physical bytes ≡ bytes ∷ physical (drop (length bytes) bytes)
unfolding physical
newline-none [] some none = absurd (omega arith)
newline-none (b ∷ bytes) some none =
    rw (drop_all bytes) (no_newline b bytes 0 (sym (position_from-zero is_newline (b ∷ bytes)) ∙ none))

-- a text from its first byte that is no blank
pub record Visible (text : List ℕ) (start : ℕ) : Type 0 where
  pub same : words text ≡ words (drop start text)
  pub begins : is_blank (get_or (drop start text) 0 0) ≡ false

visible_at : (text : List ℕ) (k place : ℕ) → position_from is_visible k text ≡ Some place → (start : ℕ) × (place ≡ k + start) × Visible text start
unfolding words
visible_at [] k place some = cc
visible_at (b ∷ text) k place some = at (is_blank b) refl (visible_at text (k + 1) place) some
  where
    at : (t : Bool) → is_blank b ≡ t → (position_from is_visible (k + 1) text ≡ Some place → (start : ℕ) × (place ≡ k + 1 + start) × Visible text start)
        → cond (not t) (Some k) (position_from is_visible (k + 1) text) ≡ Some place
        → (start : ℕ) × (place ≡ k + start) × Visible (b ∷ text) start
    at true is later h =
        let v = later h in
        (suc v.0, omega (arith, v.1), record { same = rw is v.2.same; begins = v.2.begins })
    at false is later h = (0, omega (arith, let e : k ≡ place = cc in e), record { same = refl; begins = is })

not_visible : (text : List ℕ) (k : ℕ) → position_from is_visible k text ≡ None → words text ≡ []
unfolding words
not_visible [] k none = refl
not_visible (b ∷ text) k none = at (is_blank b) refl (not_visible text (k + 1)) none
  where
    at : (t : Bool) → is_blank b ≡ t → (position_from is_visible (k + 1) text ≡ None → words text ≡ []) → cond (not t) (Some k) (position_from is_visible (k + 1) text) ≡ None → words (b ∷ text) ≡ []
    at true is later h = rw is (later h)
    at false is later h = cc

pub visible-from : (text : List ℕ) (start : ℕ) → position is_visible text ≡ Some start → Visible text start
visible-from text start some =
    let v = visible_at text 0 start (sym (position_from-zero is_visible text) ∙ some) in
    let e : start ≡ v.0 = omega (arith, v.1) in
    rw e v.2

pub visible-none : (text : List ℕ) → position is_visible text ≡ None → words text ≡ []
visible-none text none = not_visible text 0 (sym (position_from-zero is_visible text) ∙ none)

by_run : (b : ℕ) (rest : List ℕ) → is_blank b ≡ false → words (b ∷ rest) ≡ cond (begins_word rest) (lengthen b (words rest)) ((b ∷ []) ∷ words rest)
unfolding words
by_run b rest visible = rw visible refl

run_at : (b : ℕ) (rest : List ℕ) (k place : ℕ) → is_blank b ≡ false → position_from is_blank k rest ≡ Some place
    → (end : ℕ) × (place ≡ k + end) × (words (b ∷ rest) ≡ (b ∷ take end rest) ∷ words (drop end rest))
run_at b [] k place visible some = cc
run_at b (c ∷ rest) k place visible some = at (λ x. run_at c rest (k + 1) place x) (is_blank c) refl some
  where
    at : (is_blank c ≡ false → position_from is_blank (k + 1) rest ≡ Some place → (end : ℕ) × (place ≡ k + 1 + end) × (words (c ∷ rest) ≡ (c ∷ take end rest) ∷ words (drop end rest)))
        → (t : Bool) → is_blank c ≡ t → cond t (Some k) (position_from is_blank (k + 1) rest) ≡ Some place
        → (end : ℕ) × (place ≡ k + end) × (words (b ∷ c ∷ rest) ≡ (b ∷ take end (c ∷ rest)) ∷ words (drop end (c ∷ rest)))
    at later false is h =
        let r = later is h in
        (suc r.0, omega (arith, r.1), by_run b (c ∷ rest) visible ∙ rw (is, r.2) refl)
    at later true is h = (0, omega (arith, let e : k ≡ place = cc in e), by_run b (c ∷ rest) visible ∙ rw is refl)

words-nil : words [] ≡ []
unfolding words
words-nil = refl

run_whole : (b : ℕ) (rest : List ℕ) (k : ℕ) → is_blank b ≡ false → position_from is_blank k rest ≡ None → words (b ∷ rest) ≡ (b ∷ rest) ∷ []
run_whole b [] k visible none = by_run b [] visible ∙ ap (λ ws. (b ∷ []) ∷ ws) words-nil
run_whole b (c ∷ rest) k visible none = at (λ x. run_whole c rest (k + 1) x) (is_blank c) refl none
  where
    at : (is_blank c ≡ false → position_from is_blank (k + 1) rest ≡ None → words (c ∷ rest) ≡ (c ∷ rest) ∷ [])
        → (t : Bool) → is_blank c ≡ t → cond t (Some k) (position_from is_blank (k + 1) rest) ≡ None
        → words (b ∷ c ∷ rest) ≡ (b ∷ c ∷ rest) ∷ []
    at later false is h = by_run b (c ∷ rest) visible ∙ rw (is, later is h) refl
    at later true is h = cc

all_of : (rest : List ℕ) → take (length rest) rest ≡ rest
all_of [] = refl
all_of (b ∷ rest) = ap (λ l. b ∷ l) (all_of rest)

none_of : (rest : List ℕ) → words (drop (length rest) rest) ≡ []
unfolding words
none_of [] = refl
none_of (b ∷ rest) = none_of rest

-- a run of bytes is a word, up to the first blank
pub word-run : (text : List ℕ) (end : ℕ) → 0 < length text → is_blank (get_or text 0 0) ≡ false → position is_blank text ≡ Some end
    → (0 < end) × (words text ≡ take end text ∷ words (drop end text))
word-run [] end some visible place = absurd (omega arith)
word-run (b ∷ rest) end some visible place =
    let from : cond (is_blank b) (Some 0) (position_from is_blank 1 rest) ≡ Some end = sym (position_from-zero is_blank (b ∷ rest)) ∙ place in
    let later : position_from is_blank 1 rest ≡ Some end = (rw visible at from) in
    let r = run_at b rest 1 end visible later in
    let e : end ≡ suc r.0 = omega (arith, r.1) in
    (omega arith, rw e r.2)

pub word-whole : (text : List ℕ) → 0 < length text → is_blank (get_or text 0 0) ≡ false → position is_blank text ≡ None
    → words text ≡ take (length text) text ∷ words (drop (length text) text)
word-whole [] some visible place = absurd (omega arith)
word-whole (b ∷ rest) some visible place =
    let from : cond (is_blank b) (Some 0) (position_from is_blank 1 rest) ≡ None = sym (position_from-zero is_blank (b ∷ rest)) ∙ place in
    let later : position_from is_blank 1 rest ≡ None = (rw visible at from) in
    rw (all_of rest, none_of rest) (run_whole b rest 1 visible later)
