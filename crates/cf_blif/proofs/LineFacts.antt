-- How physical lines make logical lines, and what a backslash does to the words.
use Rattle.std.proofs.Common.{ℕ, zero, suc, ◌≡◌, ◌<◌, ◌+◌, ◌-◌, ◌≤◌, ◌==◌, ◌&&◌, Bool, true, false, not, cond, List, [], ◌∷◌, ◌++◌, take, drop, get_or, length, map, refl, ap, sym, subst, ◌∙◌, arith, append_assoc}
use Rattle.std.specs.List.{list_all}
use Rattle.std.proofs.lemmas.Bool.{ne_eqb, eqb-true}
use Rattle.cf_circuits.specs.LogicalLines.{Text, Line, join, physical, put_first, texts, continues, blanked, before_comment, words, is_blank, begins_word, lengthen}
use Rattle.cf_blif.specs.Lined.{read, lined, Continues}

-- a byte before the words of a text that begins with one
begun : (b c : ℕ) (rest : List ℕ) → is_blank c ≡ false → (more : List (List ℕ)) → lengthen b (words (c ∷ rest)) ++ more ≡ lengthen b (words (c ∷ rest) ++ more)
unfolding words
begun b c rest visible more = rw visible (at (begins_word rest) (words rest))
  where
    first : (ws : List (List ℕ)) → lengthen b (lengthen c ws) ++ more ≡ lengthen b (lengthen c ws ++ more)
    first [] = refl
    first (w ∷ ws) = refl

    at : (t : Bool) (ws : List (List ℕ)) → lengthen b (cond t (lengthen c ws) ((c ∷ []) ∷ ws)) ++ more ≡ lengthen b (cond t (lengthen c ws) ((c ∷ []) ∷ ws) ++ more)
    at true ws = first ws
    at false ws = refl

-- a blank parts words
pub words-blank : (front next : List ℕ) → words (front ++ 32 ∷ next) ≡ words front ++ words next
unfolding words
words-blank [] next = refl
words-blank (b ∷ []) next = at (is_blank b)
  where
    at : (t : Bool) → cond t (words next) ((b ∷ []) ∷ words next) ≡ cond t [] ((b ∷ []) ∷ []) ++ words next
    at true = refl
    at false = refl
words-blank (b ∷ c ∷ front) next = at (is_blank b) (is_blank c) refl (words-blank (c ∷ front) next)
  where
    at : (s t : Bool) → is_blank c ≡ t → words (c ∷ front ++ 32 ∷ next) ≡ words (c ∷ front) ++ words next
        → cond s (words (c ∷ front ++ 32 ∷ next)) (cond (not t) (lengthen b (words (c ∷ front ++ 32 ∷ next))) ((b ∷ []) ∷ words (c ∷ front ++ 32 ∷ next)))
        ≡ cond s (words (c ∷ front)) (cond (not t) (lengthen b (words (c ∷ front))) ((b ∷ []) ∷ words (c ∷ front))) ++ words next
    at true t is h = h
    at false true is h = ap (λ ws. (b ∷ []) ∷ ws) h
    at false false is h = ap (lengthen b) h ∙ sym (begun b c front is (words next))

-- blanks have no words
words-blanks : (blanks next : List ℕ) → list_all is_blank blanks ≡ true → words (blanks ++ next) ≡ words next
unfolding words
words-blanks [] next all = refl
words-blanks (b ∷ blanks) next all = at (is_blank b) all (words-blanks blanks next)
  where
    at : (t : Bool) → (t && list_all is_blank blanks) ≡ true → (list_all is_blank blanks ≡ true → words (blanks ++ next) ≡ words next)
        → cond t (words (blanks ++ next)) (cond (begins_word (blanks ++ next)) (lengthen b (words (blanks ++ next))) ((b ∷ []) ∷ words (blanks ++ next))) ≡ words next
    at true h later = later h
    at false h later = cc

-- a byte that is no blank stands behind the front
not_all : (front : List ℕ) (b : ℕ) (blanks : List ℕ) → is_blank b ≡ false → list_all is_blank (front ++ b ∷ blanks) ≡ false
not_all [] b blanks visible = rw visible refl
not_all (c ∷ front) b blanks visible = at (is_blank c) (not_all front b blanks visible)
  where
    at : (t : Bool) → list_all is_blank (front ++ b ∷ blanks) ≡ false → (t && list_all is_blank (front ++ b ∷ blanks)) ≡ false
    at true h = h
    at false h = refl

last_byte : (front : List ℕ) (b : ℕ) (blanks : List ℕ) → is_blank b ≡ false → list_all is_blank blanks ≡ true → continues (front ++ b ∷ blanks) ≡ (b == 92)
unfolding continues
last_byte [] b blanks visible all = rw all refl
last_byte (c ∷ front) b blanks visible all = rw (not_all front b blanks visible) (last_byte front b blanks visible all)

last_blanked : (front : List ℕ) (b : ℕ) (blanks : List ℕ) → is_blank b ≡ false → list_all is_blank blanks ≡ true → blanked (front ++ b ∷ blanks) ≡ front ++ 32 ∷ blanks
unfolding blanked
last_blanked [] b blanks visible all = rw all refl
last_blanked (c ∷ front) b blanks visible all = rw (not_all front b blanks visible) (ap (λ l. c ∷ l) (last_blanked front b blanks visible all))

all_blank : (text : List ℕ) → list_all is_blank text ≡ true → continues text ≡ false
unfolding continues
all_blank [] all = refl
all_blank (b ∷ text) all = at (is_blank b) refl all
  where
    not_backslash : (b == 92) ≡ true → is_blank b ≡ false
    not_backslash h = let e : b ≡ 92 = grind (arith) in rw e refl

    at : (t : Bool) → is_blank b ≡ t → (t && list_all is_blank text) ≡ true → cond (list_all is_blank text) (b == 92) (continues text) ≡ false
    at true is h = rw h (by (b == 92) refl)
      where
        by : (s : Bool) → (b == 92) ≡ s → s ≡ false
        by true e = let f : true ≡ false = sym is ∙ not_backslash e in cc
        by false e = refl
    at false is h = cc

split_at : (text : List ℕ) (k : ℕ) → k < length text → text ≡ take k text ++ get_or text k 0 ∷ drop (suc k) text
split_at [] k lt = absurd (omega arith)
split_at (b ∷ text) zero lt = refl
split_at (b ∷ text) (suc k) lt = ap (λ l. b ∷ l) (split_at text k (omega arith))

-- a text whose last byte before the blanks is a backslash
pub backslash-cut : (text : List ℕ) (last : ℕ) → last < length text → is_blank (get_or text last 0) ≡ false → list_all is_blank (drop (suc last) text) ≡ true
    → get_or text last 0 ≡ 92 → Continues text (take last text)
backslash-cut text last lt visible blanks is =
    let whole = split_at text last lt in
    record {
      goes_on = ap continues whole ∙ last_byte (take last text) (get_or text last 0) (drop (suc last) text) visible blanks ∙ ap (λ b. b == 92) is;
      words = λ next. ap (λ t. words (t ++ next)) (ap blanked whole ∙ last_blanked (take last text) (get_or text last 0) (drop (suc last) text) visible blanks)
          ∙ ap words (append_assoc (take last text) (32 ∷ drop (suc last) text) next)
          ∙ words-blank (take last text) (drop (suc last) text ++ next)
          ∙ ap (λ ws. words (take last text) ++ ws) (words-blanks (drop (suc last) text) next blanks);
    }

-- a text whose last byte before the blanks is another one
pub backslash-none : (text : List ℕ) (last : ℕ) → last < length text → is_blank (get_or text last 0) ≡ false → list_all is_blank (drop (suc last) text) ≡ true
    → (get_or text last 0 == 92) ≡ false → continues text ≡ false
backslash-none text last lt visible blanks is =
    ap continues (split_at text last lt) ∙ last_byte (take last text) (get_or text last 0) (drop (suc last) text) visible blanks ∙ is

pub backslash-blank : (text : List ℕ) → list_all is_blank text ≡ true → continues text ≡ false
backslash-blank text all = all_blank text all

-- words before those of the logical line that follows, which begins with them from then on
abbrev pub glue : ℕ → List (List ℕ) → List Line → List Line
glue n front [] = record { number = n; words = front } ∷ []
glue n front (line ∷ more) = record { number = n; words = front ++ line.words } ∷ more

joined : (n : ℕ) (text front : List ℕ) (later : List Text) → ((next : List ℕ) → words (text ++ next) ≡ words front ++ words next) → map read (join n text later) ≡ glue n (words front) (map read later)
unfolding words
joined n text front [] h = ap (λ ws. record { number = n; words = ws } ∷ []) (ap words (sym (nothing text)) ∙ h [] ∙ nothing (words front))
  where
    nothing : {A : Type 0} (xs : List A) → xs ++ [] ≡ xs
    nothing [] = refl
    nothing (x ∷ xs) = ap (λ l. x ∷ l) (nothing xs)
joined n text front (line ∷ more) h = ap (λ ws. record { number = n; words = ws } ∷ map read more) (h line.text)

-- a physical line that goes on
pub lined-goes_on : (n : ℕ) (piece front : List ℕ) (pieces : List (List ℕ)) → Continues (before_comment piece) front
    → lined n (piece ∷ pieces) ≡ glue n (words front) (lined (n + 1) pieces)
unfolding texts
lined-goes_on n piece front pieces h = rw h.goes_on (joined n (blanked (before_comment piece)) front (texts (n + 1) pieces) h.words)

-- a physical line that ends its logical line
pub lined-ends : (n : ℕ) (piece : List ℕ) (pieces : List (List ℕ)) → continues (before_comment piece) ≡ false
    → lined n (piece ∷ pieces) ≡ record { number = n; words = words (before_comment piece) } ∷ lined (n + 1) pieces
unfolding texts
lined-ends n piece pieces h = rw h refl

pub lined-nothing : (n : ℕ) → lined n [] ≡ []
unfolding texts
lined-nothing n = refl

-- words go before words
pub glue-glue : (n m : ℕ) (front ws : List (List ℕ)) (lines : List Line) → glue n front (glue m ws lines) ≡ glue n (front ++ ws) lines
glue-glue n m front ws [] = refl
glue-glue n m front ws (line ∷ lines) = ap (λ all. record { number = n; words = all } ∷ lines) (sym (append_assoc front ws line.words))

-- the first logical line has the number of the first physical line
pub glue-nothing : (n : ℕ) (piece : List ℕ) (pieces : List (List ℕ)) → glue n [] (lined n (piece ∷ pieces)) ≡ lined n (piece ∷ pieces)
unfolding texts
glue-nothing n piece pieces = at (continues (before_comment piece)) (texts (n + 1) pieces)
  where
    first : (front : List ℕ) (later : List Text) → glue n [] (map read (join n front later)) ≡ map read (join n front later)
    first front [] = refl
    first front (line ∷ later) = refl

    at : (t : Bool) (later : List Text)
        → glue n [] (map read (cond t (join n (blanked (before_comment piece)) later) (record { number = n; text = before_comment piece } ∷ later)))
        ≡ map read (cond t (join n (blanked (before_comment piece)) later) (record { number = n; text = before_comment piece } ∷ later))
    at true later = first (blanked (before_comment piece)) later
    at false later = refl

nothing-physical : physical [] ≡ []
unfolding physical
nothing-physical = refl

some-physical : (bytes : List ℕ) → 0 < length bytes → (piece : List ℕ) × (pieces : List (List ℕ)) × (physical bytes ≡ piece ∷ pieces)
unfolding physical
some-physical [] some = absurd (omega arith)
some-physical (b ∷ bytes) some = at (b == 10) (physical bytes)
  where
    first : (pieces : List (List ℕ)) → (piece : List ℕ) × (more : List (List ℕ)) × (put_first b pieces ≡ piece ∷ more)
    first [] = (b ∷ [], [], refl)
    first (piece ∷ pieces) = (b ∷ piece, pieces, refl)

    at : (t : Bool) (pieces : List (List ℕ)) → (piece : List ℕ) × (more : List (List ℕ)) × (cond t ([] ∷ pieces) (put_first b pieces) ≡ piece ∷ more)
    at true pieces = ([], pieces, refl)
    at false pieces = first pieces

-- The logical lines of a text: before its first line is read,
pub begin : (n : ℕ) (ws : List (List ℕ)) (bytes : List ℕ) → 0 < length bytes → ws ≡ [] → lined n (physical bytes) ≡ glue n ws (lined (n + 0) (physical bytes))
begin n ws bytes some is =
    let p = some-physical bytes some in
    let e : n + 0 ≡ n = omega arith in
    rw (is, e, p.2) (sym (glue-nothing n p.0 p.1))

-- behind a line that goes on,
pub more-goes_on : (n k : ℕ) (ws now : List (List ℕ)) (all : List Line) (rest later piece text front : List ℕ)
    → all ≡ glue n ws (lined (n + k) (physical rest)) → physical rest ≡ piece ∷ physical later
    → text ≡ before_comment piece → Continues text front → now ≡ ws ++ words front
    → all ≡ glue n now (lined (n + (k + 1)) (physical later))
more-goes_on n k ws now all rest later piece text front h e is goes new =
    let m : n + k + 1 ≡ n + (k + 1) = omega arith in
    h ∙ ap (λ ps. glue n ws (lined (n + k) ps)) e
    ∙ ap (glue n ws) (lined-goes_on (n + k) piece front (physical later) (subst (λ t. Continues t front) is goes))
    ∙ glue-glue n (n + k) ws (words front) (lined (n + k + 1) (physical later))
    ∙ ap (λ i. glue n (ws ++ words front) (lined i (physical later))) m
    ∙ ap (λ v. glue n v (lined (n + (k + 1)) (physical later))) (sym new)

-- behind the line that ends it,
pub more-ends : (n k : ℕ) (ws now : List (List ℕ)) (all : List Line) (rest later piece text : List ℕ)
    → all ≡ glue n ws (lined (n + k) (physical rest)) → physical rest ≡ piece ∷ physical later
    → text ≡ before_comment piece → continues text ≡ false → now ≡ ws ++ words text
    → all ≡ record { number = n; words = now } ∷ lined (n + (k + 1)) (physical later)
more-ends n k ws now all rest later piece text h e is ends new =
    let m : n + k + 1 ≡ n + (k + 1) = omega arith in
    h ∙ ap (λ ps. glue n ws (lined (n + k) ps)) e
    ∙ ap (glue n ws) (lined-ends (n + k) piece (physical later) (ap continues (sym is) ∙ ends))
    ∙ ap (λ i. record { number = n; words = ws ++ words (before_comment piece) } ∷ lined i (physical later)) m
    ∙ ap (λ v. record { number = n; words = v } ∷ lined (n + (k + 1)) (physical later)) (ap (λ t. ws ++ words t) (sym is) ∙ sym new)

-- and at the end of the text.
pub more-nothing : (n k : ℕ) (ws : List (List ℕ)) (all : List Line) (rest : List ℕ)
    → all ≡ glue n ws (lined (n + k) (physical rest)) → rest ≡ [] → all ≡ record { number = n; words = ws } ∷ lined (n + k) (physical rest)
more-nothing n k ws all rest h is =
    let e : lined (n + k) (physical rest) ≡ [] = ap (λ r. lined (n + k) (physical r)) is ∙ ap (lined (n + k)) nothing-physical ∙ lined-nothing (n + k) in
    h ∙ ap (glue n ws) e ∙ ap (λ ls. record { number = n; words = ws } ∷ ls) (sym e)

-- where a text ends in a backslash, by the length without the blanks at its end
pub ends-blank : (text : List ℕ) (end : ℕ) → end ≡ 0 → list_all is_blank (drop end text) ≡ true → continues text ≡ false
ends-blank text end is blanks = backslash-blank text (subst (λ n. list_all is_blank (drop n text) ≡ true) is blanks)

pub ends-backslash : (text : List ℕ) (end : ℕ) → (end ≡ 0 → ⊥) → end ≤ length text → (0 < end → is_blank (get_or text (end - 1) 0) ≡ false)
    → list_all is_blank (drop end text) ≡ true → get_or text (end - 1) 0 ≡ 92 → Continues text (take (end - 1) text)
ends-backslash text end some low visible blanks is =
    let e : end ≡ suc (end - 1) = omega arith in
    backslash-cut text (end - 1) (omega arith) (visible (omega arith)) (subst (λ n. list_all is_blank (drop n text) ≡ true) e blanks) is

pub ends-other : (text : List ℕ) (end : ℕ) → (end ≡ 0 → ⊥) → end ≤ length text → (0 < end → is_blank (get_or text (end - 1) 0) ≡ false)
    → list_all is_blank (drop end text) ≡ true → (get_or text (end - 1) 0 ≡ 92 → ⊥) → continues text ≡ false
ends-other text end some low visible blanks is =
    let e : end ≡ suc (end - 1) = omega arith in
    backslash-none text (end - 1) (omega arith) (visible (omega arith)) (subst (λ n. list_all is_blank (drop n text) ≡ true) e blanks) (ne_eqb (get_or text (end - 1) 0) 92 is)

pub is_nothing : (bytes : List ℕ) (empty : Bool) → empty ≡ (length bytes == 0) → empty ≡ true → bytes ≡ []
is_nothing [] empty e is = refl
is_nothing (b ∷ bytes) empty e is = let h : (suc (length bytes) == 0) ≡ true = sym e ∙ is in absurd (omega (arith, eqb-true (suc (length bytes)) 0 h))
