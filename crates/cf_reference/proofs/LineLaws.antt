use Rattle.std.proofs.Common.{ℕ, ◌≡◌, ◌+◌, ◌-◌, ◌<◌, ◌≤◌, ◌&&◌, nat_lt, nat_le, cond, Bool, true, false, List, [], ◌∷◌, ◌++◌, ◌⊎◌, inl, inr, length, refl, ap, sym, ◌∙◌, arith, length-append}
use Rattle.std.proofs.lemmas.Bool.{ne_eqb, ltb-true, ltb-false, leb-true, leb-false}
use Rattle.cf_reference.specs.Lines.{Line, line_end, size, put_first, lines, NoNewline, Fits, LineTooLong, ScriptTooLong, fit, line_limit, script_limit}

-- bytes without a newline, one after the other
pub plain_append : (a b : List ℕ) → NoNewline a → NoNewline b → NoNewline (a ++ b)
plain_append [] b p q = q
plain_append (x ∷ a) b p q = (p.0, plain_append a b p.1 q)

-- a byte that is no newline goes before the first line
on_byte : (b : ℕ) (rest : List ℕ) → NoNewline (b ∷ []) → lines (b ∷ rest) ≡ put_first b (lines rest)
unfolding lines
on_byte b rest p = ap (λ t. cond t (record { bytes = []; newline = true } ∷ lines rest) (put_first b (lines rest))) (ne_eqb b 10 p.0)

-- a newline ends a line
pub lines_newline : (line rest : List ℕ) → NoNewline line → lines (line ++ 10 ∷ rest) ≡ record { bytes = line; newline = true } ∷ lines rest
unfolding lines
lines_newline [] rest p = refl
lines_newline (b ∷ line) rest p = on_byte b (line ++ 10 ∷ rest) (p.0, tt) ∙ ap (put_first b) (lines_newline line rest p.1)

-- no byte is no line
pub lines_nil : lines [] ≡ []
unfolding lines
lines_nil = refl

-- the end of input ends a line that has bytes
pub lines_last : (b : ℕ) (line : List ℕ) → NoNewline (b ∷ line) → lines (b ∷ line) ≡ record { bytes = b ∷ line; newline = false } ∷ []
lines_last b [] p = on_byte b [] p ∙ ap (put_first b) lines_nil
lines_last b (c ∷ line) p = on_byte b (c ∷ line) (p.0, tt) ∙ ap (put_first b) (lines_last c line p.1)

-- the first line begins with a front that has no newline
pub record BeginsWith (front all : List ℕ) : Type 0 where
  pub rest : List ℕ
  pub newline : Bool
  pub more : List Line
  pub lines : lines all ≡ record { bytes = front ++ rest; newline = newline } ∷ more

begin_one : (b : ℕ) (rest : List ℕ) (ls : List Line) → lines rest ≡ ls → NoNewline (b ∷ []) → BeginsWith (b ∷ []) (b ∷ rest)
begin_one b rest [] e p = record { rest = []; newline = false; more = []; lines = on_byte b rest p ∙ ap (put_first b) e }
begin_one b rest (l ∷ ls) e p = record { rest = l.bytes; newline = l.newline; more = ls; lines = on_byte b rest p ∙ ap (put_first b) e }

pub lines_front : (b : ℕ) (front rest : List ℕ) → NoNewline (b ∷ front) → BeginsWith (b ∷ front) (b ∷ (front ++ rest))
lines_front b [] rest p = begin_one b rest (lines rest) refl p
lines_front b (c ∷ front) rest p =
    let r = lines_front c front rest p.1 in
    record { rest = r.rest; newline = r.newline; more = r.more; lines = on_byte b (c ∷ (front ++ rest)) (p.0, tt) ∙ ap (put_first b) r.lines }

-- the script may end behind the line, or it is so far from its longest that the line's own length decides
abbrev pub HasRoom : ℕ → Line → Type 0
HasRoom before line = (before + size line ≤ script_limit) ⊎ (line_limit < script_limit - before)

-- what a line's fare tells of its length
pub record TellsScript (before : ℕ) (line : Line) : Type 0 where
  pub is : fit before line ≡ ScriptTooLong
  pub over : script_limit < before + size line
  pub near : script_limit - before ≤ line_limit

pub record TellsLine (before : ℕ) (line : Line) : Type 0 where
  pub is : fit before line ≡ LineTooLong
  pub room : HasRoom before line
  pub long : line_limit < length line.bytes

pub record TellsFits (before : ℕ) (line : Line) : Type 0 where
  pub is : fit before line ≡ Fits
  pub room : HasRoom before line
  pub short : length line.bytes ≤ line_limit

pub fit_tells : (before : ℕ) (line : Line) → TellsScript before line ⊎ (TellsLine before line ⊎ TellsFits before line)
fit_tells before line = by (nat_lt script_limit (before + size line)) (nat_le (script_limit - before) line_limit) (nat_lt line_limit (length line.bytes)) refl refl refl
  where
    is : (x y z : Bool) → nat_lt script_limit (before + size line) ≡ x → nat_le (script_limit - before) line_limit ≡ y → nat_lt line_limit (length line.bytes) ≡ z
        → fit before line ≡ cond (x && y) ScriptTooLong (cond z LineTooLong Fits)
    is x y z ex ey ez =
        ap (λ t. cond (t && nat_le (script_limit - before) line_limit) ScriptTooLong (cond (nat_lt line_limit (length line.bytes)) LineTooLong Fits)) ex
        ∙ ap (λ t. cond (x && t) ScriptTooLong (cond (nat_lt line_limit (length line.bytes)) LineTooLong Fits)) ey
        ∙ ap (λ t. cond (x && y) ScriptTooLong (cond t LineTooLong Fits)) ez

    by : (x y z : Bool) → nat_lt script_limit (before + size line) ≡ x → nat_le (script_limit - before) line_limit ≡ y → nat_lt line_limit (length line.bytes) ≡ z
        → TellsScript before line ⊎ (TellsLine before line ⊎ TellsFits before line)
    by true true z ex ey ez = inl (record { is = is true true z ex ey ez; over = ltb-true _ _ ex; near = leb-true _ _ ey })
    by true false true ex ey ez = inr (inl (record { is = is true false true ex ey ez; room = inr (leb-false _ _ ey); long = ltb-true _ _ ez }))
    by true false false ex ey ez = inr (inr (record { is = is true false false ex ey ez; room = inr (leb-false _ _ ey); short = ltb-false _ _ ez }))
    by false y true ex ey ez = inr (inl (record { is = is false y true ex ey ez; room = inl (ltb-false _ _ ex); long = ltb-true _ _ ez }))
    by false y false ex ey ez = inr (inr (record { is = is false y false ex ey ez; room = inl (ltb-false _ _ ex); short = ltb-false _ _ ez }))

size_within : (line : Line) → size line ≤ length line.bytes + 1
size_within line = by line.newline
  where
    by : (newline : Bool) → length line.bytes + length (line_end newline) ≤ length line.bytes + 1
    by true = omega arith
    by false = omega arith

-- each fare, by what it tells
pub is_over : (before : ℕ) (line : Line) → fit before line ≡ ScriptTooLong → TellsScript before line
is_over before line e = elim (fit_tells before line) [
  | inl t ↦ t
  | inr s ↦ elim s [ inl t ↦ absurd (apart_line (sym t.is ∙ e)) | inr t ↦ absurd (apart_fits (sym t.is ∙ e)) ]
]
  where
    apart_line : LineTooLong ≡ ScriptTooLong → ⊥
    apart_line p = cc

    apart_fits : Fits ≡ ScriptTooLong → ⊥
    apart_fits p = cc

pub is_long : (before : ℕ) (line : Line) → fit before line ≡ LineTooLong → TellsLine before line
is_long before line e = elim (fit_tells before line) [
  | inl t ↦ absurd (apart_script (sym t.is ∙ e))
  | inr s ↦ elim s [ inl t ↦ t | inr t ↦ absurd (apart_fits (sym t.is ∙ e)) ]
]
  where
    apart_script : ScriptTooLong ≡ LineTooLong → ⊥
    apart_script p = cc

    apart_fits : Fits ≡ LineTooLong → ⊥
    apart_fits p = cc

pub is_fitting : (before : ℕ) (line : Line) → fit before line ≡ Fits → TellsFits before line
is_fitting before line e = elim (fit_tells before line) [
  | inl t ↦ absurd (apart_script (sym t.is ∙ e))
  | inr s ↦ elim s [ inl t ↦ absurd (apart_line (sym t.is ∙ e)) | inr t ↦ t ]
]
  where
    apart_script : ScriptTooLong ≡ Fits → ⊥
    apart_script p = cc

    apart_line : LineTooLong ≡ Fits → ⊥
    apart_line p = cc

no_room : (before : ℕ) (line : Line) → HasRoom before line → script_limit < before + size line → script_limit - before ≤ line_limit → ⊥
no_room before line room over near = elim room [ inl r ↦ omega (arith, r) | inr r ↦ omega (arith, r) ]

over_from : (before : ℕ) (line : Line) → script_limit < before + size line → script_limit - before ≤ line_limit → fit before line ≡ ScriptTooLong
over_from before line over near = elim (fit_tells before line) [
  | inl t ↦ t.is
  | inr s ↦ elim s [ inl t ↦ absurd (no_room before line t.room over near) | inr t ↦ absurd (no_room before line t.room over near) ]
]

long_from : (before : ℕ) (line : Line) → HasRoom before line → line_limit < length line.bytes → fit before line ≡ LineTooLong
long_from before line room long = elim (fit_tells before line) [
  | inl t ↦ absurd (no_room before line room t.over t.near)
  | inr s ↦ elim s [ inl t ↦ t.is | inr t ↦ let short = t.short in absurd (omega arith) ]
]

-- a line that fits ends within the longest script
pub fits_within : (before : ℕ) (line : Line) → before ≤ script_limit → fit before line ≡ Fits → before + size line ≤ script_limit
fits_within before line h e =
    let t = is_fitting before line e in
    let short = t.short in
    let near = size_within line in
    elim t.room [ inl r ↦ r | inr r ↦ omega (arith, r) ]

-- what is too long stays so, whatever comes after it
pub front_over : (before : ℕ) (front rest : List ℕ) (newline : Bool)
    → fit before (record { bytes = front; newline = false }) ≡ ScriptTooLong → fit before (record { bytes = front ++ rest; newline = newline }) ≡ ScriptTooLong
front_over before front rest newline e =
    let t = is_over before (record { bytes = front; newline = false }) e in
    let over = t.over in
    over_from before (record { bytes = front ++ rest; newline = newline }) (omega (arith, length-append front rest)) t.near

pub front_long : (before : ℕ) (front rest : List ℕ) (newline : Bool)
    → fit before (record { bytes = front; newline = false }) ≡ LineTooLong → fit before (record { bytes = front ++ rest; newline = newline }) ≡ LineTooLong
front_long before front rest newline e =
    let t = is_long before (record { bytes = front; newline = false }) e in
    let long = t.long in
    long_from before (record { bytes = front ++ rest; newline = newline }) (inr (elim t.room [ inl r ↦ omega (arith, r) | inr r ↦ r ])) (omega (arith, length-append front rest))
