-- The numbers of lines rise, and so do those of gates and calls.
use Rattle.std.proofs.Common.{ℕ, ◌≡◌, ◌≢◌, ◌+◌, ◌<◌, ◌≤◌, ◌||◌, Bool, true, false, cond, List, [], ◌∷◌, get_or, map, refl, arith}
use Rattle.std.specs.List.{All, AllPairs}
use Rattle.std.proofs.lemmas.List.Elements.{All-nil, All-cons, All-weaker}
use Rattle.std.proofs.lemmas.List.Kept.{AllPairs-cons}
use Rattle.std.specs.Prelude.{nat_le, length}
use Rattle.cf_circuits.specs.declared.gates.Gate.{Gate}
use Rattle.cf_circuits.specs.declared.pins.Call.{Call}
use Rattle.cf_circuits.specs.declared.kinds.Kind.{Kind}
use Rattle.cf_circuits.specs.declared.kinds.Kind.TheVariants as is
use Rattle.cf_circuits.specs.LogicalLines.{Line, Text, join, texts, kept, physical, logical, words, continues, before_comment, blanked}
use Rattle.cf_circuits.specs.Kinds.{kind, is_model, is_end, is_gate, is_call}
use Rattle.cf_circuits.specs.Netlists.{body, gates_of, gate_of, cover_lines, calls_of, call_of}

-- each number is at least n and above the one before it
abbrev pub Rises : ℕ → List ℕ → Type 0
Rises n [] = Unit {0}
Rises n (x ∷ xs) = (n ≤ x) × Rises (x + 1) xs

Rises-lower : (m n : ℕ) (xs : List ℕ) → m ≤ n → Rises n xs → Rises m xs
Rises-lower m n [] le h = tt
Rises-lower m n (x ∷ xs) le h = (omega (arith, h.0), h.1)

Rises-all : (n : ℕ) (xs : List ℕ) → Rises n xs → All (λ x. n ≤ x) xs
Rises-all n [] h = All-nil (λ x. n ≤ x)
Rises-all n (x ∷ xs) h = All-cons (λ y. n ≤ y) x xs h.0 (Rises-all n xs (Rises-lower n (x + 1) xs (omega (arith, h.0)) h.1))

abbrev pub numbers : List Line → List ℕ
numbers lines = map (λ l. l.number) lines

join-rises : (n : ℕ) (front : List ℕ) (ts : List Text) → Rises (n + 1) (map (λ t. t.number) ts) → Rises n (map (λ t. t.number) (join n front ts))
join-rises n front [] h = (omega arith, tt)
join-rises n front (t ∷ ts) h = (omega arith, Rises-lower (n + 1) (t.number + 1) (map (λ t. t.number) ts) (omega (arith, h.0)) h.1)

texts-rise : (n : ℕ) (pieces : List (List ℕ)) → Rises n (map (λ t. t.number) (texts n pieces))
unfolding texts
texts-rise n [] = tt
texts-rise n (piece ∷ pieces) = at (continues (before_comment piece)) (texts-rise (n + 1) pieces)
  where
    at : (t : Bool) → Rises (n + 1) (map (λ t. t.number) (texts (n + 1) pieces))
        → Rises n (map (λ t. t.number) (cond t (join n (blanked (before_comment piece)) (texts (n + 1) pieces)) (record { number = n; text = before_comment piece } ∷ texts (n + 1) pieces)))
    at true h = join-rises n (blanked (before_comment piece)) (texts (n + 1) pieces) h
    at false h = (omega arith, h)

kept-rises : (n : ℕ) (ts : List Text) → Rises n (map (λ t. t.number) ts) → Rises n (numbers (kept ts))
kept-rises n [] h = tt
kept-rises n (t ∷ ts) h = at (nat_le 1 (length (words t.text))) (kept-rises (t.number + 1) ts h.1)
  where
    at : (b : Bool) → Rises (t.number + 1) (numbers (kept ts)) → Rises n (numbers (cond b (record { number = t.number; words = words t.text } ∷ kept ts) (kept ts)))
    at true r = (h.0, r)
    at false r = Rises-lower n (t.number + 1) (numbers (kept ts)) (omega (arith, h.0)) r

-- the numbers of the logical lines of a text
pub logical-rises : (bytes : List ℕ) → Rises 1 (numbers (logical bytes))
logical-rises bytes = kept-rises 1 (texts 1 (physical bytes)) (texts-rise 1 (physical bytes))

pub body-rises : (n : ℕ) (lines : List Line) → Rises n (numbers lines) → Rises n (numbers (body lines))
body-rises n [] h = tt
body-rises n (l ∷ lines) h = at (is_model (kind l) || is_end (kind l)) (body-rises (l.number + 1) lines h.1)
  where
    at : (t : Bool) → Rises (l.number + 1) (numbers (body lines)) → Rises n (numbers (cond t [] (l ∷ body lines)))
    at true more = tt
    at false more = (h.0, more)

gates-above : (n : ℕ) (lines : List Line) → Rises n (numbers lines) → All (λ g. n ≤ g.line) (gates_of lines)
gates-above n [] h = All-nil {X = Gate} (λ g. n ≤ g.line)
gates-above n (l ∷ lines) h = at (is_gate (kind l)) (gates-above n lines (Rises-lower n (l.number + 1) (numbers lines) (omega (arith, h.0)) h.1))
  where
    at : (t : Bool) → All (λ g. n ≤ g.line) (gates_of lines) → All (λ g. n ≤ g.line) (cond t (gate_of l (cover_lines lines) ∷ gates_of lines) (gates_of lines))
    at true more = All-cons (λ g. n ≤ g.line) (gate_of l (cover_lines lines)) (gates_of lines) h.0 more
    at false more = more

calls-above : (n : ℕ) (lines : List Line) → Rises n (numbers lines) → All (λ c. n ≤ c.line) (calls_of lines)
calls-above n [] h = All-nil {X = Call} (λ c. n ≤ c.line)
calls-above n (l ∷ lines) h = at (is_call (kind l)) (calls-above n lines (Rises-lower n (l.number + 1) (numbers lines) (omega (arith, h.0)) h.1))
  where
    at : (t : Bool) → All (λ c. n ≤ c.line) (calls_of lines) → All (λ c. n ≤ c.line) (cond t (call_of l ∷ calls_of lines) (calls_of lines))
    at true more = All-cons (λ c. n ≤ c.line) (call_of l) (calls_of lines) h.0 more
    at false more = more

-- gates stand in order of their lines,
pub gates-order : (n : ℕ) (lines : List Line) → Rises n (numbers lines) → AllPairs (λ g h. g.line < h.line) (gates_of lines)
gates-order n [] h = λ i j d lt within. absurd (omega (arith, within))
gates-order n (l ∷ lines) h = at (is_gate (kind l)) (gates-order (l.number + 1) lines h.1)
  where
    first : All (λ g. l.number < g.line) (gates_of lines)
    first = All-weaker (λ g. l.number + 1 ≤ g.line) (λ g. l.number < g.line) (λ g le. omega (arith, le)) (gates_of lines) (gates-above (l.number + 1) lines h.1)

    at : (t : Bool) → AllPairs (λ g h. g.line < h.line) (gates_of lines) → AllPairs (λ g h. g.line < h.line) (cond t (gate_of l (cover_lines lines) ∷ gates_of lines) (gates_of lines))
    at true more = AllPairs-cons (λ g h. g.line < h.line) (gate_of l (cover_lines lines)) (gates_of lines) first more
    at false more = more

-- and calls too,
pub calls-order : (n : ℕ) (lines : List Line) → Rises n (numbers lines) → AllPairs (λ c d. c.line < d.line) (calls_of lines)
calls-order n [] h = λ i j d lt within. absurd (omega (arith, within))
calls-order n (l ∷ lines) h = at (is_call (kind l)) (calls-order (l.number + 1) lines h.1)
  where
    first : All (λ c. l.number < c.line) (calls_of lines)
    first = All-weaker (λ c. l.number + 1 ≤ c.line) (λ c. l.number < c.line) (λ c le. omega (arith, le)) (calls_of lines) (calls-above (l.number + 1) lines h.1)

    at : (t : Bool) → AllPairs (λ c d. c.line < d.line) (calls_of lines) → AllPairs (λ c d. c.line < d.line) (cond t (call_of l ∷ calls_of lines) (calls_of lines))
    at true more = AllPairs-cons (λ c d. c.line < d.line) (call_of l) (calls_of lines) first more
    at false more = more

-- and no line is both.
abbrev pub Apart : List Gate → List Call → Type 0
Apart gates calls = All (λ g. All (λ c. g.line ≢ c.line) calls) gates

not_both : (k : Kind) → is_gate k ≡ true → is_call k ≡ false
not_both is.Gate h = refl
not_both is.Model h = refl
not_both is.Inputs h = refl
not_both is.Outputs h = refl
not_both is.Call h = cc
not_both is.End h = refl
not_both is.Ignored h = refl
not_both is.Unknown h = refl
not_both is.Cover h = refl

pub gates-apart : (n : ℕ) (lines : List Line) → Rises n (numbers lines) → Apart (gates_of lines) (calls_of lines)
gates-apart n [] h = All-nil {X = Gate} (λ g. All {X = Call} (λ c. g.line ≢ c.line) [])
gates-apart n (l ∷ lines) h = at (is_gate (kind l)) (is_call (kind l)) (not_both (kind l)) (gates-apart (l.number + 1) lines h.1)
  where
    calls : All (λ c. l.number ≢ c.line) (calls_of lines)
    calls = All-weaker (λ c. l.number + 1 ≤ c.line) (λ c. l.number ≢ c.line) (λ c le same. omega (arith, le, same)) (calls_of lines) (calls-above (l.number + 1) lines h.1)

    gates : All (λ g. g.line ≢ l.number) (gates_of lines)
    gates = All-weaker (λ g. l.number + 1 ≤ g.line) (λ g. g.line ≢ l.number) (λ g le same. omega (arith, le, same)) (gates_of lines) (gates-above (l.number + 1) lines h.1)

    with_call : Apart (gates_of lines) (calls_of lines) → Apart (gates_of lines) (call_of l ∷ calls_of lines)
    with_call more k d within = All-cons (λ c. (get_or (gates_of lines) k d).line ≢ c.line) (call_of l) (calls_of lines) (gates k d within) (more k d within)

    at : (s t : Bool) → (s ≡ true → t ≡ false) → Apart (gates_of lines) (calls_of lines)
        → Apart (cond s (gate_of l (cover_lines lines) ∷ gates_of lines) (gates_of lines)) (cond t (call_of l ∷ calls_of lines) (calls_of lines))
    at true true h more = let e : true ≡ false = h refl in cc
    at true false h more = All-cons (λ g. All (λ c. g.line ≢ c.line) (calls_of lines)) (gate_of l (cover_lines lines)) (gates_of lines) calls more
    at false true h more = with_call more
    at false false h more = more
