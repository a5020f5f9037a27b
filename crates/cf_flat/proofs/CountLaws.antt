-- How many names of a list pass a test: it doesn't depend on the order of gates and calls.
use Rattle.std.proofs.Common.{ℕ, zero, suc, ◌≡◌, ◌+◌, ◌<◌, ◌≤◌, ◌||◌, not, Bool, true, false, cond, List, [], ◌∷◌, ◌++◌, length, map, Option, Some, None, refl, sym, ◌∙◌, ap, subst, arith}
use Rattle.std.specs.Prelude.{nat_lt}
use Rattle.std.specs.List.{slice_get, list_any}
use Rattle.std.specs.Str.{bytes_eq}
use Rattle.std.proofs.lemmas.Bool.{false≢true, or_left, or_right}
use Rattle.std.proofs.lemmas.List.Folds.{list_any-append}
use Rattle.std.proofs.lemmas.Option.{same_Some}
use Rattle.std.proofs.lemmas.Slice.Eq.{bytes_eq-Decides}
use Rattle.cf_model.specs.Renumbering.{place}
use Rattle.cf_circuits.specs.declared.gates.Gate.{Gate}
use Rattle.cf_circuits.specs.declared.pins.Pin.{Pin}
use Rattle.cf_circuits.specs.declared.pins.Call.{Call}
use Rattle.cf_circuits.specs.declared.models.ModelDef.{ModelDef}
use Rattle.cf_circuits.specs.Parts.{Part, AGate, ACall, line_of, put, merged, parts}
use Rattle.cf_circuits.specs.Links.{first_of, gathered, is_among, is_output, callee, actuals, drives, uses, driven, used, repeated}
use Rattle.cf_circuits.specs.Expansions.{signals}

abbrev pub one_if : Bool → ℕ
one_if true = 1
one_if false = 0

-- how many names pass the test
abbrev pub hits : (List ℕ → Bool) → List (List ℕ) → ℕ
hits test [] = 0
hits test (x ∷ xs) = one_if (test x) + hits test xs

-- whether it is the name
abbrev pub is : List ℕ → List ℕ → Bool
is name other = bytes_eq other name

pub hits-append : (test : List ℕ → Bool) (xs ys : List (List ℕ)) → hits test (xs ++ ys) ≡ hits test xs + hits test ys
hits-append test [] ys = omega arith
hits-append test (x ∷ xs) ys = let later = hits-append test xs ys in omega (arith, later)

hits-put : (test : List ℕ → Bool) (f : Part → List (List ℕ)) (c : Call) (ps : List Part)
    → hits test (gathered f (put c ps)) ≡ hits test (f (ACall c)) + hits test (gathered f ps)
hits-put test f c [] = hits-append test (f (ACall c)) []
hits-put test f c (part ∷ later) = by (nat_lt (line_of part) c.line) (hits-put test f c later)
  where
    by : (b : Bool) → hits test (gathered f (put c later)) ≡ hits test (f (ACall c)) + hits test (gathered f later)
        → hits test (gathered f (cond b (part ∷ put c later) (ACall c ∷ part ∷ later)))
        ≡ hits test (f (ACall c)) + hits test (f part ++ gathered f later)
    by true rest =
        let first = hits-append test (f part) (gathered f (put c later)) in
        let second = hits-append test (f part) (gathered f later) in
        omega (arith, first, second, rest)
    by false rest = hits-append test (f (ACall c)) (f part ++ gathered f later)

gathered-gates : (f : Part → List (List ℕ)) (gates : List Gate) → gathered f (map AGate gates) ≡ gathered (λ g. f (AGate g)) gates
gathered-gates f [] = refl
gathered-gates f (g ∷ gates) = ap (λ names. f (AGate g) ++ names) (gathered-gates f gates)

-- the order of gates and calls doesn't matter
hits-merged : (test : List ℕ → Bool) (f : Part → List (List ℕ)) (gates : List Gate) (calls : List Call)
    → hits test (gathered f (merged gates calls))
    ≡ hits test (gathered (λ g. f (AGate g)) gates) + hits test (gathered (λ c. f (ACall c)) calls)
hits-merged test f gates [] = let e = ap (hits test) (gathered-gates f gates) in omega (arith, e)
hits-merged test f gates (c ∷ calls) =
    let first = hits-put test f c (merged gates calls) in
    let second = hits-append test (f (ACall c)) (gathered (λ c. f (ACall c)) calls) in
    let rest = hits-merged test f gates calls in
    omega (arith, first, second, rest)

gathered-outs : (gates : List Gate) → gathered (λ g. g.out ∷ []) gates ≡ map (λ g. g.out) gates
gathered-outs [] = refl
gathered-outs (g ∷ gates) = ap (λ names. g.out ∷ names) (gathered-outs gates)

-- the driven signals are the signals, in another order
pub hits-driven : (test : List ℕ → Bool) (models : List ModelDef) (m : ModelDef)
    → hits test (driven models m) ≡ hits test (signals models m)
hits-driven test models m =
    let back = gathered (λ c. actuals (is_output (callee models c)) c.pins) m.calls in
    let outs = map (λ g. g.out) m.gates in
    let first = hits-append test m.inputs (gathered (drives models) (parts m)) in
    let second = hits-append test m.inputs (outs ++ back) in
    let third = hits-append test outs back in
    let merge = hits-merged test (drives models) m.gates m.calls in
    let e = ap (hits test) (gathered-outs m.gates) in
    omega (arith, first, second, third, merge, e)

-- what is used by gates and calls, and the outputs
pub hits-used : (test : List ℕ → Bool) (models : List ModelDef) (m : ModelDef)
    → hits test (used models m)
    ≡ hits test (gathered (λ g. g.ins) m.gates) + hits test (gathered (λ c. uses models (ACall c)) m.calls) + hits test m.outputs
hits-used test models m =
    let first = hits-append test (gathered (uses models) (parts m)) m.outputs in
    let merge = hits-merged test (uses models) m.gates m.calls in
    omega (arith, first, merge)

-- a name that passes is one of those that do
pub any-hits : (test : List ℕ → Bool) (xs : List (List ℕ)) → list_any test xs ≡ true → 1 ≤ hits test xs
any-hits test [] h = absurd (false≢true h)
any-hits test (x ∷ xs) h = by (test x) h (any-hits test xs)
  where
    by : (b : Bool) → (b || list_any test xs) ≡ true → (list_any test xs ≡ true → 1 ≤ hits test xs)
        → 1 ≤ one_if b + hits test xs
    by true h rest = omega arith
    by false h rest = let later = rest h in omega (arith, later)

pub hits-any : (test : List ℕ → Bool) (xs : List (List ℕ)) → 1 ≤ hits test xs → list_any test xs ≡ true
hits-any test [] h = absurd (omega (arith, h))
hits-any test (x ∷ xs) h = by (test x) h (hits-any test xs)
  where
    by : (b : Bool) → 1 ≤ one_if b + hits test xs → (1 ≤ hits test xs → list_any test xs ≡ true)
        → (b || list_any test xs) ≡ true
    by true h rest = refl
    by false h rest = rest (omega (arith, h))

-- a name at a place is one of those that are the name
pub get-hits : (xs : List (List ℕ)) (k : ℕ) (name : List ℕ) → slice_get xs k ≡ Some name → 1 ≤ hits (is name) xs
get-hits [] k name h = cc
get-hits (x ∷ xs) zero name h =
    let e : bytes_eq x name ≡ true = (bytes_eq-Decides x name).1 (same_Some x name h) in
    let one = ap one_if e in omega (arith, one)
get-hits (x ∷ xs) (suc k) name h = let later = get-hits xs k name h in omega (arith, later)

-- a name that stands once has its place
pub place-at : (xs : List (List ℕ)) (k : ℕ) (name : List ℕ) → slice_get xs k ≡ Some name → hits (is name) xs ≤ 1
    → place bytes_eq xs name ≡ k
place-at [] k name h low = cc
place-at (x ∷ xs) zero name h low =
    ap (λ b. cond b 0 (suc (place bytes_eq xs name))) ((bytes_eq-Decides x name).1 (same_Some x name h))
place-at (x ∷ xs) (suc k) name h low = by (bytes_eq x name) low (place-at xs k name h)
  where
    by : (b : Bool) → one_if b + hits (is name) xs ≤ 1 → (hits (is name) xs ≤ 1 → place bytes_eq xs name ≡ k)
        → cond b 0 (suc (place bytes_eq xs name)) ≡ suc k
    by true low rest = let more = get-hits xs k name h in absurd (omega (arith, low, more))
    by false low rest = ap suc (rest (omega (arith, low)))

-- a name that stands in the list stands at its place
pub known-at : (xs : List (List ℕ)) (name : List ℕ) → is_among xs name ≡ true → slice_get xs (place bytes_eq xs name) ≡ Some name
known-at [] name h = absurd (false≢true h)
known-at (x ∷ xs) name h = by (bytes_eq x name) refl h (known-at xs name)
  where
    by : (b : Bool) → bytes_eq x name ≡ b → (b || is_among xs name) ≡ true
        → (is_among xs name ≡ true → slice_get xs (place bytes_eq xs name) ≡ Some name)
        → slice_get (x ∷ xs) (cond b 0 (suc (place bytes_eq xs name))) ≡ Some name
    by true e h rest = ap Some ((bytes_eq-Decides x name).0 e)
    by false e h rest = rest h

-- Where no name is repeated, each stands once, and none that was seen stands again.
pub record StandsOnce (seen names : List (List ℕ)) (name : List ℕ) : Type 0 where
  pub again : is_among seen name ≡ true → hits (is name) names ≡ 0
  pub once : hits (is name) names ≤ 1

pub stands-once : (seen names : List (List ℕ)) → repeated seen names ≡ None → (name : List ℕ) → StandsOnce seen names name
stands-once seen [] none name = record { again = λ h. refl; once = omega arith }
stands-once seen (x ∷ names) none name = by (is_among seen x) refl none (λ none. stands-once (seen ++ x ∷ []) names none name)
  where
    among : is_among (seen ++ x ∷ []) name ≡ (is_among seen name || (bytes_eq x name || false))
    among = list_any-append (is name) seen (x ∷ [])

    named : (b : Bool) → bytes_eq x name ≡ b → is_among seen x ≡ false → StandsOnce (seen ++ x ∷ []) names name
        → StandsOnce seen (x ∷ names) name
    named true e new rest =
        let one = ap one_if e in
        let stands = ap (λ b. is_among seen name || (b || false)) e in
        let none = rest.again (among ∙ stands ∙ or_right (is_among seen name) true refl) in
        record {
          again = λ h. absurd (false≢true (sym new ∙ ap (is_among seen) ((bytes_eq-Decides x name).0 e) ∙ h));
          once = omega (arith, one, none);
        }
    named false e new rest =
        let one = ap one_if e in
        let once = rest.once in
        record {
          again = λ h. let none = rest.again (among ∙ or_left (is_among seen name) (bytes_eq x name || false) h) in omega (arith, one, none);
          once = omega (arith, one, once);
        }

    by : (b : Bool) → is_among seen x ≡ b → cond b (Some x) (repeated (seen ++ x ∷ []) names) ≡ None
        → (repeated (seen ++ x ∷ []) names ≡ None → StandsOnce (seen ++ x ∷ []) names name)
        → StandsOnce seen (x ∷ names) name
    by true e none rest = cc
    by false e none rest = named (bytes_eq x name) refl e (rest none)

-- where no name lacks a fact, none fails the test of it
pub none-lacks : (test : List ℕ → Bool) (xs : List (List ℕ)) → first_of (map (λ name. cond (test name) None (Some name)) xs) ≡ None
    → hits (λ name. not (test name)) xs ≡ 0
none-lacks test [] none = refl
none-lacks test (x ∷ xs) none = by (test x) none (none-lacks test xs)
  where
    by : (b : Bool)
        → first_of (cond b None (Some x) ∷ map (λ name. cond (test name) None (Some name)) xs) ≡ None
        → (first_of (map (λ name. cond (test name) None (Some name)) xs) ≡ None → hits (λ name. not (test name)) xs ≡ 0)
        → one_if (not b) + hits (λ name. not (test name)) xs ≡ 0
    by true none rest = let later = rest none in omega (arith, later)
    by false none rest = cc

-- each of them passes
pub none-fails : (test : List ℕ → Bool) (xs : List (List ℕ)) → hits (λ name. not (test name)) xs ≡ 0
    → (k : ℕ) (x : List ℕ) → slice_get xs k ≡ Some x → test x ≡ true
none-fails test [] zeros k x h = cc
none-fails test (y ∷ xs) zeros zero x h = by (test y) refl zeros
  where
    by : (b : Bool) → test y ≡ b → one_if (not b) + hits (λ name. not (test name)) xs ≡ 0 → test x ≡ true
    by true e zeros = ap test (sym (same_Some y x h)) ∙ e
    by false e zeros = absurd (omega (arith, zeros))
none-fails test (y ∷ xs) zeros (suc k) x h = none-fails test xs (omega (arith, zeros)) k x h

-- none of a whole is none of each part
pub none-gathered : {A : Type 0} (test : List ℕ → Bool) (f : A → List (List ℕ)) (xs : List A) → hits test (gathered f xs) ≡ 0
    → (k : ℕ) (x : A) → slice_get xs k ≡ Some x → hits test (f x) ≡ 0
none-gathered test f [] zeros k x h = cc
none-gathered test f (y ∷ xs) zeros zero x h =
    let split = hits-append test (f y) (gathered f xs) in
    let e = ap (λ x. hits test (f x)) (same_Some y x h) in
    omega (arith, split, zeros, e)
none-gathered test f (y ∷ xs) zeros (suc k) x h =
    let split = hits-append test (f y) (gathered f xs) in
    none-gathered test f xs (omega (arith, split, zeros)) k x h
