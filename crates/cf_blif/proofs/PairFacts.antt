-- The sides of a pair, and formals that differ.
use Rattle.std.proofs.Common.{ℕ, zero, suc, ◌≡◌, ◌<◌, get_or, ◌+◌, ◌==◌, ◌&&◌, ◌||◌, Bool, true, false, not, cond, List, [], ◌∷◌, ◌++◌, take, drop, length, map, Some, None, refl, ap, sym, ◌∙◌, arith}
use Rattle.std.specs.Prelude.{position, Result, Ok, Err, IfOk}
use Rattle.std.specs.List.{position_from, list_any, list_all}
use Rattle.std.specs.Str.{bytes_eq}
use Rattle.std.proofs.lemmas.Iterator.Adapters.{position_from-zero}
use Rattle.std.proofs.lemmas.Slice.Eq.{bytes_eq-Decides}
use Rattle.std.proofs.lemmas.Bool.{false≢true}
use Rattle.cf_model.specs.Renumbering.{note, place}
use Rattle.cf_names.specs.Numbers.{number_of}
use Rattle.cf_circuits.specs.Kinds.{formal_of, actual_of}
use Rattle.cf_circuits.specs.Causes.{all_differ, is_pair, is_called}

abbrev is_equals : ℕ → Bool
is_equals b = b == 61

pub record Cut (pair : List ℕ) (end : ℕ) : Type 0 where
  pub formal : take end pair ≡ formal_of pair
  pub actual : drop (suc end) pair ≡ actual_of pair

cut_from : (pair : List ℕ) (k place : ℕ) → position_from is_equals k pair ≡ Some place → (end : ℕ) × (place ≡ k + end) × Cut pair end
unfolding formal_of actual_of
cut_from [] k place some = cc
cut_from (b ∷ pair) k place some = at (b == 61) refl (cut_from pair (k + 1) place) some
  where
    at : (t : Bool) → (b == 61) ≡ t → (position_from is_equals (k + 1) pair ≡ Some place → (end : ℕ) × (place ≡ k + 1 + end) × Cut pair end)
        → cond t (Some k) (position_from is_equals (k + 1) pair) ≡ Some place
        → (end : ℕ) × (place ≡ k + end) × Cut (b ∷ pair) end
    at true is later h = (0, omega (arith, let e : k ≡ place = cc in e), record { formal = rw is refl; actual = rw is refl })
    at false is later h =
        let r = later h in
        (suc r.0, omega (arith, r.1), record { formal = rw is (ap (λ l. b ∷ l) r.2.formal); actual = rw is r.2.actual })

pub cut-some : (pair : List ℕ) (end : ℕ) → position is_equals pair ≡ Some end → Cut pair end
cut-some pair end some =
    let r = cut_from pair 0 end (sym (position_from-zero is_equals pair) ∙ some) in
    let e : end ≡ r.0 = omega (arith, r.1) in
    rw e r.2

pub record Whole (pair : List ℕ) : Type 0 where
  pub formal : pair ≡ formal_of pair
  pub actual : drop (length pair) pair ≡ actual_of pair

whole_from : (pair : List ℕ) (k : ℕ) → position_from is_equals k pair ≡ None → Whole pair
unfolding formal_of actual_of
whole_from [] k none = record { formal = refl; actual = refl }
whole_from (b ∷ pair) k none = at (b == 61) refl (whole_from pair (k + 1)) none
  where
    at : (t : Bool) → (b == 61) ≡ t → (position_from is_equals (k + 1) pair ≡ None → Whole pair) → cond t (Some k) (position_from is_equals (k + 1) pair) ≡ None → Whole (b ∷ pair)
    at true is later h = cc
    at false is later h = let r = later h in record { formal = rw is (ap (λ l. b ∷ l) r.formal); actual = rw is r.actual }

pub cut-none : (pair : List ℕ) → position is_equals pair ≡ None → Whole pair
cut-none pair none = whole_from pair 0 (sym (position_from-zero is_equals pair) ∙ none)

abbrev pub has : List (List ℕ) → List ℕ → Bool
has names name = list_any (λ other. bytes_eq other name) names

-- no name stands among those that were seen, or again behind itself
abbrev pub fresh : List (List ℕ) → List (List ℕ) → Bool
fresh seen [] = true
fresh seen (name ∷ names) = not (has seen name) && fresh (seen ++ name ∷ []) names

flipped : (a b : List ℕ) → bytes_eq a b ≡ bytes_eq b a
flipped a b = by (bytes_eq a b) (bytes_eq b a) refl refl
  where
    by : (s t : Bool) → bytes_eq a b ≡ s → bytes_eq b a ≡ t → s ≡ t
    by true true p q = refl
    by false false p q = refl
    by true false p q = absurd (false≢true (sym q ∙ (bytes_eq-Decides b a).1 (sym ((bytes_eq-Decides a b).0 p))))
    by false true p q = absurd (false≢true (sym p ∙ (bytes_eq-Decides a b).1 (sym ((bytes_eq-Decides b a).0 q))))

has-push : (seen : List (List ℕ)) (x name : List ℕ) → has (seen ++ x ∷ []) name ≡ (has seen name || bytes_eq x name)
has-push [] x name = at (bytes_eq x name)
  where
    at : (t : Bool) → (t || false) ≡ t
    at true = refl
    at false = refl
has-push (y ∷ seen) x name = ap (λ t. bytes_eq y name || t) (has-push seen x name) ∙ at (bytes_eq y name) (has seen name) (bytes_eq x name)
  where
    at : (s t u : Bool) → (s || (t || u)) ≡ ((s || t) || u)
    at true t u = refl
    at false t u = refl

-- no name of a list stands among those that were seen
abbrev apart : List (List ℕ) → List (List ℕ) → Bool
apart seen [] = true
apart seen (name ∷ names) = not (has seen name) && apart seen names

apart-push : (seen names : List (List ℕ)) (x : List ℕ) → apart (seen ++ x ∷ []) names ≡ (apart seen names && not (list_any (λ other. bytes_eq other x) names))
apart-push seen [] x = refl
apart-push seen (name ∷ names) x =
    ap (λ t. not t && apart (seen ++ x ∷ []) names) (has-push seen x name ∙ ap (λ t. has seen name || t) (flipped x name))
    ∙ ap (λ t. not (has seen name || bytes_eq name x) && t) (apart-push seen names x)
    ∙ at (has seen name) (bytes_eq name x) (apart seen names) (list_any (λ other. bytes_eq other x) names)
  where
    at : (s t u v : Bool) → (not (s || t) && (u && not v)) ≡ ((not s && u) && not (t || v))
    at true t u v = refl
    at false true true v = refl
    at false true false v = refl
    at false false u v = refl

fresh-is : (seen names : List (List ℕ)) → fresh seen names ≡ (apart seen names && all_differ names)
fresh-is seen [] = refl
fresh-is seen (name ∷ names) =
    ap (λ t. not (has seen name) && t) (fresh-is (seen ++ name ∷ []) names ∙ ap (λ t. t && all_differ names) (apart-push seen names name))
    ∙ at (not (has seen name)) (apart seen names) (not (list_any (λ other. bytes_eq other name) names)) (all_differ names)
  where
    at : (s t u v : Bool) → (s && ((t && u) && v)) ≡ ((s && t) && (u && v))
    at true true u v = refl
    at true false u v = refl
    at false t u v = refl

apart-nothing : (names : List (List ℕ)) → apart [] names ≡ true
apart-nothing [] = refl
apart-nothing (name ∷ names) = apart-nothing names

pub fresh-all : (names : List (List ℕ)) → fresh [] names ≡ all_differ names
fresh-all names = fresh-is [] names ∙ ap (λ t. t && all_differ names) (apart-nothing names)

has-formal : {A : Type 0} (f : A → List ℕ) (later : List A) (name : List ℕ)
    → list_any (λ p. bytes_eq (formal_of (f p)) name) later ≡ list_any (λ other. bytes_eq other name) (map formal_of (map f later))
has-formal f [] name = refl
has-formal f (p ∷ later) name = ap (λ t. bytes_eq (formal_of (f p)) name || t) (has-formal f later name)

-- a pair and those behind it
pub few-more : {A : Type 0} (f : A → List ℕ) (all : List (List ℕ)) (later : List A) (pair name : List ℕ) (seen rest : Bool) → all ≡ pair ∷ map f later
    → name ≡ formal_of pair → seen ≡ list_any (λ p. bytes_eq (formal_of (f p)) name) later → rest ≡ all_differ (map formal_of (map f later))
    → (not seen && rest) ≡ all_differ (map formal_of all)
few-more f all later pair name seen rest is e h r =
    ap (λ b. not b && rest) (h ∙ has-formal f later name ∙ ap (has (map formal_of (map f later))) e)
    ∙ ap (λ b. not (has (map formal_of (map f later)) (formal_of pair)) && b) r
    ∙ sym (ap (λ ps. all_differ (map formal_of ps)) is)

-- a look-up tells whether a name was seen
pub has-some : (names : List (List ℕ)) (name : List ℕ) (n : ℕ) → Some n ≡ number_of names name → has names name ≡ true
has-some names name n e = by (has names name) e
  where
    by : (b : Bool) → Some n ≡ cond b (Some (place bytes_eq names name)) None → b ≡ true
    by true e = refl
    by false e = cc

pub has-none : (names : List (List ℕ)) (name : List ℕ) → None ≡ number_of names name → has names name ≡ false
has-none names name e = by (has names name) e
  where
    by : (b : Bool) → None ≡ cond b (Some (place bytes_eq names name)) None → b ≡ false
    by true e = cc
    by false e = refl

pub noted-new : (names : List (List ℕ)) (name : List ℕ) → has names name ≡ false → note bytes_eq names name ≡ names ++ name ∷ []
noted-new names name e = ap (λ b. cond b names (names ++ name ∷ [])) e

-- the words of a call, by its pairs
pub called-then : {E : Type 0} (r : Result Bool E) (all pairs : List (List ℕ)) (model : List ℕ) → all ≡ model ∷ pairs → list_all is_pair pairs ≡ true
    → IfOk r (λ b. b ≡ all_differ (map formal_of pairs)) → IfOk r (λ b. b ≡ is_called all)
called-then (Ok b) all pairs model is good h = h ∙ sym (ap (λ t. t && all_differ (map formal_of pairs)) good) ∙ sym (ap is_called is)
called-then (Err e) all pairs model is good h = tt

pub called-else : (all pairs : List (List ℕ)) (model : List ℕ) → all ≡ model ∷ pairs → list_all is_pair pairs ≡ false → false ≡ is_called all
called-else all pairs model is bad = sym (ap (λ t. t && all_differ (map formal_of pairs)) bad) ∙ sym (ap is_called is)

drop-at : {A : Type 0} (xs : List A) (i : ℕ) (other : A) → i < length xs → drop i xs ≡ get_or xs i other ∷ drop (suc i) xs
drop-at [] i other lt = absurd (omega arith)
drop-at (x ∷ xs) zero other lt = refl
drop-at (x ∷ xs) (suc i) other lt = drop-at xs i other (omega arith)

-- a formal that was seen stands twice
pub twice : {A : Type 0} (f : A → List ℕ) (pairs : List A) (other : A) (i : ℕ) (seen : List (List ℕ)) (all : Bool) → i < length pairs
    → all ≡ fresh seen (map formal_of (map f (drop i pairs))) → has seen (formal_of (f (get_or pairs i other))) ≡ true → false ≡ all
twice f pairs other i seen all lt h is =
    sym (h ∙ ap (λ xs. fresh seen (map formal_of (map f xs))) (drop-at pairs i other lt)
    ∙ ap (λ b. not b && fresh (seen ++ formal_of (f (get_or pairs i other)) ∷ []) (map formal_of (map f (drop (suc i) pairs)))) is)
