-- Lists that are read from the left: whether some element passes a test, and names that stand twice.
use Rattle.std.proofs.Common.{ℕ, zero, suc, ◌≡◌, ◌<◌, ◌+◌, cond, Bool, true, false, List, [], ◌∷◌, ◌++◌, length, refl, sym, ◌∙◌, ap, arith, Option, Some, None}
use Rattle.std.specs.Prelude.{slice_index_or as get_or, slice_get, take, ◌||◌, is_some}
use Rattle.std.specs.List.{list_any}
use Rattle.std.specs.Borrow.{Bor}
use Rattle.std.specs.Str.{bytes_eq}
use Rattle.std.proofs.lemmas.Bool.{false≢true}
use Rattle.std.proofs.lemmas.Option.{same_Some, none-some, slice_get_within, get_or_from_slice_get}
use Rattle.std.proofs.lemmas.Slice.Eq.{bytes_eq-Decides}
use Rattle.std.proofs.Math.Seq.{take-suc}
use Rattle.cf_model.specs.Renumbering.{note, place}
use Rattle.cf_names.specs.Numbers.{number_of}
use Rattle.cf_reference.specs.States.{is_among, repeats}
use Rattle.cf_session.specs.Statements.{bytes_of}
use Rattle.cf_session.proofs.NameFacts.{flipped}

-- the element that a loop reads
pub get-read : (names : List (Bor (List ℕ))) (i : ℕ) (blank : Bor (List ℕ)) → i < length names
    → slice_get (bytes_of names) i ≡ Some (get_or names i blank).now
get-read [] i blank inside = absurd (omega (arith, inside))
get-read (n ∷ names) zero blank inside = refl
get-read (n ∷ names) (suc i) blank inside = let inner : i < length names = omega (arith, inside) in get-read names i blank inner

pub length-bytes : (names : List (Bor (List ℕ))) → length (bytes_of names) ≡ length names
length-bytes [] = refl
length-bytes (n ∷ names) = ap suc (length-bytes names)

or_false : (b : Bool) → b || false ≡ b
or_false true = refl
or_false false = refl

pub any-next : {A : Type 0} (p : A → Bool) (xs : List A) (i : ℕ) (x : A) → slice_get xs i ≡ Some x
    → list_any p (take (suc i) xs) ≡ list_any p (take i xs) || p x
any-next p [] i x h = absurd (none-some x h)
any-next p (y ∷ xs) zero x h = or_false (p y) ∙ ap p (same_Some y x h)
any-next p (y ∷ xs) (suc i) x h = by (p y) (any-next p xs i x h)
  where
    by : (b : Bool) → list_any p (take (suc i) xs) ≡ list_any p (take i xs) || p x
        → b || list_any p (take (suc i) xs) ≡ (b || list_any p (take i xs)) || p x
    by true later = refl
    by false later = later

-- none of those that were read, and not the next one
pub none-next : {A : Type 0} (p : A → Bool) (xs : List A) (i : ℕ) (x : A) → slice_get xs i ≡ Some x
    → list_any p (take i xs) ≡ false → p x ≡ false → list_any p (take (i + 1) xs) ≡ false
none-next p xs i x h before this =
    let one : i + 1 ≡ suc i = omega arith in
    ap (λ n. list_any p (take n xs)) one ∙ any-next p xs i x h ∙ ap (λ b. b || p x) before ∙ this

pub any-at : {A : Type 0} (p : A → Bool) (xs : List A) (i : ℕ) (x : A) → slice_get xs i ≡ Some x → p x ≡ true
    → list_any p xs ≡ true
any-at p [] i x h e = absurd (none-some x h)
any-at p (y ∷ xs) zero x h e = ap (λ b. b || list_any p xs) (ap p (same_Some y x h) ∙ e)
any-at p (y ∷ xs) (suc i) x h e = by (p y) (any-at p xs i x h e)
  where
    by : (b : Bool) → list_any p xs ≡ true → b || list_any p xs ≡ true
    by true later = refl
    by false later = later

pub none-at : {A : Type 0} (p : A → Bool) (xs : List A) (i : ℕ) (x : A) → slice_get xs i ≡ Some x → list_any p xs ≡ false
    → p x ≡ false
none-at p xs i x h none = by (p x) refl
  where
    by : (b : Bool) → p x ≡ b → p x ≡ false
    by true e = absurd (false≢true (sym none ∙ any-at p xs i x h e))
    by false e = e

pub any-append : {A : Type 0} (p : A → Bool) (xs ys : List A) → list_any p (xs ++ ys) ≡ list_any p xs || list_any p ys
any-append p [] ys = refl
any-append p (x ∷ xs) ys = by (p x) (any-append p xs ys)
  where
    by : (b : Bool) → list_any p (xs ++ ys) ≡ list_any p xs || list_any p ys
        → b || list_any p (xs ++ ys) ≡ (b || list_any p xs) || list_any p ys
    by true later = refl
    by false later = later

-- where no element passes a test, none passes a stronger one
pub none-weaker : {A : Type 0} (p q : A → Bool) (xs : List A) → ((x : A) → p x ≡ false → q x ≡ false)
    → list_any p xs ≡ false → list_any q xs ≡ false
none-weaker p q [] weaker none = refl
none-weaker p q (x ∷ xs) weaker none = by (p x) refl none (none-weaker p q xs weaker)
  where
    by : (b : Bool) → p x ≡ b → b || list_any p xs ≡ false → (list_any p xs ≡ false → list_any q xs ≡ false)
        → q x || list_any q xs ≡ false
    by true e none later = absurd (false≢true (sym none))
    by false e none later = ap (λ b. b || list_any q xs) (weaker x e) ∙ later none

same : (name : List ℕ) → bytes_eq name name ≡ true
same name = (bytes_eq-Decides name name).1 refl

-- a name that stands among the earlier ones
pub repeats-at : (names : List (List ℕ)) (i : ℕ) (name : List ℕ) → slice_get names i ≡ Some name
    → is_among (take i names) name ≡ true → repeats names ≡ true
repeats-at [] i name h e = absurd (none-some name h)
repeats-at (first ∷ names) zero name h e = absurd (false≢true e)
repeats-at (first ∷ names) (suc i) name h e = by (bytes_eq first name) refl e (repeats-at names i name h)
  where
    or_true : (b : Bool) → b || true ≡ true
    or_true true = refl
    or_true false = refl

    by : (b : Bool) → bytes_eq first name ≡ b → b || is_among (take i names) name ≡ true
        → (is_among (take i names) name ≡ true → repeats names ≡ true)
        → is_among names first || repeats names ≡ true
    by true is e later =
        ap (λ b. b || repeats names) (any-at (λ other. bytes_eq other first) names i name h (flipped name first ∙ is))
    by false is e later = ap (λ b. is_among names first || b) (later e) ∙ or_true (is_among names first)

-- a name that doesn't
pub repeats-next : (names : List (List ℕ)) (i : ℕ) (name : List ℕ) → slice_get names i ≡ Some name
    → repeats (take i names) ≡ false → is_among (take i names) name ≡ false → repeats (take (suc i) names) ≡ false
repeats-next [] i name h before e = absurd (none-some name h)
repeats-next (first ∷ names) zero name h before e = refl
repeats-next (first ∷ names) (suc i) name h before e =
    by (is_among (take i names) first) (bytes_eq first name) (any-next (λ other. bytes_eq other first) names i name h ∙ ap (λ b. is_among (take i names) first || b) (flipped name first)) before e
    (repeats-next names i name h)
  where
    by : (a b : Bool) → is_among (take (suc i) names) first ≡ a || b → a || repeats (take i names) ≡ false
        → b || is_among (take i names) name ≡ false
        → (repeats (take i names) ≡ false → is_among (take i names) name ≡ false → repeats (take (suc i) names) ≡ false)
        → is_among (take (suc i) names) first || repeats (take (suc i) names) ≡ false
    by true b grown before e later = absurd (false≢true (sym before))
    by false true grown before e later = absurd (false≢true (sym e))
    by false false grown before e later =
        ap (λ c. c || repeats (take (suc i) names)) grown ∙ later before e

pub repeats-none : (names : List (List ℕ)) (i : ℕ) (name : List ℕ) → slice_get names i ≡ Some name
    → repeats names ≡ false → is_among (take i names) name ≡ false
repeats-none names i name h once = by (is_among (take i names) name) refl
  where
    by : (b : Bool) → is_among (take i names) name ≡ b → is_among (take i names) name ≡ false
    by true e = absurd (false≢true (sym once ∙ repeats-at names i name h e))
    by false e = e

-- A book of the names that were read says whether the next one stands among them.
among : (names : List (List ℕ)) (i : ℕ) (name : List ℕ) (seen : List (List ℕ)) (o : Option ℕ) (b : Bool)
    → seen ≡ take i names → o ≡ number_of seen name → is_some o ≡ b → is_among (take i names) name ≡ b
among names i name seen o b e is found =
    ap (λ ns. is_among ns name) (sym e) ∙ by (is_among seen name) refl ∙ ap (λ (q : Option ℕ). is_some q) (sym is) ∙ found
  where
    by : (t : Bool) → is_among seen name ≡ t → is_among seen name ≡ is_some (cond (is_among seen name) (Some (place bytes_eq seen name)) None)
    by true h = h ∙ ap (λ t. is_some (cond t (Some (place bytes_eq seen name)) None)) (sym h)
    by false h = h ∙ ap (λ t. is_some (cond t (Some (place bytes_eq seen name)) None)) (sym h)

pub repeats-found : (names : List (List ℕ)) (i : ℕ) (name : List ℕ) (seen : List (List ℕ)) (o : Option ℕ)
    → slice_get names i ≡ Some name → seen ≡ take i names → o ≡ number_of seen name → is_some o ≡ true
    → repeats names ≡ true
repeats-found names i name seen o h e is found = repeats-at names i name h (among names i name seen o true e is found)

pub noted-next : (names : List (List ℕ)) (i : ℕ) (name : List ℕ) (seen now : List (List ℕ)) (o : Option ℕ)
    → slice_get names i ≡ Some name → seen ≡ take i names → o ≡ number_of seen name → is_some o ≡ false
    → now ≡ note bytes_eq seen name → now ≡ take (i + 1) names
noted-next names i name seen now o h e is found noted =
    let one : suc i ≡ i + 1 = omega arith in
    noted ∙ ap (λ ns. note bytes_eq ns name) e
    ∙ ap (λ t. cond t (take i names) (take i names ++ name ∷ [])) (among names i name seen o false e is found)
    ∙ ap (λ x. take i names ++ x ∷ []) (sym (get_or_from_slice_get names i name name h))
    ∙ sym (take-suc names i name (slice_get_within names i name h)) ∙ ap (λ n. take n names) one

pub repeats-missed : (names : List (List ℕ)) (i : ℕ) (name : List ℕ) (seen : List (List ℕ)) (o : Option ℕ)
    → slice_get names i ≡ Some name → (seen ≡ take i names) × (repeats (take i names) ≡ false) → o ≡ number_of seen name
    → is_some o ≡ false → repeats (take (i + 1) names) ≡ false
repeats-missed names i name seen o h e is found =
    let one : i + 1 ≡ suc i = omega arith in
    ap (λ n. repeats (take n names)) one ∙ repeats-next names i name h e.1 (among names i name seen o false e.0 is found)
