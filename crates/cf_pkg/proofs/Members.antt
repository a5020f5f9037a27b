use Rattle.std.proofs.Common.{◌≡◌, ℕ, zero, suc, ◌<◌, ◌≤◌, Bool, true, false, cond, ◌||◌, List, [], ◌∷◌, ◌++◌, map, length, get_or, Some, refl, sym, ◌∙◌, ap, subst, arith, inl, inr, ◌⊎◌, length-append, nat_eq}
use Rattle.std.specs.List.{list_any, flat_map, filter, Contains}
use Rattle.std.specs.Bool.{Decides}
use Rattle.std.proofs.lemmas.Bool.{false≢true}
use Rattle.std.proofs.lemmas.Bool.Decides.{nat_tests}
use Rattle.std.proofs.lemmas.List.Elements.{Contains-append_left, Contains-append_right, Contains-append_cases, Contains-push}
use Rattle.std.proofs.lemmas.Option.{slice_get-get_or}
use Rattle.cf_model.specs.Renumbering.{AllDiffer, note, distinct_on}

pub none : {A : Type 0} (x : A) → Contains [] x → ⊥
none x c = absurd (omega (arith, c.1))

pub here : {A : Type 0} (x y : A) (ys : List A) → y ≡ x → Contains (y ∷ ys) x
here x y ys e = (0, omega arith, e)

pub later : {A : Type 0} (x y : A) (ys : List A) → Contains ys x → Contains (y ∷ ys) x
later x y ys c = (suc c.0, omega (arith, c.1), c.2)

pub first_or_later : {A : Type 0} (x y : A) (ys : List A) → Contains (y ∷ ys) x → (y ≡ x) ⊎ Contains ys x
first_or_later {A} x y ys c = by c.0 c.1 c.2
  where
    by : (k : ℕ) → k < length (y ∷ ys) → get_or (y ∷ ys) k x ≡ x → (y ≡ x) ⊎ Contains ys x
    by zero l e = inl e
    by (suc k) l e = inr (k, omega (arith, l), e)

-- the place of a member
pub place_of : {A : Type 0} (xs : List A) (d x : A) → Contains xs x → (k : ℕ) × (k < length xs) × (get_or xs k d ≡ x)
place_of [] d x c = absurd (none x c)
place_of (y ∷ ys) d x c = elim (first_or_later x y ys c) [
  | inl e ↦ (0, omega arith, e)
  | inr r ↦ (let w = place_of ys d x r in (suc w.0, omega (arith, w.1), w.2))
]

-- the members of a list that is mapped
pub mapped : {A B : Type 0} (f : A → B) (xs : List A) (x : A) → Contains xs x → Contains (map f xs) (f x)
mapped f [] x c = absurd (none x c)
mapped f (y ∷ ys) x c = elim (first_or_later x y ys c) [
  | inl e ↦ here (f x) (f y) (map f ys) (ap f e)
  | inr r ↦ later (f x) (f y) (map f ys) (mapped f ys x r)
]

pub from_mapped : {A B : Type 0} (f : A → B) (xs : List A) (z : B) → Contains (map f xs) z → (x : A) × Contains xs x × (f x ≡ z)
from_mapped f [] z c = absurd (none z c)
from_mapped f (y ∷ ys) z c = elim (first_or_later z (f y) (map f ys) c) [
  | inl e ↦ (y, here y y ys refl, e)
  | inr r ↦ (let w = from_mapped f ys z r in (w.0, later w.0 y ys w.1, w.2))
]

-- the members of lists that are put one after another
pub among : {A B : Type 0} (f : A → List B) (xs : List A) (x : A) (z : B) → Contains xs x → Contains (f x) z → Contains (flat_map f xs) z
among f [] x z c d = absurd (none x c)
among f (y ∷ ys) x z c d = elim (first_or_later x y ys c) [
  | inl e ↦ Contains-append_left (f y) (flat_map f ys) z (subst (λ (v : _). Contains (f v) z) (sym e) d)
  | inr r ↦ Contains-append_right (f y) (flat_map f ys) z (among f ys x z r d)
]

pub from_among : {A B : Type 0} (f : A → List B) (xs : List A) (z : B) → Contains (flat_map f xs) z → (x : A) × Contains xs x × Contains (f x) z
from_among f [] z c = absurd (none z c)
from_among f (y ∷ ys) z c = elim (Contains-append_cases (f y) (flat_map f ys) z c) [
  | inl d ↦ (y, here y y ys refl, d)
  | inr r ↦ (let w = from_among f ys z r in (w.0, later w.0 y ys w.1, w.2))
]

-- the members that pass a test
pub passing : {A : Type 0} (p : A → Bool) (xs : List A) (x : A) → Contains xs x → p x ≡ true → Contains (filter p xs) x
passing p [] x c t = absurd (none x c)
passing p (y ∷ ys) x c t = by (p y) refl (passing p ys x)
  where
    by : (b : Bool) → p y ≡ b → (Contains ys x → p x ≡ true → Contains (filter p ys) x) → Contains (cond b (y ∷ filter p ys) (filter p ys)) x
    by true q rest = elim (first_or_later x y ys c) [
      | inl e ↦ here x y (filter p ys) e
      | inr r ↦ later x y (filter p ys) (rest r t)
    ]
    by false q rest = elim (first_or_later x y ys c) [
      | inl e ↦ absurd (false≢true (sym q ∙ ap p e ∙ t))
      | inr r ↦ rest r t
    ]

pub from_passing : {A : Type 0} (p : A → Bool) (xs : List A) (x : A) → Contains (filter p xs) x → Contains xs x × (p x ≡ true)
from_passing p [] x c = absurd (none x c)
from_passing p (y ∷ ys) x c = by (p y) refl c (from_passing p ys x)
  where
    by : (b : Bool) → p y ≡ b → Contains (cond b (y ∷ filter p ys) (filter p ys)) x → (Contains (filter p ys) x → Contains ys x × (p x ≡ true)) → Contains (y ∷ ys) x × (p x ≡ true)
    by true q d rest = elim (first_or_later x y (filter p ys) d) [
      | inl e ↦ (here x y ys e, sym (ap p e) ∙ q)
      | inr r ↦ (let w = rest r in (later x y ys w.0, w.1))
    ]
    by false q d rest = (let w = rest d in (later x y ys w.0, w.1))

-- the members of what is noted
noted_in : {A : Type 0} (eq : A → A → Bool) (laws : (x y : A) → Decides (eq x y) (x ≡ y)) (xs : List A) (x : A) → list_any (λ y. eq y x) xs ≡ true → Contains xs x
noted_in eq laws [] x h = absurd (false≢true h)
noted_in eq laws (y ∷ ys) x h = by (eq y x) refl h (noted_in eq laws ys x)
  where
    by : (b : Bool) → eq y x ≡ b → (b || list_any (λ y. eq y x) ys) ≡ true → (list_any (λ y. eq y x) ys ≡ true → Contains ys x) → Contains (y ∷ ys) x
    by true q g rest = here x y ys ((laws y x).0 q)
    by false q g rest = later x y ys (rest g)

note_has : {A : Type 0} (eq : A → A → Bool) (laws : (x y : A) → Decides (eq x y) (x ≡ y)) (seen : List A) (x : A) → Contains (note eq seen x) x
note_has eq laws seen x = by (list_any (λ y. eq y x) seen) refl
  where
    by : (b : Bool) → list_any (λ y. eq y x) seen ≡ b → Contains (cond b seen (seen ++ x ∷ [])) x
    by true e = noted_in eq laws seen x e
    by false e = Contains-push seen x

note_keeps : {A : Type 0} (eq : A → A → Bool) (seen : List A) (x z : A) → Contains seen z → Contains (note eq seen x) z
note_keeps eq seen x z c = by (list_any (λ y. eq y x) seen)
  where
    by : (b : Bool) → Contains (cond b seen (seen ++ x ∷ [])) z
    by true = c
    by false = Contains-append_left seen (x ∷ []) z c

note_from : {A : Type 0} (eq : A → A → Bool) (seen : List A) (x z : A) → Contains (note eq seen x) z → Contains seen z ⊎ (x ≡ z)
note_from eq seen x z c = by (list_any (λ y. eq y x) seen) c
  where
    by : (b : Bool) → Contains (cond b seen (seen ++ x ∷ [])) z → Contains seen z ⊎ (x ≡ z)
    by true d = inl d
    by false d = elim (Contains-append_cases seen (x ∷ []) z d) [
      | inl a ↦ inl a
      | inr b ↦ elim (first_or_later z x [] b) [
        | inl e ↦ inr e
        | inr n ↦ absurd (none z n)
      ]
    ]

-- the different labels are the labels
pub distinct_has : {A : Type 0} (eq : A → A → Bool) (laws : (x y : A) → Decides (eq x y) (x ≡ y)) (seen xs : List A) (x : A) → Contains seen x ⊎ Contains xs x → Contains (distinct_on eq seen xs) x
distinct_has eq laws seen [] x c = elim c [
  | inl a ↦ a
  | inr b ↦ absurd (none x b)
]
distinct_has eq laws seen (y ∷ ys) x c = distinct_has eq laws (note eq seen y) ys x (elim c [
  | inl a ↦ inl (note_keeps eq seen y x a)
  | inr b ↦ elim (first_or_later x y ys b) [
    | inl e ↦ inl (subst (λ (v : _). Contains (note eq seen y) v) e (note_has eq laws seen y))
    | inr r ↦ inr r
  ]
])

pub distinct_from : {A : Type 0} (eq : A → A → Bool) (seen xs : List A) (x : A) → Contains (distinct_on eq seen xs) x → Contains seen x ⊎ Contains xs x
distinct_from eq seen [] x c = inl c
distinct_from eq seen (y ∷ ys) x c = elim (distinct_from eq (note eq seen y) ys x c) [
  | inl a ↦ elim (note_from eq seen y x a) [
    | inl s ↦ inl s
    | inr e ↦ inr (here x y ys e)
  ]
  | inr b ↦ inr (later x y ys b)
]

pub distinct_on-append : {A : Type 0} (eq : A → A → Bool) (seen xs ys : List A) → distinct_on eq seen (xs ++ ys) ≡ distinct_on eq (distinct_on eq seen xs) ys
distinct_on-append eq seen [] ys = refl
distinct_on-append eq seen (x ∷ xs) ys = distinct_on-append eq (note eq seen x) xs ys

-- a member, with what stands before and after it
parted : {A : Type 0} (ys : List A) (x : A) → Contains ys x → (before : List A) × (after : List A) × (ys ≡ before ++ x ∷ after)
parted [] x c = absurd (none x c)
parted {A} (y ∷ ys) x c = elim (first_or_later x y ys c) [
  | inl e ↦ ([], ys, ap (λ (v : A). v ∷ ys) e)
  | inr r ↦ (let w = parted ys x r in (y ∷ w.0, w.1, ap (λ (v : List A). y ∷ v) w.2))
]

AllDiffer-rest : {A : Type 0} (x : A) (xs : List A) → AllDiffer (x ∷ xs) → AllDiffer xs
AllDiffer-rest x xs d i j y hi hj = (let e : suc i ≡ suc j = d (suc i) (suc j) y hi hj in omega (arith, e))

AllDiffer-first : {A : Type 0} (x : A) (xs : List A) → AllDiffer (x ∷ xs) → Contains xs x → ⊥
AllDiffer-first x xs d c =
    let e : 0 ≡ suc c.0 = d 0 (suc c.0) x refl (slice_get-get_or xs c.0 x c.1 ∙ ap Some c.2) in
    absurd (omega (arith, e))

-- a list whose entries differ is no longer than one that has them all
pub no_longer : {A : Type 0} (xs ys : List A) → AllDiffer xs → ((x : A) → Contains xs x → Contains ys x) → length xs ≤ length ys
no_longer [] ys d h = omega arith
no_longer (x ∷ xs) ys d h =
    let w = parted ys x (h x (here x x xs refl)) in
    let rest : length xs ≤ length (w.0 ++ w.1) = no_longer xs (w.0 ++ w.1) (AllDiffer-rest x xs d)
    (λ z c. elim (Contains-append_cases w.0 (x ∷ w.1) z (subst (λ (v : List _). Contains v z) w.2 (h z (later z x xs c)))) [
      | inl a ↦ Contains-append_left w.0 w.1 z a
      | inr b ↦ elim (first_or_later z x w.1 b) [
        | inl e ↦ absurd (AllDiffer-first x xs d (subst (λ (v : _). Contains xs v) (sym e) c))
        | inr r ↦ Contains-append_right w.0 w.1 z r
      ]
    ]) in
    omega (arith, rest, ap length w.2, length-append w.0 (x ∷ w.1), length-append w.0 w.1)

-- two lists whose entries differ, and that have the same members, are equally long
pub equally_long : {A : Type 0} (xs ys : List A) → AllDiffer xs → AllDiffer ys → ((x : A) → Contains xs x → Contains ys x) → ((x : A) → Contains ys x → Contains xs x) → length xs ≡ length ys
equally_long xs ys d e h k = omega (arith, no_longer xs ys d h, no_longer ys xs e k)

-- a label that is entered among those that were read
nat_eq-turned : (x y : ℕ) → nat_eq x y ≡ nat_eq y x
nat_eq-turned x y = grind (arith, nat_tests)

any-turned : (x : ℕ) (keys : List ℕ) → list_any (nat_eq x) keys ≡ list_any (λ y. nat_eq y x) keys
any-turned x [] = refl
any-turned x (key ∷ keys) = ap (λ (b : Bool). b || list_any (nat_eq x) keys) (nat_eq-turned x key) ∙ ap (λ (b : Bool). nat_eq key x || b) (any-turned x keys)

pub entered : (seen xs keys now : List ℕ) (x : ℕ) → keys ≡ distinct_on nat_eq seen xs → now ≡ cond (list_any (nat_eq x) keys) keys (keys ++ x ∷ []) → now ≡ distinct_on nat_eq seen (xs ++ x ∷ [])
entered seen xs keys now x e q =
    q ∙ ap (λ (b : Bool). cond b keys (keys ++ x ∷ [])) (any-turned x keys) ∙ ap (λ (ks : List ℕ). note nat_eq ks x) e ∙ sym (distinct_on-append nat_eq seen xs (x ∷ []))
