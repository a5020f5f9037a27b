-- A model calls itself where a chain of at most as many calls as there are models comes back to it.
use Rattle.std.proofs.Common.{◌≡◌, zero, suc, ℕ, ◌+◌, ◌<◌, ◌≤◌, ◌==◌, Bool, true, false, cond, ◌||◌, List, [], ◌∷◌, Option, Some, None, length, get_or, refl, sym, ap, ◌∙◌, subst, inl, inr, ◌⊎◌, arith}
use Rattle.std.specs.List.{slice_get, list_any, Contains}
use Rattle.std.specs.Option.{option_and_then, option_map_or}
use Rattle.std.proofs.lemmas.Bool.{cases_lt, cases_eq, false≢true, eqb-true, eq-eqb, or_left, or_right, or_from, false_from_ne_true}
use Rattle.std.proofs.lemmas.List.{get_or_past}
use Rattle.std.proofs.lemmas.Option.{same_Some, slice_get_within, slice_get-get_or, get_or_from_slice_get}
use Rattle.cf_order.specs.Orders.{row, Needs, Chain, HasNoRing}
use Rattle.cf_order.specs.Rings.{IsOnRing, IsFirstOnRing}
use Rattle.cf_order.specs.Chains.{end_of, chains}
use Rattle.cf_order.proofs.ChainLaws.{each_listed}
use Rattle.cf_circuits.specs.LinkFaults.{comes_back, is_recursive, recursive_from}
use Rattle.cf_hierarchy.proofs.SpreadLaws.{then_cases}
use Rattle.cf_hierarchy.proofs.Counting.{Has, without, length-without, has-without, range, length-range, range-get}

-- an item that passes the test
pub any-get : {A : Type 0} (test : A → Bool) (xs : List A) → list_any test xs ≡ true
    → (k : ℕ) × (x : A) × (slice_get xs k ≡ Some x) × (test x ≡ true)
any-get test [] h = absurd (false≢true h)
any-get test (x ∷ xs) h = by (test x) refl h (any-get test xs)
  where
    by : (b : Bool) → test x ≡ b → (b || list_any test xs) ≡ true
        → (list_any test xs ≡ true → (k : ℕ) × (y : _) × (slice_get xs k ≡ Some y) × (test y ≡ true))
        → (k : ℕ) × (y : _) × (slice_get (x ∷ xs) k ≡ Some y) × (test y ≡ true)
    by true e h rest = (0, x, refl, e)
    by false e h rest = let later = rest h in (suc later.0, later.1, later.2, later.3)

pub any-from : {A : Type 0} (test : A → Bool) (xs : List A) (k : ℕ) (x : A) → slice_get xs k ≡ Some x → test x ≡ true
    → list_any test xs ≡ true
any-from test [] k x h e = cc
any-from test (y ∷ xs) zero x h e = or_left (test y) (list_any test xs) (ap test (same_Some y x h) ∙ e)
any-from test (y ∷ xs) (suc k) x h e = or_right (test y) (list_any test xs) (any-from test xs k x h e)

pub any-none : {A : Type 0} (test : A → Bool) (xs : List A) → ((k : ℕ) (x : A) → slice_get xs k ≡ Some x → test x ≡ false)
    → list_any test xs ≡ false
any-none test [] h = refl
any-none test (x ∷ xs) h = or_from (test x) (list_any test xs) (h 0 x refl) (any-none test xs (λ k y e. h (suc k) y e))

pub contains-get : {A : Type 0} (xs : List A) (x : A) → Contains xs x → (k : ℕ) × (slice_get xs k ≡ Some x)
contains-get xs x (k, l, e) = (k, slice_get-get_or xs k x l ∙ ap Some e)

pub get-contains : {A : Type 0} (xs : List A) (k : ℕ) (x : A) → slice_get xs k ≡ Some x → Contains xs x
get-contains xs k x h = (k, slice_get_within xs k x h, get_or_from_slice_get xs k x x h)

-- calls that lead to a model are a chain of needs
needs-of : (rows : List (List ℕ)) (m i : ℕ) (is : List ℕ) (e : ℕ) → end_of rows m (i ∷ is) ≡ Some e
    → (rest : List ℕ) × Chain rows m rest e
needs-of rows m i [] e h =
    let c = then_cases (λ c. end_of rows c []) (slice_get (row rows m) i) e h in
    ([], subst (λ n. Needs rows m n) (same_Some c.0 e c.2) (get-contains (row rows m) i c.0 c.1))
needs-of rows m i (j ∷ js) e h =
    let c = then_cases (λ c. end_of rows c (j ∷ js)) (slice_get (row rows m) i) e h in
    let later = needs-of rows c.0 j js e c.2 in
    (c.0 ∷ later.0, (get-contains (row rows m) i c.0 c.1, later.1))

back-of : (o : Option ℕ) (m : ℕ) → option_map_or (λ e. e == m) o false ≡ true → o ≡ Some m
back-of None m h = absurd (false≢true h)
back-of (Some e) m h = ap Some (eqb-true e m h)

-- a chain that comes back makes a ring
pub recursive-ring : (rows : List (List ℕ)) (m : ℕ) → is_recursive rows m ≡ true → IsOnRing rows m
recursive-ring rows m h =
    let found = any-get (comes_back rows m) (chains rows (length rows) m) h in
    by found.1 found.3
  where
    by : (is : List ℕ) → comes_back rows m is ≡ true → IsOnRing rows m
    by [] e = absurd (false≢true e)
    by (i ∷ is) e = needs-of rows m i is m (back-of (end_of rows m (i ∷ is)) m e)

-- no item stands twice
abbrev Apart : List ℕ → Type 0
Apart [] = Unit {0}
Apart (x ∷ xs) = (Has xs x → ⊥) × Apart xs

find : (x : ℕ) (xs : List ℕ) → Has xs x ⊎ (Has xs x → ⊥)
find x [] = inr (λ h. let none : ⊥ = cc (h.1) in none)
find x (y ∷ xs) = elim (cases_eq y x) [
  | inl e ↦ inl (0, ap Some e)
  | inr ne ↦ elim (find x xs) [
    | inl h ↦ inl (suc h.0, h.1)
    | inr lacks ↦ inr (λ h. other h.0 h.1 ne lacks)
  ]
]
  where
    other : (k : ℕ) → slice_get (y ∷ xs) k ≡ Some x → (y ≡ x → ⊥) → (Has xs x → ⊥) → ⊥
    other zero e ne lacks = ne (same_Some y x e)
    other (suc k) e ne lacks = lacks (k, e)

-- A chain without detours.
record Straight (rows : List (List ℕ)) (a b : ℕ) : Type 0 where
  rest : List ℕ
  chain : Chain rows a rest b
  apart : Apart (a ∷ rest)

cut : (rows : List (List ℕ)) (c : ℕ) (cs : List ℕ) (a b i : ℕ) → Chain rows c cs b → Apart (c ∷ cs) → slice_get (c ∷ cs) i ≡ Some a
    → Straight rows a b
cut rows c cs a b zero h apart e =
    subst (λ n. Straight rows n b) (same_Some c a e) (record { rest = cs; chain = h; apart = apart })
cut rows c [] a b (suc i) h apart e = cc
cut rows c (d ∷ ds) a b (suc i) h apart e = cut rows d ds a b i h.1 apart.1 e

straight : (rows : List (List ℕ)) (a : ℕ) (rest : List ℕ) (b : ℕ) → Chain rows a rest b → Straight rows a b
straight rows a [] b h = record { rest = []; chain = h; apart = ((λ h. let none : ⊥ = cc (h.1) in none), tt) }
straight rows a (c ∷ cs) b h =
    let s = straight rows c cs b h.1 in
    elim (find a (c ∷ s.rest)) [
      | inl at ↦ cut rows c s.rest a b at.0 s.chain s.apart at.1
      | inr lacks ↦ record { rest = c ∷ s.rest; chain = (h.0, s.chain); apart = (lacks, s.apart) }
    ]

-- items that are all there, none twice, are no more than all
fits : (xs ys : List ℕ) → Apart xs → ((x : ℕ) → Has xs x → Has ys x) → length xs ≤ length ys
fits [] ys apart h = omega arith
fits (x ∷ xs) ys apart h =
    let at = h x (0, refl) in
    let rest = fits xs (without at.0 ys) apart.1
    (λ y has. has-without at.0 ys x y at.1 (λ e. apart.0 (subst (Has xs) e has)) (h y (suc has.0, has.1))) in
    let long = length-without at.0 ys x at.1 in
    omega (arith, rest, long)

needs-within : (rows : List (List ℕ)) (a t : ℕ) → Needs rows a t → a < length rows
needs-within rows a t h = elim (cases_lt a (length rows)) [
  | inl l ↦ l
  | inr past ↦ let none = ap length (get_or_past rows a [] past) in absurd (omega (arith, h.1, none))
]

chain-within : (rows : List (List ℕ)) (a : ℕ) (rest : List ℕ) (b x i : ℕ) → Chain rows a rest b → slice_get (a ∷ rest) i ≡ Some x
    → x < length rows
chain-within rows a [] b x zero h e = subst (λ n. n < length rows) (same_Some a x e) (needs-within rows a b h)
chain-within rows a [] b x (suc i) h e = cc
chain-within rows a (c ∷ cs) b x zero h e = subst (λ n. n < length rows) (same_Some a x e) (needs-within rows a c h.0)
chain-within rows a (c ∷ cs) b x (suc i) h e = chain-within rows c cs b x i h.1 e

-- Calls that lead from a model to another.
record Leads (rows : List (List ℕ)) (a b n : ℕ) : Type 0 where
  first : ℕ
  later : List ℕ
  end : end_of rows a (first ∷ later) ≡ Some b
  long : length later ≡ n

leads : (rows : List (List ℕ)) (a : ℕ) (rest : List ℕ) (b : ℕ) → Chain rows a rest b → Leads rows a b (length rest)
leads rows a [] b h =
    let at = contains-get (row rows a) b h in
    record { first = at.0; later = []; end = ap (option_and_then (λ c. end_of rows c [])) at.1; long = refl }
leads rows a (c ∷ cs) b h =
    let at = contains-get (row rows a) c h.0 in
    let more = leads rows c cs b h.1 in
    record {
      first = at.0;
      later = more.first ∷ more.later;
      end = ap (option_and_then (λ c. end_of rows c (more.first ∷ more.later))) at.1 ∙ more.end;
      long = ap suc more.long;
    }

-- a model on a ring is one that calls itself
pub ring-recursive : (rows : List (List ℕ)) (m : ℕ) → IsOnRing rows m → is_recursive rows m ≡ true
ring-recursive rows m (rest, h) =
    let s = straight rows m rest m h in
    let few = fits (m ∷ s.rest) (range 0 (length rows)) s.apart
    (λ x has.
    let within = chain-within rows m s.rest m x has.0 s.chain has.1 in
    let z : 0 + x ≡ x = omega arith in
    (x, range-get 0 (length rows) x within ∙ ap Some z)) in
    let long = length-range 0 (length rows) in
    let calls = leads rows m s.rest m s.chain in
    let same = calls.long in
    let listed = each_listed rows (length rows) m (calls.first ∷ calls.later) (m, calls.end) (omega (arith, few, long, same)) in
    let at = contains-get (chains rows (length rows) m) (calls.first ∷ calls.later) listed in
    any-from (comes_back rows m) (chains rows (length rows) m) at.0 (calls.first ∷ calls.later) at.1
    (ap (λ o. option_map_or (λ e. e == m) o false) calls.end ∙ eq-eqb m m refl)

-- the first name whose model does
pub first-recursive : (rows : List (List ℕ)) (k j : ℕ) (names : List (List ℕ)) (name : List ℕ) → slice_get names j ≡ Some name
    → is_recursive rows (k + j) ≡ true → ((i : ℕ) → i < j → is_recursive rows (k + i) ≡ false)
    → recursive_from rows k names ≡ Some name
first-recursive rows k j [] name h at before = cc
first-recursive rows k zero (x ∷ names) name h at before =
    let z : k + 0 ≡ k = omega arith in
    ap (λ b. cond b (Some x) (recursive_from rows (suc k) names)) (ap (is_recursive rows) (sym z) ∙ at) ∙ h
first-recursive rows k (suc j) (x ∷ names) name h at before =
    let z : k + 0 ≡ k = omega arith in
    let next : suc k + j ≡ k + suc j = omega arith in
    ap (λ b. cond b (Some x) (recursive_from rows (suc k) names))
    (ap (is_recursive rows) (sym z) ∙ before 0 (omega arith))
    ∙ first-recursive rows (suc k) j names name h (ap (is_recursive rows) next ∙ at)
    (λ i l. let up : suc k + i ≡ k + suc i = omega arith in ap (is_recursive rows) up ∙ before (suc i) (omega (arith, l)))

pub none-recursive : (rows : List (List ℕ)) (k : ℕ) (names : List (List ℕ)) → ((i : ℕ) → is_recursive rows i ≡ false)
    → recursive_from rows k names ≡ None
none-recursive rows k [] h = refl
none-recursive rows k (x ∷ names) h =
    ap (λ b. cond b (Some x) (recursive_from rows (suc k) names)) (h k) ∙ none-recursive rows (suc k) names h

-- the first on a ring is the first that is told
pub first-told : (rows : List (List ℕ)) (names : List (List ℕ)) (at : ℕ) (name : List ℕ) → IsFirstOnRing rows at
    → slice_get names at ≡ Some name → recursive_from rows 0 names ≡ Some name
first-told rows names at name first h =
    let z : 0 + at ≡ at = omega arith in
    first-recursive rows 0 at names name h (ap (is_recursive rows) z ∙ ring-recursive rows at first.0)
    (λ i l.
    let y : 0 + i ≡ i = omega arith in
    ap (is_recursive rows) y ∙ false_from_ne_true (is_recursive rows i) (λ e. first.1 i l (recursive-ring rows i e)))

pub none-told : (rows : List (List ℕ)) (names : List (List ℕ)) → HasNoRing rows → recursive_from rows 0 names ≡ None
none-told rows names none =
    none-recursive rows 0 names
    (λ i. false_from_ne_true (is_recursive rows i) (λ e. let ring = recursive-ring rows i e in none (i ∷ ring.0) ring.1))
