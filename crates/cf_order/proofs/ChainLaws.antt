use Rattle.std.proofs.Common.{◌≡◌, zero, suc, ℕ, ◌+◌, ◌-◌, ◌<◌, ◌≤◌, List, [], ◌∷◌, ◌++◌, Option, Some, None, length, get_or, map, min, refl, sym, ap, ◌∙◌, subst, inl, inr, ◌⊎◌, arith, length-append}
use Rattle.std.specs.List.{slice_get, sum_by, Contains}
use Rattle.std.specs.Prelude.{slice_index}
use Rattle.std.specs.Option.{option_and_then, option_map_or}
use Rattle.std.proofs.lemmas.List.Sums.{sum_by-append, sum_by-cons}
use Rattle.std.proofs.lemmas.Bool.{cases_lt}
use Rattle.std.proofs.lemmas.List.{length-map, get_or-map}
use Rattle.std.proofs.lemmas.List.Elements.{Contains-append_left, Contains-append_right, Contains-append_cases}
use Rattle.std.proofs.lemmas.Option.{slice_get_within, get_or_from_slice_get}
use Rattle.cf_order.specs.Orders.{row}
use Rattle.cf_order.specs.Chains.{end_of, IsChain, IsLongest, branches, chains, ListsChains, weight_at, total, tallest}

-- the same by recursion on the number of calls
pub size : List (List ℕ) → List ℕ → ℕ → ℕ → ℕ
size calls weights zero m = slice_index weights m
size calls weights (suc k) m = slice_index weights m + sum_by (size calls weights k) (row calls m)

sum_by-shifted : (f g : List ℕ → ℕ) (j : ℕ) → ((is : List ℕ) → f (j ∷ is) ≡ g is)
    → (xs : List (List ℕ)) → sum_by f (map (λ is. j ∷ is) xs) ≡ sum_by g xs
sum_by-shifted f g j h [] = refl
sum_by-shifted f g j h (x ∷ xs) = let e = sum_by-cons f (j ∷ x) (map (λ is. j ∷ is) xs) in omega
    (arith, e, sum_by-cons g x xs, h x, sum_by-shifted f g j h xs)

sum_by-branches : (sub : ℕ → List (List ℕ)) (f : List ℕ → ℕ) (g : ℕ → List ℕ → ℕ) (j : ℕ)
    (cs : List ℕ)
    → ((i c : ℕ) → slice_get cs i ≡ Some c → (is : List ℕ) → f ((j + i) ∷ is) ≡ g c is)
    → sum_by f (branches sub j cs) ≡ sum_by (λ c. sum_by (g c) (sub c)) cs
sum_by-branches sub f g j [] h = refl
sum_by-branches sub f g j (c ∷ cs) h =
    let z : j + 0 ≡ j = omega arith in
    let first = sum_by-shifted f (g c) j (λ is. ap (λ n. f (n ∷ is)) (sym z) ∙ h 0 c refl is)
    (sub c) in
    let rest = sum_by-branches sub f g (suc j) cs
    (λ i d e is. let y : suc j + i ≡ j + suc i = omega arith in ap (λ n. f (n ∷ is)) y ∙ h
    (suc i) d e is) in
    let split = sum_by-cons (λ c. sum_by (g c) (sub c)) c cs in
    omega (
      arith,
      split,
      sum_by-append f (map (λ is. j ∷ is) (sub c)) (branches sub (suc j) cs),
      first,
      rest,
    )

sum_by_zero : (xs : List ℕ) → sum_by (λ x. 0) xs ≡ 0
sum_by_zero [] = refl
sum_by_zero (x ∷ xs) = let e = sum_by-cons (λ (x : ℕ). 0) x xs in omega (arith, e, sum_by_zero xs)

sum_by-agree : (f g : ℕ → ℕ) → ((x : ℕ) → f x ≡ g x) → (xs : List ℕ) → sum_by f xs ≡ sum_by g xs
sum_by-agree f g h [] = refl
sum_by-agree f g h (x ∷ xs) = omega (
  arith,
  sum_by-cons f x xs,
  sum_by-cons g x xs,
  h x,
  sum_by-agree f g h xs,
)

-- the weight of all chains, by recursion
pub total_is : (calls : List (List ℕ)) (weights : List ℕ) (k m : ℕ)
    → total calls weights k m ≡ size calls weights k m
unfolding total chains size
total_is calls weights zero m = let e = sum_by-cons (weight_at calls weights m) [] [] in omega
    (arith, e)
total_is calls weights (suc k) m =
    let b = sum_by-branches (chains calls k) (weight_at calls weights m) (weight_at calls weights) 0
    (row calls m)
    (λ i c e is. let z : 0 + i ≡ i = omega arith in
    ap (λ n. weight_at calls weights m (n ∷ is)) z ∙ ap
    (λ o. option_map_or (slice_index weights) (option_and_then (λ c. end_of calls c is) o)
    0) e) in
    let s = sum_by-agree (total calls weights k) (size calls weights k) (total_is calls weights k)
    (row calls m) in
    let e = sum_by-cons (weight_at calls weights m) [] (branches (chains calls k) 0 (row calls m))
    in
    omega (arith, e, b, s)

-- a chain of a callee goes on from its caller
chain_cons : (calls : List (List ℕ)) (m i c : ℕ) (is : List ℕ) → slice_get (row calls m) i ≡ Some c
    → IsChain calls c is → IsChain calls m (i ∷ is)
chain_cons calls m i c is h (e, at) = (e, ap (option_and_then (λ c. end_of calls c is)) h ∙ at)

then_cases : {A B : Type 0} (f : A → Option B) (o : Option A) (b : B) → option_and_then f o ≡ Some b
    → (a : A) × (o ≡ Some a) × (f a ≡ Some b)
then_cases f None b h = absurd (cc)
then_cases f (Some a) b h = (a, refl, h)

-- a chain that isn't empty begins with a call
chain_uncons : (calls : List (List ℕ)) (m i : ℕ) (is : List ℕ) → IsChain calls m (i ∷ is)
    → (c : ℕ) × (slice_get (row calls m) i ≡ Some c) × IsChain calls c is
chain_uncons calls m i is (e, at) =
    let t = then_cases (λ c. end_of calls c is) (slice_get (row calls m) i) e at in
    (t.0, t.1, (e, t.2))

tallest_most : (heights : List ℕ) (cs : List ℕ) (i c : ℕ) → slice_get cs i ≡ Some c
    → slice_index heights c + 1 ≤ tallest heights cs
tallest_most heights [] i c h = absurd (cc)
tallest_most heights (a ∷ cs) zero c h = let e : a ≡ c = cc in let f = ap
    (λ n. slice_index heights n) e in omega (arith, f)
tallest_most heights (a ∷ cs) (suc i) c h = omega (arith, tallest_most heights cs i c h)

tallest_reached : (heights : List ℕ) (cs : List ℕ)
    → (tallest heights cs ≡ 0) ⊎ ((i : ℕ) × (c : ℕ) × (slice_get cs i ≡ Some c) ×
    (slice_index heights c + 1 ≡ tallest heights cs))
tallest_reached heights [] = inl refl
tallest_reached heights (a ∷ cs) = elim (cases_lt (slice_index heights a) (tallest heights cs)) [
  | inl l ↦ elim (tallest_reached heights cs) [
    | inl z ↦ absurd (omega arith)
    | inr at ↦ inr (suc at.0, at.1, at.2, omega (arith, at.3))
  ]
  | inr g ↦ inr (0, a, refl, omega arith)
]

-- the longest chain of a model is one longer than those of the models that it calls
pub longest_of : (calls : List (List ℕ)) (m : ℕ) (heights : List ℕ)
    → ((i c : ℕ) → slice_get (row calls m) i ≡ Some c → IsLongest calls c (slice_index heights c))
    → IsLongest calls m (tallest heights (row calls m))
longest_of calls m heights below = record {
  most = most;
  reached = elim (tallest_reached heights (row calls m)) [
    | inl z ↦ ([], (m, refl), sym z)
    | inr at ↦
        let r = (below at.0 at.1 at.2).reached in
        (at.0 ∷ r.0, chain_cons calls m at.0 at.1 r.0 at.2 r.1, omega (arith, at.3, r.2))
  ];
} where
  most : (is : List ℕ) → IsChain calls m is → length is ≤ tallest heights (row calls m)
  most [] chain = omega arith
  most (i ∷ is) chain =
      let u = chain_uncons calls m i is chain in
      omega (arith, tallest_most heights (row calls m) i u.0 u.1, (below i u.0 u.1).most is u.2)

sum_min : (n w : ℕ) (f g : ℕ → ℕ) (cs : List ℕ)
    → ((i c : ℕ) → slice_get cs i ≡ Some c → f c ≡ min n (g c))
    → min n (w + sum_by f cs) ≡ min n (w + sum_by g cs)
sum_min n w f g [] h = refl
sum_min n w f g (c ∷ cs) h =
    let a = sum_by-cons f c cs in let b = sum_by-cons g c cs in
    let rest = sum_min n (w + g c) f g cs (λ i d e. h (suc i) d e) in
    omega (arith, a, b, h 0 c refl, rest)

-- what a model weighs with all that it calls, from what these weigh
pub size_of : (calls : List (List ℕ)) (weights heights counts : List ℕ) (n m : ℕ)
    → ((i c b : ℕ) → slice_get (row calls m) i ≡ Some c → slice_index heights c ≤ b
    → slice_index counts c ≡ min n (size calls weights b c))
    → (b : ℕ) → tallest heights (row calls m) ≤ b
    → min n (slice_index weights m + sum_by (slice_index counts) (row calls m)) ≡ min n
    (size calls weights b m)
unfolding size
size_of calls weights heights counts n m below zero h =
    let none = sum_min n (slice_index weights m) (slice_index counts) (λ c. 0) (row calls m)
    (λ i c e. let t = tallest_most heights (row calls m) i c e in absurd (omega arith)) in
    let z = sum_by_zero (row calls m) in omega (arith, none, z)
size_of calls weights heights counts n m below (suc b) h =
    sum_min n (slice_index weights m) (slice_index counts) (size calls weights b) (row calls m)
    (λ i c e. below i c b e (let t = tallest_most heights (row calls m) i c e in omega arith))

-- lists of chains
contains_map : (f : List ℕ → List ℕ) (xs : List (List ℕ)) (x : List ℕ) → Contains xs x
    → Contains (map f xs) (f x)
contains_map f xs x (k, h, e) = (
  k,
  omega (arith, length-map xs f),
  get_or-map f xs k x (f x) h ∙ ap
      f e,
)

contains_branch : (sub : ℕ → List (List ℕ)) (j : ℕ) (cs : List ℕ) (i c : ℕ) (is : List ℕ)
    → slice_get cs i ≡ Some c → Contains (sub c) is → Contains (branches sub j cs) ((j + i) ∷ is)
contains_branch sub j [] i c is h k = absurd (cc)
contains_branch sub j (a ∷ cs) zero c is h k =
    let e : c ≡ a = cc in let z : j ≡ j + 0 = omega arith in
    subst (λ n. Contains (branches sub j (a ∷ cs)) (n ∷ is)) z
    (Contains-append_left (map (λ is. j ∷ is) (sub a)) (branches sub (suc j) cs) (j ∷ is)
    (contains_map (λ is. j ∷ is) (sub a) is (subst (λ b. Contains (sub b) is) e k)))
contains_branch sub j (a ∷ cs) (suc i) c is h k =
    let z : suc j + i ≡ j + suc i = omega arith in
    Contains-append_right (map (λ is. j ∷ is) (sub a)) (branches sub (suc j) cs) ((j + suc i) ∷ is)
    (subst (λ n. Contains (branches sub (suc j) cs) (n ∷ is)) z
    (contains_branch sub (suc j) cs i c is h k))

contains_cons : {A : Type 0} (x : A) (xs : List A) (y : A) → Contains xs y → Contains (x ∷ xs) y
contains_cons x xs y (k, h, e) = (suc k, omega (arith, h), e)

-- each chain is listed
pub each_listed : (calls : List (List ℕ)) (k m : ℕ) (is : List ℕ) → IsChain calls m is
    → length is ≤ k → Contains (chains calls k m) is
unfolding chains
each_listed calls zero m [] chain h = (0, omega arith, refl)
each_listed calls (suc k) m [] chain h = (0, omega arith, refl)
each_listed calls zero m (i ∷ is) chain h = absurd (omega arith)
each_listed calls (suc k) m (i ∷ is) chain h =
    let u = chain_uncons calls m i is chain in
    let z : 0 + i ≡ i = omega arith in
    contains_cons [] (branches (chains calls k) 0 (row calls m)) (i ∷ is)
    (subst (λ n. Contains (branches (chains calls k) 0 (row calls m)) (n ∷ is)) z
    (contains_branch (chains calls k) 0 (row calls m) i u.0 is u.1
    (each_listed calls k u.0 is u.2 (omega arith))))

contains_cases : {A : Type 0} (x : A) (xs : List A) (y : A) → Contains (x ∷ xs) y
    → (x ≡ y) ⊎ Contains xs y
contains_cases x xs y (zero, h, e) = inl e
contains_cases x xs y (suc k, h, e) = inr (k, omega (arith, h), e)

map_cases : (f : List ℕ → List ℕ) (xs : List (List ℕ)) (y : List ℕ) → Contains (map f xs) y
    → (x : List ℕ) × (y ≡ f x) × Contains xs x
map_cases f [] y (k, h, e) = absurd (omega (arith, h))
map_cases f (x ∷ xs) y c = elim (contains_cases (f x) (map f xs) y c) [
  | inl e ↦ (x, sym e, (0, omega arith, refl))
  | inr d ↦ let m = map_cases f xs y d in (m.0, m.1, contains_cons x xs m.0 m.2)
]

-- what stands in the branches begins with a call of the row
branch_cases : (sub : ℕ → List (List ℕ)) (j : ℕ) (cs : List ℕ) (is : List ℕ)
    → Contains (branches sub j cs) is
    → (i : ℕ) × (c : ℕ) × (js : List ℕ) × (is ≡ (j + i) ∷ js) × (slice_get cs i ≡ Some c) × Contains
    (sub c) js
branch_cases sub j [] is (k, h, e) = absurd (omega (arith, h))
branch_cases sub j (c ∷ cs) is k = elim (Contains-append_cases (map (λ is. j ∷ is) (sub c))
    (branches sub (suc j) cs) is k) [
      | inl a ↦
          let m = map_cases (λ is. j ∷ is) (sub c) is a in let z : j ≡ j + 0 = omega arith in
          (0, c, m.0, m.1 ∙ ap (λ n. n ∷ m.0) z, refl, m.2)
      | inr b ↦
          let r = branch_cases sub (suc j) cs is b in let z : suc j + r.0 ≡ j + suc r.0 = omega arith in
          (suc r.0, r.1, r.2, r.3 ∙ ap (λ n. n ∷ r.2) z, r.4, r.5)
    ]

only_listed : (calls : List (List ℕ)) (k m : ℕ) (is : List ℕ) → Contains (chains calls k m) is
    → IsChain calls m is × (length is ≤ k)
unfolding chains
only_listed calls zero m is c = elim (contains_cases [] [] is c) [
  | inl e ↦ subst (λ is. IsChain calls m is × (length is ≤ 0)) e ((m, refl), omega arith)
  | inr d ↦ absurd (omega (arith, d.1))
]
only_listed calls (suc k) m is c = elim (contains_cases []
    (branches (chains calls k) 0 (row calls m)) is c) [
      | inl e ↦ subst (λ is. IsChain calls m is × (length is ≤ suc k)) e ((m, refl), omega arith)
      | inr d ↦
          let b = branch_cases (chains calls k) 0 (row calls m) is d in
          let below = only_listed calls k b.1 b.2 b.5 in
          let z : 0 + b.0 ≡ b.0 = omega arith in
          subst (λ is. IsChain calls m is × (length is ≤ suc k)) (sym (b.3 ∙ ap (λ n. n ∷ b.2) z))
          (chain_cons calls m b.0 b.1 b.2 b.4 below.0, omega (arith, below.1))
    ]

-- no list stands twice
Differ : List (List ℕ) → Type 0
Differ [] = Unit {0}
Differ (x ∷ xs) = (Contains xs x → ⊥) × Differ xs

differ_append : (xs ys : List (List ℕ)) → Differ xs → Differ ys
    → ((x : List ℕ) → Contains xs x → Contains ys x → ⊥) → Differ (xs ++ ys)
unfolding Differ
differ_append [] ys a b apart = b
differ_append (x ∷ xs) ys a b apart = (
  (λ c. elim (Contains-append_cases xs ys x c)
      [ inl l ↦ a.0 l | inr r ↦ apart x (0, omega arith, refl) r ]),
  differ_append xs ys a.1 b (λ y c d. apart y (contains_cons x xs y c) d),
)

differ_map : (j : ℕ) (xs : List (List ℕ)) → Differ xs → Differ (map (λ is. j ∷ is) xs)
unfolding Differ
differ_map j [] d = tt
differ_map j (x ∷ xs) d = (
  (λ c. let m = map_cases (λ is. j ∷ is) xs (j ∷ x) c in let e : x ≡ m.0 = cc (m.1) in d.0
      (subst (Contains xs) (sym e) m.2)),
  differ_map j xs d.1,
)

differ_branches : (sub : ℕ → List (List ℕ)) → ((c : ℕ) → Differ (sub c)) → (j : ℕ) (cs : List ℕ)
    → Differ (branches sub j cs)
unfolding Differ
differ_branches sub all j [] = tt
differ_branches sub all j (c ∷ cs) =
    differ_append (map (λ is. j ∷ is) (sub c)) (branches sub (suc j) cs)
    (differ_map j (sub c) (all c)) (differ_branches sub all (suc j) cs)
    (λ is a b.
    let m = map_cases (λ is. j ∷ is) (sub c) is a in let r = branch_cases sub (suc j) cs is b in
    let e : j ≡ suc j + r.0 = cc (m.1, r.3) in omega (arith, e))

differ_chains : (calls : List (List ℕ)) (k m : ℕ) → Differ (chains calls k m)
unfolding Differ chains
differ_chains calls zero m = ((λ c. omega (arith, c.1)), tt)
differ_chains calls (suc k) m = (
  (λ c. let b = branch_cases (chains calls k) 0 (row calls m) [] c in let no : ⊥ = cc (b.3) in
      no),
  differ_branches (chains calls k) (differ_chains calls k) 0 (row calls m),
)

once_of : (xs : List (List ℕ)) → Differ xs → (i j : ℕ) (x : List ℕ) → slice_get xs i ≡ Some x
    → slice_get xs j ≡ Some x → i ≡ j
unfolding Differ
once_of [] d i j x a b = absurd (cc)
once_of (y ∷ ys) d zero zero x a b = refl
once_of (y ∷ ys) d zero (suc j) x a b =
    let e : x ≡ y = cc in absurd (d.0 (subst (Contains ys) e
    (j, slice_get_within ys j x b, get_or_from_slice_get ys j x x b)))
once_of (y ∷ ys) d (suc i) zero x a b =
    let e : x ≡ y = cc in absurd (d.0 (subst (Contains ys) e
    (i, slice_get_within ys i x a, get_or_from_slice_get ys i x x a)))
once_of (y ∷ ys) d (suc i) (suc j) x a b = ap suc (once_of ys d.1 i j x a b)

pub lists_chains : (calls : List (List ℕ)) (k m : ℕ) → ListsChains calls k m
lists_chains calls k m = record {
  each = each_listed calls k m;
  only = only_listed calls k m;
  once =
      once_of (chains calls k m) (differ_chains calls k m);
}
