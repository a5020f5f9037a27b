use Rattle.std.proofs.Common.{◌≡◌, ◌≢◌, ℕ, zero, suc, ◌<◌, ◌≤◌, ◌+◌, ◌*◌, List, [], ◌∷◌, ◌++◌, map, take, drop, refl, sym, ◌∙◌, ap, subst, length, get_or, arith, Some, option_map}
use Rattle.std.specs.Prelude.{flat_map, All, Contains, sum_by}
use Rattle.std.specs.List.{slice_get, remove}
use Rattle.std.proofs.lemmas.List.Sums.{sum_by-remove, sum_by-append, sum_by-cons}
use Rattle.std.proofs.lemmas.Option.{slice_get-map, slice_get-get_or, slice_get_within, get_or_from_slice_get, same_Some}
use Rattle.cf_model.specs.Renumbering.{AllDiffer, distinct, rgs}
use Rattle.cf_model.specs.Patterns.{Pattern, same_pattern}
use Rattle.cf_model.proofs.PatternLaws.{patterns_decide}
use Rattle.cf_model.proofs.RenumberingLaws.{canon_of, canon_read, numbers_from, read_numbers, length-numbers_from}

-- no entry twice in the rest either
pub differ_rest : {A : Type 0} (x : A) (xs : List A) → AllDiffer (x ∷ xs) → AllDiffer xs
differ_rest x xs d i j y hi hj = let e : suc i ≡ suc j = d (suc i) (suc j) y hi hj in omega (arith, e)

-- an entry at another place is still there once one is removed
in_others : {A : Type 0} (ys : List A) (k j : ℕ) (z : A) → slice_get ys j ≡ Some z → j ≢ k → (m : ℕ) × (slice_get (take k ys ++ drop (suc k) ys) m ≡ Some z)
in_others [] k j z h n = absurd (let e : slice_get {X = _} [] j ≡ Some z = h in cc)
in_others (y ∷ ys) zero zero z h n = absurd (n refl)
in_others (y ∷ ys) zero (suc j) z h n = (j, h)
in_others (y ∷ ys) (suc k) zero z h n = (0, h)
in_others (y ∷ ys) (suc k) (suc j) z h n = let r = in_others ys k j z h (λ e. n (ap suc e)) in (suc r.0, r.1)

-- different entries of a list sum to at most what the whole list does
pub sum_within : {A : Type 0} (f : A → ℕ) (xs ys : List A) → AllDiffer xs → ((i : ℕ) (x : A) → slice_get xs i ≡ Some x → (k : ℕ) × (slice_get ys k ≡ Some x)) → sum_by f xs ≤ sum_by f ys
sum_within f [] ys d h = omega arith
sum_within f (x ∷ xs) ys d h =
    let r = h 0 x refl in
    let k = r.0 in
    let s : sum_by f (remove ys k) + f (get_or ys k x) ≡ sum_by f ys = sum_by-remove f ys k x (slice_get_within ys k x r.1) in
    let e : f (get_or ys k x) ≡ f x = ap f (get_or_from_slice_get ys k x x r.1) in
    let rest : sum_by f xs ≤ sum_by f (remove ys k) = sum_within f xs (remove ys k) (differ_rest x xs d)
    (λ i z hz.
    (let q = h (suc i) z hz in
    in_others ys k q.0 z q.1 (λ same.
    (let one : Some z ≡ Some x = sym q.1 ∙ ap (slice_get ys) same ∙ r.1 in
    let away : suc i ≡ 0 = d (suc i) 0 x (hz ∙ one) refl in
    omega (arith, away))))) in
    omega (arith, s, e, rest, sum_by-cons f x xs)

abbrev pub beside : {A B : Type 0} → A → B → A × B
beside a b = (a, b)

-- all pairs
abbrev pub cross : {A B : Type 0} → List A → List B → List (A × B)
cross xs ys = flat_map (λ x. map (beside x) ys) xs

times : (a b c : ℕ) → a * (b + c) ≡ a * b + a * c
times a b c = grind arith

plus : (a b c : ℕ) → (a + b) * c ≡ a * c + b * c
plus a b c = grind arith

-- the product of what the two parts of a pair weigh
abbrev pub weighed : {A B : Type 0} → (A → ℕ) → (B → ℕ) → A × B → ℕ
weighed f g k = f k.0 * g k.1

sum_row : {A B : Type 0} (f : A → ℕ) (g : B → ℕ) (a : A) (ys : List B) → sum_by (weighed f g) (map (beside a) ys) ≡ f a * sum_by g ys
sum_row f g a [] = omega arith
sum_row f g a (y ∷ ys) =
    let top : sum_by (weighed f g) (map (beside a) (y ∷ ys)) ≡ f a * g y + sum_by (weighed f g) (map (beside a) ys) = sum_by-cons (weighed f g) (beside a y) (map (beside a) ys) in
    top ∙ ap (λ (n : ℕ). f a * g y + n) (sum_row f g a ys) ∙ sym (times (f a) (g y) (sum_by g ys)) ∙ ap (λ (n : ℕ). f a * n) (sym (sum_by-cons g y ys))

pub sum_cross : {A B : Type 0} (f : A → ℕ) (g : B → ℕ) (xs : List A) (ys : List B) → sum_by (weighed f g) (cross xs ys) ≡ sum_by f xs * sum_by g ys
sum_cross f g [] ys = omega arith
sum_cross f g (x ∷ xs) ys =
    let top : sum_by (weighed f g) (cross (x ∷ xs) ys) ≡ sum_by (weighed f g) (map (beside x) ys) + sum_by (weighed f g) (cross xs ys) = sum_by-append (weighed f g) (map (beside x) ys) (cross xs ys) in
    top ∙ ap (λ (n : ℕ). n + sum_by (weighed f g) (cross xs ys)) (sum_row f g x ys) ∙ ap (λ (n : ℕ). f x * sum_by g ys + n) (sum_cross f g xs ys)
    ∙ sym (plus (f x) (sum_by f xs) (sum_by g ys)) ∙ ap (λ (n : ℕ). n * sum_by g ys) (sym (sum_by-cons f x xs))

in_left : {A : Type 0} (xs ys : List A) (i : ℕ) (x : A) → slice_get xs i ≡ Some x → slice_get (xs ++ ys) i ≡ Some x
in_left [] ys i x h = absurd (let e : slice_get {X = _} [] i ≡ Some x = h in cc)
in_left (z ∷ xs) ys zero x h = h
in_left (z ∷ xs) ys (suc i) x h = in_left xs ys i x h

in_right : {A : Type 0} (xs ys : List A) (i : ℕ) (x : A) → slice_get ys i ≡ Some x → (k : ℕ) × (slice_get (xs ++ ys) k ≡ Some x)
in_right [] ys i x h = (i, h)
in_right (z ∷ xs) ys i x h = let r = in_right xs ys i x h in (suc r.0, r.1)

-- a pair of entries is among all pairs
in_cross : {A B : Type 0} (xs : List A) (ys : List B) (i j : ℕ) (x : A) (y : B) → slice_get xs i ≡ Some x → slice_get ys j ≡ Some y → (k : ℕ) × (slice_get (cross xs ys) k ≡ Some (beside x y))
in_cross [] ys i j x y h q = absurd (let e : slice_get {X = _} [] i ≡ Some x = h in cc)
in_cross (z ∷ xs) ys zero j x y h q =
    let e : slice_get (map (beside z) ys) j ≡ Some (beside x y) = slice_get-map (beside z) ys j ∙ ap (option_map (beside z)) q ∙ ap (λ (w : _). Some (beside w y)) (same_Some z x h) in
    (j, in_left (map (beside z) ys) (cross xs ys) j (beside x y) e)
in_cross (z ∷ xs) ys (suc i) j x y h q =
    let r = in_cross xs ys i j x y h q in
    in_right (map (beside z) ys) (cross xs ys) r.0 (beside x y) r.1

-- different pairs of entries of two lists sum to at most the product of the two sums
pub pairs_within : {A B : Type 0} (f : A → ℕ) (g : B → ℕ) (ks : List (A × B)) (xs : List A) (ys : List B) → AllDiffer ks
    → ((m : ℕ) (k : A × B) → slice_get ks m ≡ Some k → ((i : ℕ) × (slice_get xs i ≡ Some k.0)) × ((j : ℕ) × (slice_get ys j ≡ Some k.1)))
    → sum_by (weighed f g) ks ≤ sum_by f xs * sum_by g ys
pairs_within f g ks xs ys d h =
    let s = sum_within (weighed f g) ks (cross xs ys) d (λ m k hk. (let r = h m k hk in in_cross xs ys r.0.0 r.1.0 k.0 k.1 r.0.1 r.1.1)) in
    omega (arith, s, sum_cross f g xs ys)

-- where a pattern of a list is listed once
pub in_distinct : (xs : List Pattern) (x : Pattern) → Contains xs x → (k : ℕ) × (slice_get (distinct same_pattern xs) k ≡ Some x)
in_distinct xs x h =
    let c = canon_of same_pattern patterns_decide xs in
    let at : slice_get xs h.0 ≡ Some x = slice_get-get_or xs h.0 x h.1 ∙ ap Some h.2 in
    (get_or (rgs same_pattern xs) h.0 0, canon_read xs (rgs same_pattern xs) (distinct same_pattern xs) c h.0 h.1 ∙ at)

abbrev ones : {A : Type 0} → A → ℕ
ones x = 1

sum_ones : {A : Type 0} (xs : List A) → sum_by ones xs ≡ length xs
sum_ones [] = refl
sum_ones (x ∷ xs) = let top : sum_by ones (x ∷ xs) ≡ 1 + sum_by ones xs = sum_by-cons ones x xs in top ∙ ap (λ (n : ℕ). 1 + n) (sum_ones xs) ∙ (let e : 1 + length xs ≡ suc (length xs) = omega arith in e)

number_at : (n i : ℕ) → i < n → slice_get (numbers_from 0 n) i ≡ Some i
number_at n i h = read_numbers 0 n i h ∙ ap Some (let e : 0 + i ≡ i = omega arith in e)

-- different pairs of numbers below two bounds are few
pub few_pairs : (m n : ℕ) (ks : List (ℕ × ℕ)) → AllDiffer ks → All (λ k. (k.0 < m) × (k.1 < n)) ks → length ks ≤ m * n
few_pairs m n ks d h =
    let s = pairs_within ones ones ks (numbers_from 0 m) (numbers_from 0 n) d (λ i k hk.
    (let li = slice_get_within ks i k hk in
    let r = h i k li in
    let e = get_or_from_slice_get ks i k k hk in
    ((k.0, number_at m k.0 (omega (arith, r.0, ap (λ (x : ℕ × ℕ). x.0) e))), (k.1, number_at n k.1 (omega (arith, r.1, ap (λ (x : ℕ × ℕ). x.1) e)))))) in
    let whole : sum_by (weighed ones ones) ks ≡ length ks = sum_ones ks in
    let left : sum_by ones (numbers_from 0 m) ≡ m = sum_ones (numbers_from 0 m) ∙ length-numbers_from 0 m in
    let right : sum_by ones (numbers_from 0 n) ≡ n = sum_ones (numbers_from 0 n) ∙ length-numbers_from 0 n in
    subst (λ (y : ℕ). length ks ≤ m * y) right (subst (λ (x : ℕ). length ks ≤ x * sum_by ones (numbers_from 0 n)) left (subst (λ (x : ℕ). x ≤ sum_by ones (numbers_from 0 m) * sum_by ones (numbers_from 0 n)) whole s))
