use Rattle.std.proofs.Common.{◌≡◌, ℕ, zero, suc, ◌<◌, ◌≤◌, ◌+◌, Bool, true, false, cond, List, [], ◌∷◌, ◌++◌, length, take, drop, filter, get_or, ◌-◌, refl, sym, ◌∙◌, ap, subst, arith}
use Rattle.std.proofs.lemmas.List.{take_more, take_all, take-append-drop, take-append-le, append-nil}
use Rattle.std.proofs.lemmas.List.Elements.{filter-append}

-- one more element, which is passed over or kept
filter_more : {A : Type 0} (P : A → Bool) (xs : List A) (i : ℕ) (d : A) → i < length xs → filter P (take (i + 1) xs) ≡ filter P (take i xs) ++ filter P (get_or xs i d ∷ [])
filter_more P xs i d h = ap (λ (v : List _). filter P v) (take_more xs i d h) ∙ filter-append P (take i xs) (get_or xs i d ∷ [])

filter_one : {A : Type 0} (P : A → Bool) (x : A) (b : Bool) → P x ≡ b → filter P (x ∷ []) ≡ cond b (x ∷ []) []
filter_one P x b e = ap (λ (c : Bool). cond c (x ∷ []) []) e

-- No element passes from place `low` on and before place `high`.
abbrev pub NonePass : {A : Type 0} → (A → Bool) → List A → A → ℕ → ℕ → Type 0
NonePass P xs d low high = (i : ℕ) → low ≤ i → i < high → P (get_or xs i d) ≡ false

filter_skip : {A : Type 0} (P : A → Bool) (xs : List A) (d : A) (low n : ℕ) → low + n ≤ length xs → NonePass P xs d low (low + n) → filter P (take (low + n) xs) ≡ filter P (take low xs)
filter_skip P xs d low zero h none = ap (λ (k : ℕ). filter P (take k xs)) (let e : low + 0 ≡ low = omega arith in e)
filter_skip P xs d low (suc n) h none =
    let i = low + n in
    let e : low + suc n ≡ i + 1 = omega arith in
    ap (λ (k : ℕ). filter P (take k xs)) e
    ∙ filter_more P xs i d (omega (arith, h))
    ∙ ap (λ (v : List _). filter P (take i xs) ++ v) (filter_one P (get_or xs i d) false (none i (omega arith) (omega arith)))
    ∙ append-nil (filter P (take i xs))
    ∙ filter_skip P xs d low n (omega (arith, h)) (λ j ge lt. none j ge (omega (arith, lt)))

filter_up : {A : Type 0} (P : A → Bool) (xs : List A) (d : A) (low high : ℕ) → low ≤ high → high ≤ length xs → NonePass P xs d low high → filter P (take high xs) ≡ filter P (take low xs)
filter_up P xs d low high h k none =
    let n = high - low in
    let e : low + n ≡ high = omega (arith, h) in
    subst (λ (m : ℕ). filter P (take m xs) ≡ filter P (take low xs)) e (filter_skip P xs d low n (omega (arith, k, e)) (λ i ge lt. none i ge (omega (arith, lt, e))))

-- the next one that passes
pub listed_one_more : {A : Type 0} (P : A → Bool) (xs ys : List A) (d : A) (from n : ℕ) → ys ≡ filter P (take from xs) → from ≤ n → n < length xs → NonePass P xs d from n → P (get_or xs n d) ≡ true → ys ++ get_or xs n d ∷ [] ≡ filter P (take (n + 1) xs)
listed_one_more P xs ys d from n e h k none is =
    sym (filter_more P xs n d k
    ∙ ap (λ (v : List _). filter P (take n xs) ++ v) (filter_one P (get_or xs n d) true is)
    ∙ ap (λ (v : List _). v ++ get_or xs n d ∷ []) (filter_up P xs d from n h (omega (arith, k)) none ∙ sym e))

-- where as many as are wanted were listed, they are the first ones
pub listed_enough : {A : Type 0} (P : A → Bool) (xs ys : List A) (from max : ℕ) → ys ≡ filter P (take from xs) → length ys ≡ max → ys ≡ take max (filter P xs)
listed_enough P xs ys from max e long =
    let whole : filter P xs ≡ ys ++ filter P (drop from xs) = ap (λ (v : List _). filter P v) (sym (take-append-drop from xs)) ∙ filter-append P (take from xs) (drop from xs) ∙ ap (λ (v : List _). v ++ filter P (drop from xs)) (sym e) in
    sym (ap (λ (v : List _). take max v) whole ∙ take-append-le max ys (filter P (drop from xs)) (omega (arith, long)) ∙ take_all max ys (omega (arith, long)))

-- where none passes any more, all were listed
pub listed_all : {A : Type 0} (P : A → Bool) (xs ys : List A) (d : A) (from max : ℕ) → ys ≡ filter P (take from xs) → from ≤ length xs → NonePass P xs d from (length xs) → length ys ≤ max → ys ≡ take max (filter P xs)
listed_all P xs ys d from max e h none small =
    let all : filter P xs ≡ ys = ap (λ (v : List _). filter P v) (sym (take_all (length xs) xs (omega arith))) ∙ filter_up P xs d from (length xs) h (omega arith) none ∙ sym e in
    sym (ap (λ (v : List _). take max v) all ∙ take_all max ys small)

-- tests that agree on a list's elements keep the same ones
pub filter_same : {A : Type 0} (P Q : A → Bool) (xs : List A) (d : A) → ((i : ℕ) → i < length xs → P (get_or xs i d) ≡ Q (get_or xs i d)) → filter P xs ≡ filter Q xs
filter_same P Q [] d h = refl
filter_same P Q (x ∷ xs) d h = by (P x) (Q x) refl refl (filter_same P Q xs d (λ i l. h (suc i) (omega (arith, l))))
  where
    by : (a b : Bool) → P x ≡ a → Q x ≡ b → filter P xs ≡ filter Q xs → cond a (x ∷ filter P xs) (filter P xs) ≡ cond b (x ∷ filter Q xs) (filter Q xs)
    by a b ea eb rest =
        subst (λ (c : Bool). cond a (x ∷ filter P xs) (filter P xs) ≡ cond c (x ∷ filter Q xs) (filter Q xs)) (sym ea ∙ h 0 (omega arith) ∙ eb)
        (ap (λ (v : List _). cond a (x ∷ v) v) rest)
