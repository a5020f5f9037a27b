-- The first and the last items of mapped lists.
use Rattle.std.proofs.Common.{ℕ, zero, suc, ◌≡◌, ◌-◌, ◌&&◌, Bool, List, [], ◌∷◌, take, length, map, Some, refl, ap, arith}
use Rattle.std.specs.List.{slice_get, list_all}
use Rattle.std.proofs.lemmas.Option.{same_Some}
use Rattle.cf_circuits.specs.Kinds.{last_word, all_but_last}

last_at : {A : Type 0} (f : A → List ℕ) (xs : List A) (k : ℕ) (x : A) → suc k ≡ length xs → Some x ≡ slice_get xs k → f x ≡ last_word (map f xs)
last_at f [] k x long some = absurd (omega arith)
last_at f (y ∷ []) zero x long some = ap f (same_Some x y some)
last_at f (y ∷ []) (suc k) x long some = absurd (omega arith)
last_at f (y ∷ z ∷ xs) zero x long some = absurd (omega arith)
last_at f (y ∷ z ∷ xs) (suc k) x long some = last_at f (z ∷ xs) k x (omega arith) some

pub last-map : {A : Type 0} (f : A → List ℕ) (xs : List A) (x : A) → Some x ≡ slice_get xs (length xs - 1) → f x ≡ last_word (map f xs)
last-map f [] x some = cc
last-map f (y ∷ xs) x some = last_at f (y ∷ xs) (length (y ∷ xs) - 1) x (omega arith) some

front_at : {A : Type 0} (f : A → List ℕ) (xs : List A) (k : ℕ) → suc k ≡ length xs → map f (take k xs) ≡ all_but_last (map f xs)
front_at f [] k long = absurd (omega arith)
front_at f (y ∷ []) zero long = refl
front_at f (y ∷ []) (suc k) long = absurd (omega arith)
front_at f (y ∷ z ∷ xs) zero long = absurd (omega arith)
front_at f (y ∷ z ∷ xs) (suc k) long = ap (λ l. f y ∷ l) (front_at f (z ∷ xs) k (omega arith))

pub front-map : {A : Type 0} (f : A → List ℕ) (xs : List A) (k : ℕ) → k ≡ length xs - 1 → map f (take k xs) ≡ all_but_last (map f xs)
front-map f [] zero is = refl
front-map f [] (suc k) is = refl
front-map f (y ∷ xs) k is = front_at f (y ∷ xs) k (omega arith)

pub all-map : {A : Type 0} (f : A → List ℕ) (test : List ℕ → Bool) (xs : List A) → list_all (λ x. test (f x)) xs ≡ list_all test (map f xs)
all-map f test [] = refl
all-map f test (x ∷ xs) = ap (λ t. test (f x) && t) (all-map f test xs)
