use Rattle.std.proofs.Common.{◌≡◌, ℕ, zero, suc, ◌+◌, ◌<◌, List, [], ◌∷◌, Bool, true, false, ◌||◌, Some, length, take, get_or, refl, sym, ◌∙◌, ap, subst, arith}
use Rattle.std.specs.List.{slice_get, list_any}
use Rattle.std.specs.Bool.{Decides}
use Rattle.std.proofs.lemmas.Bool.{false≢true}
use Rattle.std.proofs.lemmas.List.{take_more}
use Rattle.std.proofs.lemmas.Option.{same_Some, slice_get_within, slice_get-get_or, get_or_from_slice_get}
use Rattle.cf_model.specs.Renumbering.{AllDiffer, IsNew, IsApart}
use Rattle.cf_model.proofs.CanonLaws.{AllDiffer-push}

contained : {A : Type 0} (eq : A → A → Bool) → ((x y : A) → Decides (eq x y) (x ≡ y)) → (x : A) (xs : List A) → list_any (λ y. eq y x) xs ≡ true → (k : ℕ) × (slice_get xs k ≡ Some x)
contained eq laws x [] h = absurd (false≢true h)
contained eq laws x (y ∷ ys) h = by (contained eq laws x ys) (eq y x) refl
  where
    by : (list_any (λ z. eq z x) ys ≡ true → (k : ℕ) × (slice_get ys k ≡ Some x)) → (b : Bool) → eq y x ≡ b → (k : ℕ) × (slice_get (y ∷ ys) k ≡ Some x)
    by rest true e = (0, ap Some ((laws y x).0 e))
    by rest false e = (let r = rest (ap (λ (b : Bool). b || list_any (λ z. eq z x) ys) (sym e) ∙ h) in (suc r.0, r.1))

neither : (a b : Bool) → (a || b) ≡ false → (a ≡ false) × (b ≡ false)
neither true b h = cc
neither false b h = (refl, h)

fresh : {A : Type 0} (eq : A → A → Bool) → ((x y : A) → Decides (eq x y) (x ≡ y)) → (x : A) (xs : List A) → list_any (λ y. eq y x) xs ≡ false → IsNew xs x
fresh eq laws x [] h i e = cc
fresh eq laws x (y ∷ ys) h zero e = false≢true (sym (neither (eq y x) (list_any (λ z. eq z x) ys) h).0 ∙ (laws y x).1 (same_Some y x e))
fresh eq laws x (y ∷ ys) h (suc i) e = fresh eq laws x ys (neither (eq y x) (list_any (λ z. eq z x) ys) h).1 i e

taken : {A : Type 0} (xs : List A) (i k : ℕ) (x : A) → slice_get (take i xs) k ≡ Some x → (k < i) × (slice_get xs k ≡ Some x)
taken xs zero k x h = cc
taken [] (suc i) k x h = cc
taken (y ∷ ys) (suc i) zero x h = (omega arith, h)
taken (y ∷ ys) (suc i) (suc k) x h = let r = taken ys i k x h in (omega (arith, r.0), r.1)

-- an entry that stands before its place
pub repeated : {A : Type 0} (eq : A → A → Bool) → ((x y : A) → Decides (eq x y) (x ≡ y)) → (xs : List A) (i : ℕ) (x : A) → slice_get xs i ≡ Some x → list_any (λ y. eq y x) (take i xs) ≡ true → AllDiffer xs → ⊥
repeated eq laws xs i x at h d =
    let k = contained eq laws x (take i xs) h in
    let q = taken xs i k.0 x k.1 in
    omega (arith, q.0, d k.0 i x q.1 at)

-- one more entry, that doesn't stand before its place
pub differ_more : {A : Type 0} (eq : A → A → Bool) → ((x y : A) → Decides (eq x y) (x ≡ y)) → (xs : List A) (i : ℕ) (d : A) → i < length xs → list_any (λ y. eq y (get_or xs i d)) (take i xs) ≡ false → AllDiffer (take i xs) → AllDiffer (take (i + 1) xs)
differ_more eq laws xs i d l h w =
    subst (λ (ys : List _). AllDiffer ys) (sym (take_more xs i d l)) (AllDiffer-push (take i xs) (get_or xs i d) w (fresh eq laws (get_or xs i d) (take i xs) h))

-- a list whose entries differ, by the reading of its places
pub apart_differ : {A : Type 0} (d : A) (xs : List A) → IsApart (λ i. get_or xs i d) (length xs) → AllDiffer xs
apart_differ d xs a i j x hi hj = a i j (slice_get_within xs i x hi) (slice_get_within xs j x hj) (get_or_from_slice_get xs i x d hi ∙ sym (get_or_from_slice_get xs j x d hj))

pub differ_apart : {A : Type 0} (d : A) (xs : List A) → AllDiffer xs → IsApart (λ i. get_or xs i d) (length xs)
differ_apart d xs w i j hi hj e = w i j (get_or xs i d) (slice_get-get_or xs i d hi) (slice_get-get_or xs j d hj ∙ ap Some (sym e))
