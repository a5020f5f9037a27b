use Rattle.std.proofs.Common.{◌≡◌, ℕ, zero, suc, ◌+◌, ◌<◌, ◌≤◌, ◌^◌, max, List, [], ◌∷◌, ◌++◌, length, take, get_or, sym, ◌∙◌, ap, subst, arith}
use Rattle.std.specs.List.{flat_map}
use Rattle.std.proofs.lemmas.List.{take_more, append-nil}
use Rattle.std.proofs.lemmas.Grind.{flat_map-append}
use Rattle.cf_model.specs.Renumbering.{width, Grows}
use Rattle.cf_model.proofs.Growth.{width-append, Grows-append, pieces}
use Rattle.cf_table.specs.Goodness.{IsNumberedOn}

-- an entry above the next number
pub stops : (n : ℕ) (xs : List ℕ) (i : ℕ) → i < length xs → width n (take i xs) < get_or xs i 0 → Grows n xs → ⊥
stops n [] i h w g = omega (arith, h)
stops n (x ∷ xs) zero h w g = omega (arith, w, g.0)
stops n (x ∷ xs) (suc i) h w g = stops (max n (suc x)) xs i (omega (arith, h)) w g.1

pub numbered_append : (n m k : ℕ) (xs ys : List ℕ) → IsNumberedOn n xs m → IsNumberedOn m ys k → IsNumberedOn n (xs ++ ys) k
numbered_append n m k xs ys a b = record {
  grows = Grows-append n xs ys a.grows (subst (λ (j : ℕ). Grows j ys) a.given_out b.grows);
  given_out = b.given_out ∙ ap (λ (j : ℕ). width j ys) a.given_out ∙ sym (width-append n xs ys);
  fits = b.fits;
}

-- one more entry, that is known or next
pub numbered_more : (n : ℕ) (xs : List ℕ) (i next now : ℕ) → i < length xs → IsNumberedOn n (take i xs) next → get_or xs i 0 ≤ next → get_or xs i 0 < 2 ^ 64 → now ≡ max next (get_or xs i 0 + 1) → IsNumberedOn n (take (i + 1) xs) now
numbered_more n xs i next now l a le fits e =
    let x = get_or xs i 0 in
    let w : now ≡ max next (suc x) = omega (arith, e) in
    subst (λ (ys : List ℕ). IsNumberedOn n ys now) (sym (take_more xs i 0 l))
    (numbered_append n next now (take i xs) (x ∷ []) a (record { grows = (le, tt); given_out = w; fits = omega (arith, a.fits, w, fits) }))

words_more : {X : Type 0} (f : X → List ℕ) (d : X) (xs : List X) (i : ℕ) → i < length xs → flat_map f (take (i + 1) xs) ≡ flat_map f (take i xs) ++ f (get_or xs i d)
words_more f d xs i l =
    ap (flat_map f) (take_more xs i d l) ∙ flat_map-append f (take i xs) (get_or xs i d ∷ []) ∙ ap (λ (ys : List ℕ). flat_map f (take i xs) ++ ys) (append-nil (f (get_or xs i d)))

-- one more word, read in the order of first reach
pub numbered_word : {X : Type 0} (f : X → List ℕ) (d : X) (xs : List X) (i m k : ℕ) → i < length xs → IsNumberedOn 0 (flat_map f (take i xs)) m → IsNumberedOn m (f (get_or xs i d)) k → IsNumberedOn 0 (flat_map f (take (i + 1) xs)) k
numbered_word f d xs i m k l a b =
    subst (λ (ys : List ℕ). IsNumberedOn 0 ys k) (sym (words_more f d xs i l)) (numbered_append 0 m k (flat_map f (take i xs)) (f (get_or xs i d)) a b)

-- a word that doesn't go on from the words before it
pub word_stops : {X : Type 0} (f : X → List ℕ) (d : X) (xs : List X) (i m : ℕ) → i < length xs → IsNumberedOn 0 (flat_map f (take i xs)) m → (Grows m (f (get_or xs i d)) → ⊥) → Grows 0 (flat_map f xs) → ⊥
word_stops f d xs i m l a fails g = fails (subst (λ (j : ℕ). Grows j (f (get_or xs i d))) (sym a.given_out) (pieces f d 0 xs g i l).0)

-- one more entry
pub width_more : (n : ℕ) (xs : List ℕ) (i next now : ℕ) → i < length xs → next ≡ width n (take i xs) → now ≡ max next (get_or xs i 0 + 1) → now ≡ width n (take (i + 1) xs)
width_more n xs i next now l a e =
    let x = get_or xs i 0 in
    let w : now ≡ max next (suc x) = omega (arith, e) in
    w ∙ ap (λ (k : ℕ). max k (suc x)) a ∙ sym (width-append n (take i xs) (x ∷ [])) ∙ ap (width n) (sym (take_more xs i 0 l))

-- one more word
pub width_word : {X : Type 0} (f : X → List ℕ) (d : X) (xs : List X) (i m k : ℕ) → i < length xs → m ≡ width 0 (flat_map f (take i xs)) → k ≡ width m (f (get_or xs i d)) → k ≡ width 0 (flat_map f (take (i + 1) xs))
width_word f d xs i m k l a b =
    b ∙ ap (λ (j : ℕ). width j (f (get_or xs i d))) a ∙ sym (width-append 0 (flat_map f (take i xs)) (f (get_or xs i d)))
    ∙ ap (width 0) (sym (words_more f d xs i l))
