use Rattle.std.proofs.Common.{◌≡◌, ℕ, zero, suc, ◌<◌, ◌+◌, ℤ, List, [], ◌∷◌, ◌++◌, map, take, length, get_or, Option, Some, None, option_map, refl, sym, ◌∙◌, ap, arith}
use Rattle.std.specs.List.{slice_get}
use Rattle.std.proofs.lemmas.List.{take_more, map_push}
use Rattle.std.proofs.lemmas.Option.{slice_get-map, slice_get-get_or}
use Rattle.cf_pkg.specs.Faults.{IsFirstNone}

-- one more value was worked out
pub worked_more : {A : Type 0} (word : A → Option ℤ) (xs : List A) (i : ℕ) (d : A) (done after : List ℤ) (v : ℤ) → i < length xs → map Some done ≡ map word (take i xs) → after ≡ done ++ v ∷ [] → word (get_or xs i d) ≡ Some v
    → map Some after ≡ map word (take (i + 1) xs)
worked_more word xs i d done after v h e a w =
    ap (map Some) a ∙ map_push Some done v
    ∙ ap (λ (l : List (Option ℤ)). l ++ Some v ∷ []) e
    ∙ ap (λ (o : Option ℤ). map word (take i xs) ++ o ∷ []) (sym w)
    ∙ sym (map_push word (take i xs) (get_or xs i d))
    ∙ ap (map word) (sym (take_more xs i d h))

some_not_none : (o : Option ℤ) → ◌≡◌ {A = Option (Option ℤ)} (option_map Some o) (Some None) → ⊥
some_not_none None e = cc
some_not_none (Some v) e = cc

take_reads : {A : Type 0} (xs : List A) (n i : ℕ) → i < n → slice_get (take n xs) i ≡ slice_get xs i
take_reads xs zero i h = absurd (omega (arith, h))
take_reads [] (suc n) i h = refl
take_reads (x ∷ xs) (suc n) zero h = refl
take_reads (x ∷ xs) (suc n) (suc i) h = take_reads xs n i (omega (arith, h))

-- the first place without a value, all before having one
pub first_found : {A : Type 0} (word : A → Option ℤ) (xs : List A) (i : ℕ) (d : A) (done : List ℤ) → i < length xs → map Some done ≡ map word (take i xs) → word (get_or xs i d) ≡ None → IsFirstNone (map word xs) i
first_found word xs i d done h e w = record {
  none = slice_get-map word xs i ∙ ap (option_map word) (slice_get-get_or xs i d h) ∙ ap Some w;
  none_before = λ k lk n.
      some_not_none (slice_get done k)
      (sym (slice_get-map Some done k) ∙ ap (λ (l : List (Option ℤ)). slice_get l k) e ∙ slice_get-map word (take i xs) k
      ∙ ap (option_map word) (take_reads xs i k lk) ∙ sym (slice_get-map word xs k) ∙ n);
}
