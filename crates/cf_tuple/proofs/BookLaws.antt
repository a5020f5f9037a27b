use Rattle.std.proofs.Common.{◌≡◌, ℕ, ◌<◌, List, [], ◌∷◌, ◌++◌, length, get_or, ap, ◌∙◌, arith, length-append}
use Rattle.std.specs.List.{slice_get}
use Rattle.std.proofs.lemmas.Option.{slice_get-get_or, get_or_from_slice_get}
use Rattle.cf_model.proofs.CanonLaws.{get_left}
use Rattle.cf_tuple.specs.Books.{Lengthens}

pub Lengthens-same : {A : Type 0} (xs ys : List A) → ys ≡ xs → Lengthens xs ys
Lengthens-same xs ys e = record { more = omega (arith, ap length e); kept = λ i h. ap (λ (zs : List _). slice_get zs i) e }

pub Lengthens-push : {A : Type 0} (xs : List A) (y : A) (ys : List A) → ys ≡ xs ++ y ∷ [] → Lengthens xs ys
Lengthens-push xs y ys e = record {
  more = omega (arith, ap length e, length-append xs (y ∷ []));
  kept = λ i h. ap (λ (zs : List _). slice_get zs i) e ∙ get_left xs y i h;
}

pub Lengthens-trans : {A : Type 0} (xs ys zs : List A) → Lengthens xs ys → Lengthens ys zs → Lengthens xs zs
Lengthens-trans xs ys zs a b = record { more = omega (arith, a.more, b.more); kept = λ i h. b.kept i (omega (arith, h, a.more)) ∙ a.kept i h }

-- what stands at a place of the book stays, read with a default
pub kept_at : {A : Type 0} (xs ys : List A) → Lengthens xs ys → (i : ℕ) (d : A) → i < length xs → get_or ys i d ≡ get_or xs i d
kept_at xs ys w i d h =
    get_or_from_slice_get ys i (get_or xs i d) d (w.kept i h ∙ slice_get-get_or xs i d h)
