use Rattle.std.proofs.Common.{zero, suc, ◌≡◌, ℕ, ◌<◌, ℤ, Some, subst, List, [], ◌∷◌, ◌++◌, length, get_or, ap, ◌∙◌, arith, length-append}
use Rattle.std.specs.List.{slice_get, All}
use Rattle.std.proofs.lemmas.List.Elements.{All-append, All-get_or}
use Rattle.std.proofs.lemmas.Option.{slice_get-get_or, get_or_from_slice_get, slice_get_within}
use Rattle.cf_model.specs.Renumbering.{IsNew}
use Rattle.cf_model.proofs.CanonLaws.{get_left, AllDiffer-push}
use Rattle.cf_values.specs.Books.{Lengthens, IsBook, IsValueList}

pub Lengthens-same : {A : Type 0} (xs ys : List A) → ys ≡ xs → Lengthens xs ys
Lengthens-same xs ys e = record { more = omega (arith, ap length e); kept = λ i h. ap (λ (zs : List _). slice_get zs i) e }

pub Lengthens-push : {A : Type 0} (xs : List A) (y : A) (ys : List A) → ys ≡ xs ++ y ∷ [] → Lengthens xs ys
Lengthens-push xs y ys e = record {
  more = omega (arith, ap length e, length-append xs (y ∷ []));
  kept = λ i h. ap (λ (zs : List _). slice_get zs i) e ∙ get_left xs y i h;
}

pub Lengthens-trans : {A : Type 0} (xs ys zs : List A) → Lengthens xs ys → Lengthens ys zs → Lengthens xs zs
Lengthens-trans xs ys zs a b = record { more = omega (arith, a.more, b.more); kept = λ i h. b.kept i (omega (arith, h, a.more)) ∙ a.kept i h }

-- what stands at a place of the book stays, read with a default
pub kept_at : {A : Type 0} (xs ys : List A) → Lengthens xs ys → (i : ℕ) (d : A) → i < length xs → get_or ys i d ≡ get_or xs i d
kept_at xs ys w i d h =
    get_or_from_slice_get ys i (get_or xs i d) d (w.kept i h ∙ slice_get-get_or xs i d h)

only : {A : Type 0} (P : A → Type 0) (x : A) → P x → All P (x ∷ [])
only P x ok zero d h = ok
only P x ok (suc k) d h = absurd (omega arith)

-- a book with a new list of values is a book
pub IsBook-push : (lists : List (List ℤ)) (values : List ℤ) → IsBook lists → IsNew lists values → IsValueList values → IsBook (lists ++ values ∷ [])
IsBook-push lists values book new ok = record {
  once = AllDiffer-push lists values book.once new;
  each = All-append IsValueList lists (values ∷ []) book.each (only IsValueList values ok);
}

-- what stands in a book is a list of values
pub IsBook-get : (lists : List (List ℤ)) (i : ℕ) (values : List ℤ) → IsBook lists → slice_get lists i ≡ Some values → IsValueList values
IsBook-get lists i values book h =
    subst IsValueList (get_or_from_slice_get lists i values values h) (All-get_or IsValueList lists i values (slice_get_within lists i values h) book.each)
