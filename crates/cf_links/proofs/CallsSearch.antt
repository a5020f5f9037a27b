-- Searches for the first answer in a list.
use Rattle.std.proofs.Common.{ℕ, ◌≡◌, ◌+◌, ◌<◌, List, [], ◌∷◌, ◌++◌, length, take, drop, get_or, map, Option, sym, ◌∙◌, ap, arith}
use Rattle.std.specs.Str.{bytes_eq}
use Rattle.std.proofs.lemmas.List.{get_or-map, length-map, map-append, take_more}
use Rattle.cf_model.specs.Renumbering.{note}
use Rattle.cf_circuits.specs.Links.{first_of}
use Rattle.cf_links.specs.Directories.{HaveSame}
use Rattle.cf_links.proofs.DirectoriesNames.{same-next}

-- the first answer of a list is that of its part from a place on
abbrev pub Sought : {A B : Type 0} → (A → Option B) → List A → ℕ → Type 0
Sought f items i = first_of (map f items) ≡ first_of (map f (drop i items))

-- a book of the names of the first items, with the next one
pub same-next-of : {A : Type 0} (name_of : A → List ℕ) (items : List A) (book now : List (List ℕ)) (x : A) (y : List ℕ) (i : ℕ)
    → HaveSame book (take i (map name_of items)) → i < length items → x ≡ get_or items i x → y ≡ name_of x
    → now ≡ note bytes_eq book y → HaveSame now (take (i + 1) (map name_of items))
same-next-of name_of items book now x y i same within is copied noted =
    same-next (map name_of items) book now (name_of x) y i same (omega (arith, within, length-map items name_of))
    (ap name_of is ∙ sym (get_or-map name_of items i x (name_of x) within)) copied noted

-- the images of the first items, with the next one
pub images-next : {A B : Type 0} (f : A → B) (items : List A) (images now : List B) (x : A) (y : B) (i : ℕ)
    → images ≡ map f (take i items) → i < length items → x ≡ get_or items i x → y ≡ f x → now ≡ images ++ y ∷ []
    → now ≡ map f (take (i + 1) items)
images-next f items images now x y i all within is image pushed =
    pushed ∙ ap (λ list. list ++ y ∷ []) all ∙ ap (λ z. map f (take i items) ++ z ∷ []) (image ∙ ap f is)
    ∙ sym (map-append f (take i items) (get_or items i x ∷ [])) ∙ ap (map f) (sym (take_more items i x within))
