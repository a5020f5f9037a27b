-- Books of names, and lists of formals, as a directory is filled.
use Rattle.std.proofs.Common.{inl, inr, ℕ, zero, suc, ◌≡◌, ◌+◌, ◌<◌, Bool, true, false, cond, ◌||◌, List, [], ◌∷◌, ◌++◌, length, take, get_or, Some, refl, sym, ◌∙◌, ap, subst, arith}
use Rattle.std.specs.List.{slice_get}
use Rattle.std.specs.Str.{bytes_eq}
use Rattle.std.proofs.lemmas.Bool.{cases_lt}
use Rattle.std.proofs.lemmas.Slice.Eq.{bytes_eq-Decides}
use Rattle.std.proofs.lemmas.List.{take_more, get_or-map, length-map}
use Rattle.std.proofs.lemmas.List.Folds.{list_any-append}
use Rattle.std.proofs.lemmas.Option.{slice_get-get_or, same_Some}
use Rattle.cf_model.specs.Renumbering.{AllDiffer, note}
use Rattle.cf_model.proofs.CanonLaws.{get_left, get_last, at_end}
use Rattle.cf_circuits.specs.declared.models.ModelDef.{ModelDef}
use Rattle.cf_links.specs.declared.directory.Listed.{Listed}
use Rattle.cf_circuits.specs.Links.{is_among, names_of}
use Rattle.cf_links.specs.Directories.{HaveSame, Lists}

-- a name behind others
among-push : (names : List (List ℕ)) (x name : List ℕ)
    → is_among (names ++ x ∷ []) name ≡ (is_among names name || (bytes_eq x name || false))
among-push names x name = list_any-append (λ other. bytes_eq other name) names (x ∷ [])

-- a name that is noted stands among the names, as one that is put behind them does
pub among-note : (names : List (List ℕ)) (x name : List ℕ)
    → is_among (note bytes_eq names x) name ≡ is_among (names ++ x ∷ []) name
among-note names x name = by (is_among names x) refl
  where
    known : (s t : Bool) → is_among names name ≡ s → bytes_eq x name ≡ t → is_among names x ≡ true
        → s ≡ (s || (t || false))
    known true t p q h = refl
    known false false p q h = refl
    known false true p q h = sym p ∙ subst (λ other. is_among names other ≡ true) ((bytes_eq-Decides x name).0 q) h

    by : (b : Bool) → is_among names x ≡ b
        → is_among (cond b names (names ++ x ∷ [])) name ≡ is_among (names ++ x ∷ []) name
    by true h =
        known (is_among names name) (bytes_eq x name) refl refl h ∙ sym (among-push names x name)
    by false h = refl

-- a book of the first names, with the next one
pub same-next : (names book now : List (List ℕ)) (x y : List ℕ) (i : ℕ) → HaveSame book (take i names)
    → i < length names → x ≡ get_or names i x → y ≡ x → now ≡ note bytes_eq book y → HaveSame now (take (i + 1) names)
same-next names book now x y i same within is copied noted name =
    ap (λ all. is_among all name) (noted ∙ ap (note bytes_eq book) copied)
    ∙ among-note book x name ∙ among-push book x name
    ∙ ap (λ b. b || (bytes_eq x name || false)) (same name)
    ∙ sym (among-push (take i names) x name)
    ∙ ap (λ all. is_among all name)
    (ap (λ other. take i names ++ other ∷ []) is ∙ sym (take_more names i x within))

-- a name behind others from which it differs
fresh : (names : List (List ℕ)) (i : ℕ) (name : List ℕ) → AllDiffer names → slice_get names i ≡ Some name
    → is_among (take i names) name ≡ false
fresh [] i name differ h = cc
fresh (other ∷ names) zero name differ h = refl
fresh (other ∷ names) (suc i) name differ h = by (bytes_eq other name) refl (fresh names i name later h)
  where
    later : AllDiffer names
    later = λ j k x p q. let same = differ (suc j) (suc k) x p q in omega (arith, same)

    by : (b : Bool) → bytes_eq other name ≡ b → is_among (take i names) name ≡ false
        → b || is_among (take i names) name ≡ false
    by true e rest =
        let same = differ zero (suc i) name (ap Some ((bytes_eq-Decides other name).0 e)) h in absurd (omega (arith, same))
    by false e rest = rest

-- a book of the names of the first models, with the next one
pub book-next : (models : List ModelDef) (book now : List (List ℕ)) (m : ModelDef) (y : List ℕ) (i : ℕ)
    → AllDiffer (names_of models) → book ≡ take i (names_of models) → m ≡ get_or models i m → i < length models → y ≡ m.name → now ≡ note bytes_eq book y → now ≡ take (i + 1) (names_of models)
book-next models book now m y i differ is here within copied noted =
    let inside : i < length (names_of models) = omega (arith, within, length-map models (λ (n : ModelDef). n.name)) in
    let at : get_or (names_of models) i m.name ≡ m.name = get_or-map (λ n. n.name) models i m m.name within ∙ ap (λ n. n.name) (sym here) in
    let stands = slice_get-get_or (names_of models) i m.name inside ∙ ap Some at in
    noted ∙ ap (λ b. note bytes_eq b y) is ∙ ap (note bytes_eq (take i (names_of models))) copied
    ∙ ap (λ b. cond b (take i (names_of models)) (take i (names_of models) ++ m.name ∷ [])) (fresh (names_of models) i m.name differ stands)
    ∙ ap (λ other. take i (names_of models) ++ other ∷ []) (sym at)
    ∙ sym (take_more (names_of models) i m.name inside)

-- The formals of the first models are listed.
pub record ListedFirst (models : List ModelDef) (all : List Listed) (i : ℕ) : Type 0 where
  pub count : length all ≡ i
  pub each : (k : ℕ) (m : ModelDef) (listed : Listed) → slice_get models k ≡ Some m → slice_get all k ≡ Some listed
      → Lists m listed

length-push : {A : Type 0} (xs : List A) (x : A) → length (xs ++ x ∷ []) ≡ length xs + 1
length-push [] x = refl
length-push (y ∷ xs) x = let later = length-push xs x in omega (arith, later)

pub listed-next : (models : List ModelDef) (all now : List Listed) (m : ModelDef) (l : Listed) (i : ℕ)
    → ListedFirst models all i → i < length models → m ≡ get_or models i m → Lists m l → now ≡ all ++ l ∷ []
    → ListedFirst models now (i + 1)
listed-next models all now m l i first within here lists is =
    subst (λ now. ListedFirst models now (i + 1)) (sym is)
    record { count = length-push all l ∙ ap (λ n. n + 1) first.count; each = each }
  where
    stands : slice_get models i ≡ Some m
    stands = slice_get-get_or models i m within ∙ ap Some (sym here)

    each : (k : ℕ) (n : ModelDef) (listed : Listed) → slice_get models k ≡ Some n
        → slice_get (all ++ l ∷ []) k ≡ Some listed → Lists n listed
    each k n listed p q = elim (cases_lt k (length all)) [
      | inl below ↦ first.each k n listed p (sym (get_left all l k below) ∙ q)
      | inr above ↦
          let last : k ≡ length all = at_end all l k listed above q in
          let same_m : m ≡ n = same_Some m n (sym stands ∙ ap (slice_get models) (sym (last ∙ first.count)) ∙ p) in
          let same_l : l ≡ listed = same_Some l listed (sym (get_last all l k last) ∙ q) in
          subst (λ x. Lists x listed) same_m (subst (λ x. Lists m x) same_l lists)
    ]
