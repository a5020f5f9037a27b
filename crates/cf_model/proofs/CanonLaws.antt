use Rattle.std.proofs.Common.{◌≡◌, ℕ, zero, suc, ◌<◌, ◌≤◌, Bool, true, false, cond, ◌||◌, List, [], ◌∷◌, ◌++◌, map, length, Some, refl, sym, ◌∙◌, ap, subst, arith, length-append, inl, inr}
use Rattle.std.specs.List.{slice_get, list_any}
use Rattle.std.specs.Bool.{Decides}
use Rattle.std.proofs.lemmas.Bool.{false≢true, cases_lt}
use Rattle.std.proofs.lemmas.List.{map-append, append_assoc, append-nil}
use Rattle.std.proofs.lemmas.Option.{slice_get_within, same_Some}
use Rattle.cf_model.specs.Renumbering.{width, IsApart, Agree, AllDiffer, IsNew, IsCanon, place, rgs_on, distinct_on, rgs, distinct}
use Rattle.cf_model.proofs.Growth.{width-append, Grows-append, Under, Under-width, unique}

pub get_left : {A : Type 0} (xs : List A) (y : A) (i : ℕ) → i < length xs → slice_get (xs ++ y ∷ []) i ≡ slice_get xs i
get_left [] y i l = absurd (omega (arith, l))
get_left (x ∷ xs) y zero l = refl
get_left (x ∷ xs) y (suc i) l = get_left xs y i (omega (arith, l))

pub get_last : {A : Type 0} (xs : List A) (y : A) (i : ℕ) → i ≡ length xs → slice_get (xs ++ y ∷ []) i ≡ Some y
get_last [] y zero e = refl
get_last [] y (suc i) e = absurd (omega (arith, e))
get_last (x ∷ xs) y zero e = absurd (omega (arith, e))
get_last (x ∷ xs) y (suc i) e = get_last xs y i (omega (arith, e))

pub at_end : {A : Type 0} (xs : List A) (y : A) (i : ℕ) (x : A) → length xs ≤ i → slice_get (xs ++ y ∷ []) i ≡ Some x → i ≡ length xs
at_end xs y i x l h = omega (arith, l, slice_get_within (xs ++ y ∷ []) i x h, length-append xs (y ∷ []))

-- a list whose entries differ still does with a new one
pub AllDiffer-push : {A : Type 0} (xs : List A) (y : A) → AllDiffer xs → IsNew xs y → AllDiffer (xs ++ y ∷ [])
AllDiffer-push xs y d n i j x hi hj =
    elim (cases_lt i (length xs)) [
      | inl li ↦ elim (cases_lt j (length xs)) [
        | inl lj ↦ d i j x (sym (get_left xs y i li) ∙ hi) (sym (get_left xs y j lj) ∙ hj)
        | inr gj ↦ absurd (n i (sym (get_left xs y i li) ∙ hi ∙ sym hj ∙ get_last xs y j (at_end xs y j x gj hj)))
      ]
      | inr gi ↦ elim (cases_lt j (length xs)) [
        | inl lj ↦ absurd (n j (sym (get_left xs y j lj) ∙ hj ∙ sym hi ∙ get_last xs y i (at_end xs y i x gi hi)))
        | inr gj ↦ at_end xs y i x gi hi ∙ sym (at_end xs y j x gj hj)
      ]
    ]

pub canon_none : {A : Type 0} → IsCanon {A = A} [] [] []
canon_none = record { spells = refl; grows = tt; reached = refl; differ = λ i j x hi hj. cc }

pub map_under : {A : Type 0} (f g : ℕ → A) (k : ℕ) (p : List ℕ) → Under k p → Agree f g k → map f p ≡ map g p
map_under f g k [] u a = refl
map_under f g k (x ∷ xs) u a =
    let h : f x ≡ g x = a x u.0 in
    let r : map f xs ≡ map g xs = map_under f g k xs u.1 a in
    cc

-- one more label, which is known
pub canon_known : {A : Type 0} (all : List A) (ranks : List ℕ) (labels : List A) (x : A) (e : ℕ) → IsCanon all ranks labels → slice_get labels e ≡ Some x → IsCanon (all ++ x ∷ []) (ranks ++ e ∷ []) labels
canon_known all ranks labels x e c h =
    let within : e < length labels = slice_get_within labels e x h in
    let w = c.reached in
    record {
      spells = map-append (slice_get labels) ranks (e ∷ []) ∙ ap (λ (ys : List _). ys ++ slice_get labels e ∷ []) c.spells ∙ ap (λ (o : _). map Some all ++ o ∷ []) h ∙ sym (map-append Some all (x ∷ []));
      grows = Grows-append 0 ranks (e ∷ []) c.grows (omega (arith, within, w), tt);
      reached = width-append 0 ranks (e ∷ []) ∙ (omega (arith, within, w));
      differ = c.differ;
    }

-- one more label, which is new
pub canon_new : {A : Type 0} (all : List A) (ranks : List ℕ) (labels : List A) (x : A) → IsCanon all ranks labels → IsNew labels x → IsCanon (all ++ x ∷ []) (ranks ++ length labels ∷ []) (labels ++ x ∷ [])
canon_new all ranks labels x c new =
    let e = length labels in
    let w = c.reached in
    let kept : map (slice_get (labels ++ x ∷ [])) ranks ≡ map (slice_get labels) ranks = map_under (slice_get (labels ++ x ∷ [])) (slice_get labels) e ranks (Under-width 0 e ranks (omega (arith, w))) (λ i l. get_left labels x i l) in
    record {
      spells = map-append (slice_get (labels ++ x ∷ [])) ranks (e ∷ []) ∙ ap (λ (ys : List _). ys ++ slice_get (labels ++ x ∷ []) e ∷ []) (kept ∙ c.spells) ∙ ap (λ (o : _). map Some all ++ o ∷ []) (get_last labels x e refl) ∙ sym (map-append Some all (x ∷ []));
      grows = Grows-append 0 ranks (e ∷ []) c.grows (omega (arith, w), tt);
      reached = width-append 0 ranks (e ∷ []) ∙ (omega (arith, w, length-append labels (x ∷ [])));
      differ = AllDiffer-push labels x c.differ new;
    }

pub read : {A : Type 0} (xs : List A) (i : ℕ) → i < length xs → (x : A) × (slice_get xs i ≡ Some x)
read [] i h = absurd (omega (arith, h))
read (x ∷ xs) zero h = (x, refl)
read (x ∷ xs) (suc i) h = read xs i (omega (arith, h))

pub apart : {A : Type 0} (xs : List A) → AllDiffer xs → IsApart (slice_get xs) (length xs)
apart xs d i j hi hj e = let r = read xs i hi in d i j r.0 r.1 (sym e ∙ r.1)

pub same_lists : {A : Type 0} (xs ys : List A) → length xs ≡ length ys → Agree (slice_get xs) (slice_get ys) (length xs) → xs ≡ ys
same_lists [] [] l a = refl
same_lists [] (y ∷ ys) l a = absurd (omega (arith, l))
same_lists (x ∷ xs) [] l a = absurd (omega (arith, l))
same_lists (x ∷ xs) (y ∷ ys) l a =
    let top : x ≡ y = same_Some x y (a 0 (omega arith)) in
    let r : xs ≡ ys = same_lists xs ys (let e : length xs ≡ length ys = omega (arith, l) in e) (λ i h. a (suc i) (omega (arith, h))) in
    cc

-- a list has one canon
pub canon_unique : {A : Type 0} (all : List A) (p q : List ℕ) (ds es : List A) → IsCanon all p ds → IsCanon all q es → (p ≡ q) × (ds ≡ es)
canon_unique all p q ds es c d =
    let r = unique (slice_get ds) (slice_get es) (length ds) (length es) (apart ds c.differ) (apart es d.differ) p q 0 (λ i h. absurd (omega (arith, h))) c.grows d.grows (omega (arith, c.reached)) (omega (arith, d.reached)) (c.spells ∙ sym d.spells) in
    let len : length ds ≡ length es = sym c.reached ∙ ap (width 0) r.0 ∙ d.reached in
    (r.0, same_lists ds es len (λ i h. r.1 i (omega (arith, h, c.reached))))

-- the place that the function gives is a place
placed : {A : Type 0} (eq : A → A → Bool) (laws : (x y : A) → Decides (eq x y) (x ≡ y)) (xs : List A) (x : A) → list_any (λ y. eq y x) xs ≡ true → slice_get xs (place eq xs x) ≡ Some x
placed eq laws [] x h = cc
placed eq laws (y ∷ ys) x h = by (placed eq laws ys x) (eq y x) refl
  where
    by : (list_any (λ z. eq z x) ys ≡ true → slice_get ys (place eq ys x) ≡ Some x) → (b : Bool) → eq y x ≡ b → slice_get (y ∷ ys) (cond b 0 (suc (place eq ys x))) ≡ Some x
    by rest true e = ap Some ((laws y x).0 e)
    by rest false e = rest (ap (λ (b : Bool). b || list_any (λ z. eq z x) ys) (sym e) ∙ h)

neither : (a b : Bool) → (a || b) ≡ false → (a ≡ false) × (b ≡ false)
neither true b h = cc
neither false b h = (refl, h)

unplaced : {A : Type 0} (eq : A → A → Bool) (xs : List A) (x : A) → list_any (λ y. eq y x) xs ≡ false → place eq xs x ≡ length xs
unplaced eq [] x h = refl
unplaced eq (y ∷ ys) x h =
    let n = neither (eq y x) (list_any (λ z. eq z x) ys) h in
    ap (λ (b : Bool). cond b 0 (suc (place eq ys x))) n.0 ∙ ap suc (unplaced eq ys x n.1)

fresh : {A : Type 0} (eq : A → A → Bool) (laws : (x y : A) → Decides (eq x y) (x ≡ y)) (xs : List A) (x : A) → list_any (λ y. eq y x) xs ≡ false → IsNew xs x
fresh eq laws [] x h i e = cc
fresh eq laws (y ∷ ys) x h zero e = false≢true (sym (neither (eq y x) (list_any (λ z. eq z x) ys) h).0 ∙ (laws y x).1 (same_Some y x e))
fresh eq laws (y ∷ ys) x h (suc i) e = fresh eq laws ys x (neither (eq y x) (list_any (λ z. eq z x) ys) h).1 i e

-- what the functions give is the canon
pub canon_on : {A : Type 0} (eq : A → A → Bool) (laws : (x y : A) → Decides (eq x y) (x ≡ y)) (xs all : List A) (p : List ℕ) (seen : List A) → IsCanon all p seen → IsCanon (all ++ xs) (p ++ rgs_on eq seen xs) (distinct_on eq seen xs)
canon_on eq laws [] all p seen c =
    subst (λ (v : List _). IsCanon v (p ++ []) seen) (sym (append-nil all)) (subst (λ (v : List ℕ). IsCanon all v seen) (sym (append-nil p)) c)
canon_on {A} eq laws (x ∷ xs) all p seen c = by (canon_on eq laws xs) (list_any (λ y. eq y x) seen) refl
  where
    by : ((all : List A) (p : List ℕ) (seen : List A) → IsCanon all p seen → IsCanon (all ++ xs) (p ++ rgs_on eq seen xs) (distinct_on eq seen xs)) → (b : Bool) → list_any (λ y. eq y x) seen ≡ b → IsCanon (all ++ x ∷ xs) (p ++ place eq seen x ∷ rgs_on eq (cond b seen (seen ++ x ∷ [])) xs) (distinct_on eq (cond b seen (seen ++ x ∷ [])) xs)
    by rest true e =
        subst (λ (v : List _). IsCanon v (p ++ place eq seen x ∷ rgs_on eq seen xs) (distinct_on eq seen xs)) (append_assoc all (x ∷ []) xs)
        (subst (λ (v : List ℕ). IsCanon ((all ++ x ∷ []) ++ xs) v (distinct_on eq seen xs)) (append_assoc p (place eq seen x ∷ []) (rgs_on eq seen xs))
        (rest (all ++ x ∷ []) (p ++ place eq seen x ∷ []) seen (canon_known all p seen x (place eq seen x) c (placed eq laws seen x e))))
    by rest false e =
        subst (λ (v : List _). IsCanon v (p ++ place eq seen x ∷ rgs_on eq (seen ++ x ∷ []) xs) (distinct_on eq (seen ++ x ∷ []) xs)) (append_assoc all (x ∷ []) xs)
        (subst (λ (v : List ℕ). IsCanon ((all ++ x ∷ []) ++ xs) v (distinct_on eq (seen ++ x ∷ []) xs)) (append_assoc p (place eq seen x ∷ []) (rgs_on eq (seen ++ x ∷ []) xs))
        (rest (all ++ x ∷ []) (p ++ place eq seen x ∷ []) (seen ++ x ∷ [])
        (subst (λ (k : ℕ). IsCanon (all ++ x ∷ []) (p ++ k ∷ []) (seen ++ x ∷ [])) (sym (unplaced eq seen x e)) (canon_new all p seen x c (fresh eq laws seen x e)))))

pub canon_is : {A : Type 0} (eq : A → A → Bool) (laws : (x y : A) → Decides (eq x y) (x ≡ y)) (all : List A) (p : List ℕ) (ds : List A) → IsCanon all p ds → (p ≡ rgs eq all) × (ds ≡ distinct eq all)
canon_is eq laws all p ds c = canon_unique all p (rgs eq all) ds (distinct eq all) c (canon_on eq laws all [] [] [] canon_none)
