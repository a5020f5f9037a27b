use Rattle.std.proofs.Common.{◌≡◌, ℕ, ◌<◌, List, [], ◌∷◌, ◌++◌, map, refl, sym, ◌∙◌, ap, subst, length, get_or, arith, Some}
use Rattle.std.specs.List.{flat_map, slice_get, zip, All}
use Rattle.std.proofs.lemmas.List.{length-map, get_or-map, get_or_default}
use Rattle.std.proofs.lemmas.Option.{slice_get-get_or, slice_get_within, get_or_from_slice_get}
use Rattle.std.proofs.lemmas.Slice.Zip.{length-zip, get_or-zip, firsts-zip, seconds-zip}
use Rattle.cf_model.specs.Renumbering.{AllDiffer, IsCanon}
use Rattle.cf_model.proofs.Growth.{Under}
use Rattle.cf_model.proofs.RenumberingLaws.{canon_length, map_map}
use Rattle.cf_build.proofs.Words.{canon_reads}
use Rattle.cf_build.proofs.Joins.{all_reached, map_words, words_map}
use Rattle.cf_build.proofs.Loops.{Under-at}
use Rattle.cf_table.specs.Triples.{triple_of, zip3}

zip_append : {A B : Type 0} (xs us : List A) (ys vs : List B) → length xs ≡ length ys → zip (xs ++ us) (ys ++ vs) ≡ zip xs ys ++ zip us vs
zip_append [] us [] vs h = refl
zip_append [] us (y ∷ ys) vs h = absurd (omega (arith, h))
zip_append (x ∷ xs) us [] vs h = absurd (omega (arith, h))
zip_append (x ∷ xs) us (y ∷ ys) vs h = ap (λ (w : List _). (x, y) ∷ w) (zip_append xs us ys vs (let e : length xs ≡ length ys = omega (arith, h) in e))

-- every word that the list gives is of one length
abbrev pub Even : {A X : Type 0} → (X → List A) → ℕ → List X → Type 0
Even f n [] = Unit {0}
Even f n (x ∷ xs) = (length (f x) ≡ n) × Even f n xs

pub even_under : {A : Type 0} (f : ℕ → List A) (n k : ℕ) (p : List ℕ) → ((i : ℕ) → i < k → length (f i) ≡ n) → Under k p → Even f n p
even_under f n k [] h u = tt
even_under f n k (x ∷ p) h u = (h x u.0, even_under f n k p h u.1)

pub length_zip_even : {A B : Type 0} (xs : List A) (ys : List B) (n : ℕ) → length xs ≡ n → length ys ≡ n → length (zip xs ys) ≡ n
length_zip_even xs ys n h k = omega (arith, length-zip xs ys, h, k)

pub even_zip : {A B X Y : Type 0} (f : X → List A) (g : Y → List B) (n : ℕ) (p : List X) (q : List Y) → Even f n p → Even g n q → Even (λ (r : X × Y). zip (f r.0) (g r.1)) n (zip p q)
even_zip f g n [] q a b = tt
even_zip f g n (x ∷ p) [] a b = tt
even_zip f g n (x ∷ p) (y ∷ q) a b = (length_zip_even (f x) (g y) n a.0 b.0, even_zip f g n p q a.1 b.1)

-- words of one length are zipped word by word
pub zip_words : {A B X Y : Type 0} (f : X → List A) (g : Y → List B) (n : ℕ) (p : List X) (q : List Y) → Even f n p → Even g n q → length p ≡ length q
    → zip (flat_map f p) (flat_map g q) ≡ flat_map (λ (r : X × Y). zip (f r.0) (g r.1)) (zip p q)
zip_words f g n [] [] a b h = refl
zip_words f g n [] (y ∷ q) a b h = absurd (omega (arith, h))
zip_words f g n (x ∷ p) [] a b h = absurd (omega (arith, h))
zip_words f g n (x ∷ p) (y ∷ q) a b h =
    zip_append (f x) (flat_map f p) (g y) (flat_map g q) (a.0 ∙ sym b.0)
    ∙ ap (λ (w : List _). zip (f x) (g y) ++ w) (zip_words f g n p q a.1 b.1 (let e : length p ≡ length q = omega (arith, h) in e))

pub zip_map : {A B X Y : Type 0} (f : X → A) (g : Y → B) (p : List X) (q : List Y) → zip (map f p) (map g q) ≡ map (λ (r : X × Y). (f r.0, g r.1)) (zip p q)
zip_map f g [] q = refl
zip_map f g (x ∷ p) [] = refl
zip_map f g (x ∷ p) (y ∷ q) = ap (λ (w : List _). (f x, g y) ∷ w) (zip_map f g p q)

abbrev pub Both : ℕ → ℕ → ℕ × ℕ → Type 0
Both k m r = (r.0 < k) × (r.1 < m)

pub all_zip : (k m : ℕ) (p q : List ℕ) → Under k p → Under m q → All (Both k m) (zip p q)
all_zip k m p q up uq i d h =
    let lp : i < length p = omega (arith, h, length-zip p q) in
    let lq : i < length q = omega (arith, h, length-zip p q) in
    subst (Both k m) (sym (get_or-zip p q i d lp lq)) (Under-at k p up i d.0 lp, Under-at m q uq i d.1 lq)

abbrev pub Three : ℕ → ℕ → ℕ → ℕ × ℕ × ℕ → Type 0
Three k m n t = (t.0 < k) × (t.1 < m) × (t.2 < n)

pub all_zip3 : (k m n : ℕ) (p q r : List ℕ) → Under k p → Under m q → Under n r → All (Three k m n) (zip3 p q r)
all_zip3 k m n p q r up uq ur i d h =
    let none : ℕ × (ℕ × ℕ) = (0, (0, 0)) in
    let lz : i < length (zip p (zip q r)) = omega (arith, h, length-map (zip p (zip q r)) triple_of) in
    let lp : i < length p = omega (arith, lz, length-zip p (zip q r)) in
    let lr : i < length (zip q r) = omega (arith, lz, length-zip p (zip q r)) in
    let w = all_zip m n q r uq ur i (0, 0) lr in
    let e : get_or (zip3 p q r) i d ≡ triple_of (get_or p i 0, get_or (zip q r) i (0, 0)) = get_or-map triple_of (zip p (zip q r)) i none d lz ∙ ap triple_of (get_or-zip p (zip q r) i none lp lr) in
    subst (Three k m n) (sym e) (Under-at k p up i 0 lp, w.0, w.1)

-- what holds of a list holds of its different entries
pub all_labels_of : {X : Type 0} (P : X → Type 0) (all : List X) (ranks : List ℕ) (labels : List X) (none : X) → IsCanon all ranks labels → All P all → All P labels
all_labels_of P all ranks labels none c h j d lj =
    let reads : all ≡ map (λ i. get_or labels i none) ranks = canon_reads all ranks labels none c.spells in
    let r = all_reached (λ i. P (get_or labels i none)) ranks 0 c.grows
    (λ i li. subst P (ap (λ (v : List _). get_or v i none) reads ∙ get_or-map (λ i. get_or labels i none) ranks i 0 none li) (h i none (omega (arith, li, canon_length all ranks labels c))))
    j (omega arith) (omega (arith, lj, c.reached)) in
    subst P (get_or_default labels j none d lj) r

some_from_map : {A B : Type 0} (f : A → B) (xs : List A) (i : ℕ) (y : B) → slice_get (map f xs) i ≡ Some y → (d : A) → (i < length xs) × (f (get_or xs i d) ≡ y)
some_from_map f xs i y h d =
    let l : i < length xs = omega (arith, slice_get_within (map f xs) i y h, length-map xs f) in
    (l, sym (get_or-map f xs i d (f d) l) ∙ get_or_from_slice_get (map f xs) i y (f d) h)

-- entries that an injection takes to labels still differ
pub differ_map : {X A : Type 0} (f : X → A) (P : X → Type 0) (xs : List X) (none : X) → All P xs → ((x y : X) → P x → P y → f x ≡ f y → x ≡ y) → AllDiffer xs → AllDiffer (map f xs)
differ_map f P xs none all inj d i j y hi hj =
    let a = some_from_map f xs i y hi none in
    let b = some_from_map f xs j y hj none in
    let e = inj (get_or xs i none) (get_or xs j none) (all i none a.0) (all j none b.0) (a.1 ∙ sym b.1) in
    d i j (get_or xs i none) (slice_get-get_or xs i none a.0) (slice_get-get_or xs j none b.0 ∙ ap Some (sym e))

-- lists of one length are told by their pairs
pub zip_tells : {A B : Type 0} (xs us : List A) (ys vs : List B) (n : ℕ) → length xs ≡ n → length us ≡ n → length ys ≡ n → length vs ≡ n → zip xs ys ≡ zip us vs → (xs ≡ us) × (ys ≡ vs)
zip_tells xs us ys vs n a b c d e = (
  sym (firsts-zip xs ys (c ∙ sym a)) ∙ ap (map (λ (p : _). p.0)) e ∙ firsts-zip us vs (d ∙ sym b),
  sym (seconds-zip xs ys (c ∙ sym a)) ∙ ap (map (λ (p : _). p.1)) e ∙ seconds-zip us vs (d ∙ sym b),
)

-- three lists' words of one length are zipped word by word
pub zip3_words : (f g h : ℕ → List ℕ) (n : ℕ) (p q r : List ℕ) → Even f n p → Even g n q → Even h n r → length p ≡ length q → length q ≡ length r
    → zip3 (flat_map f p) (flat_map g q) (flat_map h r) ≡ flat_map (λ (t : ℕ × ℕ × ℕ). zip3 (f t.0) (g t.1) (h t.2)) (zip3 p q r)
zip3_words f g h n p q r a b c d e =
    let w : ℕ × ℕ → List (ℕ × ℕ) = λ s. zip (g s.0) (h s.1) in
    let pairs : length p ≡ length (zip q r) = omega (arith, length-zip q r, d, e) in
    ap (λ (v : List (ℕ × ℕ)). map triple_of (zip (flat_map f p) v)) (zip_words g h n q r b c e)
    ∙ ap (map triple_of) (zip_words f w n p (zip q r) a (even_zip g h n q r b c) pairs)
    ∙ map_words triple_of (λ (t : ℕ × (ℕ × ℕ)). zip (f t.0) (w t.1)) (zip p (zip q r))
    ∙ sym (words_map (λ (t : ℕ × ℕ × ℕ). zip3 (f t.0) (g t.1) (h t.2)) triple_of (zip p (zip q r)))

pub zip3_map : (f g h : ℕ → ℕ) (p q r : List ℕ) → zip3 (map f p) (map g q) (map h r) ≡ map (λ (t : ℕ × ℕ × ℕ). (f t.0, g t.1, h t.2)) (zip3 p q r)
zip3_map f g h p q r =
    ap (λ (v : List (ℕ × ℕ)). map triple_of (zip (map f p) v)) (zip_map g h q r)
    ∙ ap (map triple_of) (zip_map f (λ (s : ℕ × ℕ). (g s.0, h s.1)) p (zip q r))
    ∙ map_map triple_of (λ (t : ℕ × (ℕ × ℕ)). (f t.0, (g t.1.0, h t.1.1))) (zip p (zip q r))
    ∙ sym (map_map (λ (t : ℕ × ℕ × ℕ). (f t.0, g t.1, h t.2)) triple_of (zip p (zip q r)))

pub length_zip3_even : (xs ys zs : List ℕ) (n : ℕ) → length xs ≡ n → length ys ≡ n → length zs ≡ n → length (zip3 xs ys zs) ≡ n
length_zip3_even xs ys zs n a b c = length-map (zip xs (zip ys zs)) triple_of ∙ length_zip_even xs (zip ys zs) n a (length_zip_even ys zs n b c)

abbrev nested : ℕ × ℕ × ℕ → ℕ × (ℕ × ℕ)
nested t = (t.0, (t.1, t.2))

nested_back : (z : List (ℕ × (ℕ × ℕ))) → map nested (map triple_of z) ≡ z
nested_back [] = refl
nested_back (t ∷ z) = ap (λ (v : List (ℕ × (ℕ × ℕ))). t ∷ v) (nested_back z)

-- lists of one length are told by their triples
pub zip3_tells : (xs us ys vs zs ws : List ℕ) (n : ℕ) → length xs ≡ n → length us ≡ n → length ys ≡ n → length vs ≡ n → length zs ≡ n → length ws ≡ n → zip3 xs ys zs ≡ zip3 us vs ws → (xs ≡ us) × (ys ≡ vs) × (zs ≡ ws)
zip3_tells xs us ys vs zs ws n a b c d e f q =
    let outer = zip_tells xs us (zip ys zs) (zip vs ws) n a b (length_zip_even ys zs n c e) (length_zip_even vs ws n d f) (sym (nested_back (zip xs (zip ys zs))) ∙ ap (map nested) q ∙ nested_back (zip us (zip vs ws))) in
    let inner = zip_tells ys vs zs ws n c d e f outer.1 in
    (outer.0, inner.0, inner.1)
