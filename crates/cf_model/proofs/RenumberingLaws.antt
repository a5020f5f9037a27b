use Rattle.std.proofs.Common.{◌≡◌, ℕ, zero, suc, ◌<◌, ◌≤◌, ◌+◌, max, Bool, true, false, cond, List, [], ◌∷◌, map, length, get_or, nat_eq, Option, Some, None, option_map, refl, sym, ◌∙◌, ap, arith, inl, inr}
use Rattle.std.specs.List.{slice_get}
use Rattle.std.specs.Bool.{Decides}
use Rattle.std.proofs.lemmas.Bool.{cases_lt}
use Rattle.std.proofs.lemmas.Bool.Decides.{nat_tests}
use Rattle.std.proofs.lemmas.List.{length-map, get_or-map, ext_get_or}
use Rattle.std.proofs.lemmas.Option.{slice_get-map, slice_get-get_or, same_Some, slice_get_within}
use Rattle.cf_model.specs.Renumbering.{width, Grows, IsApart, AllDiffer, IsCanon, SamePlaces, place, rgs, distinct}
use Rattle.cf_model.proofs.Growth.{Under-width, unique}
use Rattle.cf_model.proofs.CanonLaws.{read, canon_none, map_under, canon_on, canon_unique, canon_is}

pub nat_decides : (x y : ℕ) → Decides (nat_eq x y) (x ≡ y)
nat_decides x y = (λ h. grind (arith, nat_tests), λ h. grind (arith, nat_tests))

-- what the functions give is a canon
pub canon_of : {A : Type 0} (eq : A → A → Bool) (laws : (x y : A) → Decides (eq x y) (x ≡ y)) (xs : List A) → IsCanon xs (rgs eq xs) (distinct eq xs)
canon_of eq laws xs = canon_on eq laws xs [] [] [] canon_none

-- each place has a rank
pub canon_length : {A : Type 0} (all : List A) (p : List ℕ) (ds : List A) → IsCanon all p ds → length p ≡ length all
canon_length all p ds c = sym (length-map p (slice_get ds)) ∙ ap length c.spells ∙ length-map all Some

pub length-rgs : {A : Type 0} (eq : A → A → Bool) (laws : (x y : A) → Decides (eq x y) (x ≡ y)) (xs : List A) → length (rgs eq xs) ≡ length xs
length-rgs eq laws xs = canon_length xs (rgs eq xs) (distinct eq xs) (canon_of eq laws xs)

-- numbering by first reach
pub rgs_grows : {A : Type 0} (eq : A → A → Bool) (laws : (x y : A) → Decides (eq x y) (x ≡ y)) (xs : List A) → Grows 0 (rgs eq xs) × (width 0 (rgs eq xs) ≡ length (distinct eq xs))
rgs_grows eq laws xs = let c = canon_of eq laws xs in (c.grows, c.reached)

-- no entry is there twice
pub distinct_differ : {A : Type 0} (eq : A → A → Bool) (laws : (x y : A) → Decides (eq x y) (x ≡ y)) (xs : List A) → AllDiffer (distinct eq xs)
distinct_differ eq laws xs = (canon_of eq laws xs).differ

-- the list is its different labels, read through the ranks
pub read_through : {A : Type 0} (eq : A → A → Bool) (laws : (x y : A) → Decides (eq x y) (x ≡ y)) (xs : List A) → map (slice_get (distinct eq xs)) (rgs eq xs) ≡ map Some xs
read_through eq laws xs = (canon_of eq laws xs).spells

some_apart : {A : Type 0} (xs ys : List A) → map Some xs ≡ map Some ys → xs ≡ ys
some_apart [] [] e = refl
some_apart [] (y ∷ ys) e = cc
some_apart (x ∷ xs) [] e = cc
some_apart (x ∷ xs) (y ∷ ys) e =
    let top : Some x ≡ Some y = cc in
    let here : x ≡ y = same_Some x y top in
    let below : map Some xs ≡ map Some ys = cc in
    let rest : xs ≡ ys = some_apart xs ys below in
    cc

-- ranks and labels determine the list
pub canon_tells : {A : Type 0} (xs ys : List A) (p : List ℕ) (ds : List A) → IsCanon xs p ds → IsCanon ys p ds → xs ≡ ys
canon_tells xs ys p ds c d = some_apart xs ys (sym c.spells ∙ d.spells)

-- the numbers from n on, k of them
abbrev pub numbers_from : ℕ → ℕ → List ℕ
numbers_from n zero = []
numbers_from n (suc k) = n ∷ numbers_from (suc n) k

pub length-numbers_from : (n k : ℕ) → length (numbers_from n k) ≡ k
length-numbers_from n zero = refl
length-numbers_from n (suc k) = ap suc (length-numbers_from (suc n) k)

pub read_numbers : (n k i : ℕ) → i < k → slice_get (numbers_from n k) i ≡ Some (n + i)
read_numbers n zero i h = absurd (omega (arith, h))
read_numbers n (suc k) zero h = ap Some (let e : n ≡ n + 0 = omega arith in e)
read_numbers n (suc k) (suc i) h = read_numbers (suc n) k i (omega (arith, h)) ∙ ap Some (let e : suc n + i ≡ n + suc i = omega arith in e)

-- a list that numbers by first reach is its own canon
pub grown_canon : (p : List ℕ) → Grows 0 p → IsCanon p p (numbers_from 0 (width 0 p))
grown_canon p g =
    let w = width 0 p in
    let len = length-numbers_from 0 w in
    let at : (i : ℕ) → i < w → slice_get (numbers_from 0 w) i ≡ Some i = λ i h. (read_numbers 0 w i h ∙ ap Some (let e : 0 + i ≡ i = omega arith in e)) in
    let number : (i x : ℕ) → slice_get (numbers_from 0 w) i ≡ Some x → i ≡ x = λ i x h. same_Some i x (sym (at i (omega (arith, len, slice_get_within (numbers_from 0 w) i x h))) ∙ h) in
    record {
      spells = map_under (slice_get (numbers_from 0 w)) Some w p (Under-width 0 w p (omega arith)) at;
      grows = g;
      reached = sym len;
      differ = λ i j x hi hj. number i x hi ∙ sym (number j x hj);
    }

pub rgs_of_grown : (p : List ℕ) → Grows 0 p → rgs nat_eq p ≡ p
rgs_of_grown p g = sym (canon_is nat_eq nat_decides p p (numbers_from 0 (width 0 p)) (grown_canon p g)).0

-- rgs is idempotent
pub rgs_idempotent : {A : Type 0} (eq : A → A → Bool) (laws : (x y : A) → Decides (eq x y) (x ≡ y)) (xs : List A) → rgs nat_eq (rgs eq xs) ≡ rgs eq xs
rgs_idempotent eq laws xs = rgs_of_grown (rgs eq xs) (rgs_grows eq laws xs).0

pub map_each : {A B : Type 0} (f g : A → B) → ((x : A) → f x ≡ g x) → (xs : List A) → map f xs ≡ map g xs
map_each f g h [] = refl
map_each f g h (x ∷ xs) =
    let top : f x ≡ g x = h x in
    let rest : map f xs ≡ map g xs = map_each f g h xs in
    cc

pub map_map : {A B C : Type 0} (f : B → C) (g : A → B) (xs : List A) → map f (map g xs) ≡ map (λ x. f (g x)) xs
map_map f g [] = refl
map_map f g (x ∷ xs) = ap (λ (ys : List _). f (g x) ∷ ys) (map_map f g xs)

option_map-some : {A B : Type 0} (f : A → B) (o : Option A) (y : B) → option_map f o ≡ Some y → (x : A) × (o ≡ Some x) × (f x ≡ y)
option_map-some f None y h = absurd (let e : None ≡ Some y = h in cc)
option_map-some f (Some x) y h = (x, refl, same_Some (f x) y h)

-- labels that an injection replaces have the same ranks
pub canon-map : {A B : Type 0} (f : A → B) → ((x y : A) → f x ≡ f y → x ≡ y) → (all : List A) (p : List ℕ) (ds : List A) → IsCanon all p ds → IsCanon (map f all) p (map f ds)
canon-map f inj all p ds c = record {
  spells = map_each (slice_get (map f ds)) (λ k. option_map f (slice_get ds k)) (λ k. slice_get-map f ds k) p ∙ sym (map_map (option_map f) (slice_get ds) p) ∙ ap (map (option_map f)) c.spells
      ∙ map_map (option_map f) Some all ∙ sym (map_map Some f all);
  grows = c.grows;
  reached = c.reached ∙ sym (length-map ds f);
  differ = λ i j y hi hj.
      (let a = option_map-some f (slice_get ds i) y (sym (slice_get-map f ds i) ∙ hi) in
      let b = option_map-some f (slice_get ds j) y (sym (slice_get-map f ds j) ∙ hj) in
      let e : b.0 ≡ a.0 = inj b.0 a.0 (b.2 ∙ sym a.2) in
      c.differ i j a.0 a.1 (b.1 ∙ ap Some e));
}

pub rgs-map : {A B : Type 0} (eq : A → A → Bool) (laws : (x y : A) → Decides (eq x y) (x ≡ y)) (eq' : B → B → Bool) (laws' : (x y : B) → Decides (eq' x y) (x ≡ y)) (f : A → B) → ((x y : A) → f x ≡ f y → x ≡ y)
    → (xs : List A) → (rgs eq' (map f xs) ≡ rgs eq xs) × (distinct eq' (map f xs) ≡ map f (distinct eq xs))
rgs-map eq laws eq' laws' f inj xs =
    canon_unique (map f xs) (rgs eq' (map f xs)) (rgs eq xs) (distinct eq' (map f xs)) (map f (distinct eq xs)) (canon_of eq' laws' (map f xs)) (canon-map f inj xs (rgs eq xs) (distinct eq xs) (canon_of eq laws xs))

-- a place's label is that of its rank
pub canon_read : {A : Type 0} (all : List A) (p : List ℕ) (ds : List A) → IsCanon all p ds → (i : ℕ) → i < length all → slice_get ds (get_or p i 0) ≡ slice_get all i
canon_read all p ds c i h =
    let r = read all i h in
    sym (get_or-map (slice_get ds) p i 0 None (omega (arith, h, canon_length all p ds c)))
    ∙ ap (λ (os : List (Option _)). get_or os i None) c.spells
    ∙ get_or-map Some all i r.0 None h
    ∙ sym (slice_get-get_or all i r.0 h)

-- two places have one rank exactly where they have one label
pub canon_places : {A : Type 0} (all : List A) (p : List ℕ) (ds : List A) → IsCanon all p ds → (i j : ℕ) → i < length all → j < length all
    → (get_or p i 0 ≡ get_or p j 0 → slice_get all i ≡ slice_get all j) × (slice_get all i ≡ slice_get all j → get_or p i 0 ≡ get_or p j 0)
canon_places all p ds c i j hi hj =
    let ri = canon_read all p ds c i hi in
    let rj = canon_read all p ds c j hj in
    let x = read all i hi in
    (λ e. sym ri ∙ ap (slice_get ds) e ∙ rj, λ e. c.differ (get_or p i 0) (get_or p j 0) x.0 (ri ∙ x.1) (rj ∙ sym e ∙ x.1))

-- the first place of a number that is there
place_of : (p : List ℕ) (i : ℕ) → i < length p → (place nat_eq p (get_or p i 0) < length p) × (get_or p (place nat_eq p (get_or p i 0)) 0 ≡ get_or p i 0)
place_of [] i h = absurd (omega (arith, h))
place_of (y ∷ ys) i h = by (get_or (y ∷ ys) i 0) (nat_eq y (get_or (y ∷ ys) i 0)) refl (later (place_of ys) i h)
  where
    -- where the first entry is another, the place is in the rest
    later : ((i : ℕ) → i < length ys → (place nat_eq ys (get_or ys i 0) < length ys) × (get_or ys (place nat_eq ys (get_or ys i 0)) 0 ≡ get_or ys i 0)) → (i : ℕ) → i < suc (length ys) → nat_eq y (get_or (y ∷ ys) i 0) ≡ false → (place nat_eq ys (get_or (y ∷ ys) i 0) < length ys) × (get_or ys (place nat_eq ys (get_or (y ∷ ys) i 0)) 0 ≡ get_or (y ∷ ys) i 0)
    later below zero h e = absurd (grind (arith, nat_tests, e))
    later below (suc i) h e = below i (omega (arith, h))

    by : (x : ℕ) (b : Bool) → nat_eq y x ≡ b → (b ≡ false → (place nat_eq ys x < length ys) × (get_or ys (place nat_eq ys x) 0 ≡ x)) → (cond b 0 (suc (place nat_eq ys x)) < suc (length ys)) × (get_or (y ∷ ys) (cond b 0 (suc (place nat_eq ys x))) 0 ≡ x)
    by x true e rest = (omega arith, (nat_decides y x).0 e)
    by x false e rest = let r = rest refl in (omega (arith, r.0), r.1)

-- each number below the width is reached
pub reached_at : (n : ℕ) (p : List ℕ) → Grows n p → (k : ℕ) → n ≤ k → k < width n p → (i : ℕ) × (i < length p) × (get_or p i 0 ≡ k)
reached_at n [] g k h w = absurd (omega (arith, h, w))
reached_at n (x ∷ xs) g k h w = elim (cases_lt k (max n (suc x))) [
  | inl l ↦ (0, omega arith, omega (arith, l, h, g.0))
  | inr m ↦ (let r = reached_at (max n (suc x)) xs g.1 k m w in (suc r.0, omega (arith, r.1), r.2))
]

-- two lists that number by first reach and are equal at the same places are one
pub same_growth : (p q : List ℕ) → Grows 0 p → Grows 0 q → length p ≡ length q
    → ((i j : ℕ) → i < length p → j < length p → (get_or p i 0 ≡ get_or p j 0 → get_or q i 0 ≡ get_or q j 0) × (get_or q i 0 ≡ get_or q j 0 → get_or p i 0 ≡ get_or p j 0)) → p ≡ q
same_growth p q gp gq len same =
    let f : ℕ → ℕ = λ k. get_or q (place nat_eq p k) 0 in
    let at : (i : ℕ) → i < length p → f (get_or p i 0) ≡ get_or q i 0 = λ i h. (let r = place_of p i h in (same (place nat_eq p (get_or p i 0)) i r.0 h).0 r.1) in
    let apart : IsApart f (width 0 p) = λ i j hi hj e.
    (let a = reached_at 0 p gp i (omega arith) hi in
    let b = reached_at 0 p gp j (omega arith) hj in
    let here : f i ≡ get_or q a.0 0 = ap f (sym a.2) ∙ at a.0 a.1 in
    let there : f j ≡ get_or q b.0 0 = ap f (sym b.2) ∙ at b.0 b.1 in
    sym a.2 ∙ (same a.0 b.0 a.1 b.1).1 (sym here ∙ e ∙ there) ∙ b.2) in
    let spelled : map f p ≡ map (λ (k : ℕ). k) q = ext_get_or 0 (map f p) (map (λ (k : ℕ). k) q) (length-map p f ∙ len ∙ sym (length-map q (λ (k : ℕ). k)))
    (λ i h. (let l : i < length p = omega (arith, h, length-map p f) in get_or-map f p i 0 0 l ∙ at i l ∙ sym (get_or-map (λ (k : ℕ). k) q i 0 0 (omega (arith, l, len))))) in
    (unique f (λ (k : ℕ). k) (width 0 p) (width 0 q) apart (λ i j hi hj e. e) p q 0 (λ i h. absurd (omega (arith, h))) gp gq (omega arith) (omega arith) spelled).0

-- Two lists have one rgs exactly where equal places are equal in both.
pub rgs_places : {A B : Type 0} (eq : A → A → Bool) (laws : (x y : A) → Decides (eq x y) (x ≡ y)) (eq' : B → B → Bool) (laws' : (x y : B) → Decides (eq' x y) (x ≡ y)) (xs : List A) (ys : List B)
    → length xs ≡ length ys → (rgs eq xs ≡ rgs eq' ys → SamePlaces xs ys) × (SamePlaces xs ys → rgs eq xs ≡ rgs eq' ys)
rgs_places eq laws eq' laws' xs ys len =
    let c = canon_of eq laws xs in
    let d = canon_of eq' laws' ys in
    let p = rgs eq xs in
    let q = rgs eq' ys in
    let lp = length-rgs eq laws xs in
    let lq = length-rgs eq' laws' ys in
    let px : (i j : ℕ) → i < length xs → j < length xs → (get_or p i 0 ≡ get_or p j 0 → slice_get xs i ≡ slice_get xs j) × (slice_get xs i ≡ slice_get xs j → get_or p i 0 ≡ get_or p j 0) = canon_places xs p (distinct eq xs) c in
    let qy : (i j : ℕ) → i < length xs → j < length xs → (get_or q i 0 ≡ get_or q j 0 → slice_get ys i ≡ slice_get ys j) × (slice_get ys i ≡ slice_get ys j → get_or q i 0 ≡ get_or q j 0) = λ i j hi hj. canon_places ys q (distinct eq' ys) d i j (omega (arith, hi, len)) (omega (arith, hj, len)) in (
      λ e i j hi hj. (
        λ h. (qy i j hi hj).0 (ap (λ (r : List ℕ). get_or r i 0) (sym e) ∙ (px i j hi hj).1 h ∙ ap (λ (r : List ℕ). get_or r j 0) e),
        λ h. (px i j hi hj).0 (ap (λ (r : List ℕ). get_or r i 0) e ∙ (qy i j hi hj).1 h ∙ ap (λ (r : List ℕ). get_or r j 0) (sym e)),
      ),
      λ s. same_growth p q c.grows d.grows (lp ∙ len ∙ sym lq) (λ i j hi hj.
          (let li : i < length xs = omega (arith, hi, lp) in
          let lj : j < length xs = omega (arith, hj, lp) in (
            λ h. (qy i j li lj).1 ((s i j li lj).0 ((px i j li lj).0 h)),
            λ h. (px i j li lj).1 ((s i j li lj).1 ((qy i j li lj).0 h)),
          ))),
    )
