use Rattle.std.proofs.Common.{◌≡◌, ℕ, ◌<◌, List, [], ◌∷◌, map, refl, sym, ◌∙◌, ap, subst, length, arith, Some, zero-add}
use Rattle.std.specs.List.{slice_get, zip, range_with_len}
use Rattle.std.proofs.lemmas.List.FromFn.{length-range_with_len, get_or-range_with_len}
use Rattle.std.proofs.lemmas.Option.{slice_get-get_or, slice_get_within, get_or_from_slice_get}
use Rattle.cf_model.specs.Renumbering.{width, Grows, IsCanon}
use Rattle.cf_model.specs.FlatFunctions.{points}
use Rattle.cf_model.specs.Diagrams.{Levels, count, pattern, exits, IsGood}
use Rattle.cf_model.proofs.Growth.{Under, Under-width}
use Rattle.cf_model.proofs.RenumberingLaws.{canon-map}
use Rattle.cf_model.proofs.Canonicity.{level_holds}
use Rattle.cf_table.specs.declared.Gid.{Gid}
use Rattle.cf_build.specs.Assembling.{HasCanon}
use Rattle.cf_pair.specs.declared.middle_triples.Place.{Place}
use Rattle.cf_pair.specs.declared.middle_triples.Place.TheVariants.{First, Second, Third}
use Rattle.cf_table.specs.Triples.{zip3}
use Rattle.cf_pair.specs.Products.{after_zero, before_zero, twice}
use Rattle.cf_pair.specs.Triples.{at_place, zero_put}

numbers_read : (n : ℕ) (p : List ℕ) → Under n p → map (slice_get (range_with_len 0 n)) p ≡ map Some p
numbers_read n [] u = refl
numbers_read n (x ∷ p) u =
    let here : slice_get (range_with_len 0 n) x ≡ Some x = slice_get-get_or (range_with_len 0 n) x 0 (omega (arith, u.0, length-range_with_len 0 n)) ∙ ap Some (get_or-range_with_len 0 n x 0 u.0 ∙ zero-add x) in
    let rest : map (slice_get (range_with_len 0 n)) p ≡ map Some p = numbers_read n p u.1 in
    cc

number_at : (n i x : ℕ) → slice_get (range_with_len 0 n) i ≡ Some x → x ≡ i
number_at n i x h = sym (get_or_from_slice_get (range_with_len 0 n) i x 0 h) ∙ get_or-range_with_len 0 n i 0 (omega (arith, slice_get_within (range_with_len 0 n) i x h, length-range_with_len 0 n)) ∙ zero-add i

-- a list that numbers by first reach is its own ranks, and its labels are the numbers
pub own_canon : (n : ℕ) (p : List ℕ) → Grows 0 p → width 0 p ≡ n → IsCanon p p (range_with_len 0 n)
own_canon n p g w = record {
  spells = numbers_read n p (Under-width 0 n p (omega (arith, w)));
  grows = g;
  reached = w ∙ sym (length-range_with_len 0 n);
  differ = λ i j x hi hj. sym (number_at n i x hi) ∙ number_at n j x hj;
}

zip_zeros_first : (zs p : List ℕ) → Under 1 zs → length zs ≡ length p → zip zs p ≡ map after_zero p
zip_zeros_first [] [] u e = refl
zip_zeros_first [] (x ∷ p) u e = absurd (omega (arith, e))
zip_zeros_first (z ∷ zs) [] u e = absurd (omega (arith, e))
zip_zeros_first (z ∷ zs) (x ∷ p) u e =
    let is : z ≡ 0 = omega (arith, u.0) in
    let rest : zip zs p ≡ map after_zero p = zip_zeros_first zs p u.1 (let h : length zs ≡ length p = omega (arith, e) in h) in
    subst (λ (y : ℕ). (y, x) ∷ zip zs p ≡ after_zero x ∷ map after_zero p) (sym is) (ap (λ (v : List (ℕ × ℕ)). after_zero x ∷ v) rest)

zip_zeros_second : (p zs : List ℕ) → Under 1 zs → length zs ≡ length p → zip p zs ≡ map before_zero p
zip_zeros_second [] [] u e = refl
zip_zeros_second (x ∷ p) [] u e = absurd (omega (arith, e))
zip_zeros_second [] (z ∷ zs) u e = absurd (omega (arith, e))
zip_zeros_second (x ∷ p) (z ∷ zs) u e =
    let is : z ≡ 0 = omega (arith, u.0) in
    let rest : zip p zs ≡ map before_zero p = zip_zeros_second p zs u.1 (let h : length zs ≡ length p = omega (arith, e) in h) in
    subst (λ (y : ℕ). (x, y) ∷ zip p zs ≡ before_zero x ∷ map before_zero p) (sym is) (ap (λ (v : List (ℕ × ℕ)). before_zero x ∷ v) rest)

-- the pattern of a grouping with one exit is all zeros, and as long as the others
pub constant_pattern : (t : Levels) → IsGood t → (l g h : ℕ) → g < count t l → h < count t l → exits t l g ≡ 1 → Under 1 (pattern t l g) × (length (pattern t l g) ≡ length (pattern t l h))
constant_pattern t good l g h hg hh one =
    let o = level_holds t good l in
    (Under-width 0 1 (pattern t l g) (omega (arith, o.reaches g hg, one)), o.points g hg ∙ sym (o.points h hh))

own : (t : Levels) → IsGood t → (l g : ℕ) → g < count t l → IsCanon (pattern t l g) (pattern t l g) (range_with_len 0 (exits t l g))
own t good l g hg = let o = level_holds t good l in own_canon (exits t l g) (pattern t l g) (o.grows g hg) (o.reaches g hg)

first_constant : (t : Levels) → IsGood t → (l g h : ℕ) → g < count t l → h < count t l → exits t l g ≡ 1 → IsCanon (zip (pattern t l g) (pattern t l h)) (pattern t l h) (map after_zero (range_with_len 0 (exits t l h)))
first_constant t good l g h hg hh one =
    let c = constant_pattern t good l g h hg hh one in
    subst (λ (v : List (ℕ × ℕ)). IsCanon v (pattern t l h) (map after_zero (range_with_len 0 (exits t l h)))) (sym (zip_zeros_first (pattern t l g) (pattern t l h) c.0 c.1))
    (canon-map after_zero (λ x y e. ap (λ (p : ℕ × ℕ). p.1) e) (pattern t l h) (pattern t l h) (range_with_len 0 (exits t l h)) (own t good l h hh))

second_constant : (t : Levels) → IsGood t → (l g h : ℕ) → g < count t l → h < count t l → exits t l h ≡ 1 → IsCanon (zip (pattern t l g) (pattern t l h)) (pattern t l g) (map before_zero (range_with_len 0 (exits t l g)))
second_constant t good l g h hg hh one =
    let c = constant_pattern t good l h g hh hg one in
    subst (λ (v : List (ℕ × ℕ)). IsCanon v (pattern t l g) (map before_zero (range_with_len 0 (exits t l g)))) (sym (zip_zeros_second (pattern t l g) (pattern t l h) c.0 c.1))
    (canon-map before_zero (λ x y e. ap (λ (p : ℕ × ℕ). p.0) e) (pattern t l g) (pattern t l g) (range_with_len 0 (exits t l g)) (own t good l g hg))

-- the other one is the product
pub beside_first : (t : Levels) → IsGood t → (g h : Gid) → h.level ≡ g.level → g.at < count t g.level → h.at < count t h.level → exits t g.level g.at ≡ 1 → (ps : List (ℕ × ℕ)) → ps ≡ map after_zero (range_with_len 0 (exits t h.level h.at))
    → HasCanon t h g.level (zip (pattern t g.level g.at) (pattern t h.level h.at)) ps
beside_first t good g h lev hg hh one ps e =
    let own_g : g.at < count t h.level = subst (λ (m : ℕ). g.at < count t m) (sym lev) hg in
    let one_h : exits t h.level g.at ≡ 1 = subst (λ (m : ℕ). exits t m g.at ≡ 1) (sym lev) one in
    let c : IsCanon (zip (pattern t g.level g.at) (pattern t h.level h.at)) (pattern t h.level h.at) (map after_zero (range_with_len 0 (exits t h.level h.at))) =
    subst (λ (m : ℕ). IsCanon (zip (pattern t m g.at) (pattern t h.level h.at)) (pattern t h.level h.at) (map after_zero (range_with_len 0 (exits t h.level h.at)))) lev (first_constant t good h.level g.at h.at own_g hh one_h) in
    record { level = lev; there = hh; canon = subst (λ (v : List (ℕ × ℕ)). IsCanon (zip (pattern t g.level g.at) (pattern t h.level h.at)) (pattern t h.level h.at) v) (sym e) c }

pub beside_second : (t : Levels) → IsGood t → (g h : Gid) → h.level ≡ g.level → g.at < count t g.level → h.at < count t h.level → exits t h.level h.at ≡ 1 → (ps : List (ℕ × ℕ)) → ps ≡ map before_zero (range_with_len 0 (exits t g.level g.at))
    → HasCanon t g g.level (zip (pattern t g.level g.at) (pattern t h.level h.at)) ps
beside_second t good g h lev hg hh one ps e =
    let own_h : h.at < count t g.level = subst (λ (m : ℕ). h.at < count t m) lev hh in
    let one_g : exits t g.level h.at ≡ 1 = subst (λ (m : ℕ). exits t m h.at ≡ 1) lev one in
    let c : IsCanon (zip (pattern t g.level g.at) (pattern t h.level h.at)) (pattern t g.level g.at) (map before_zero (range_with_len 0 (exits t g.level g.at))) =
    subst (λ (m : ℕ). IsCanon (zip (pattern t g.level g.at) (pattern t m h.at)) (pattern t g.level g.at) (map before_zero (range_with_len 0 (exits t g.level g.at)))) (sym lev) (second_constant t good g.level g.at h.at hg own_h one_g) in
    record { level = refl; there = hg; canon = subst (λ (v : List (ℕ × ℕ)). IsCanon (zip (pattern t g.level g.at) (pattern t h.level h.at)) (pattern t g.level g.at) v) (sym e) c }

zip_twice : (p : List ℕ) → zip p p ≡ map twice p
zip_twice [] = refl
zip_twice (x ∷ p) = ap (λ (v : List (ℕ × ℕ)). twice x ∷ v) (zip_twice p)

-- a grouping is its own product with itself
pub beside_self : (t : Levels) → IsGood t → (g : Gid) → g.at < count t g.level → (ps : List (ℕ × ℕ)) → ps ≡ map twice (range_with_len 0 (exits t g.level g.at)) → HasCanon t g g.level (zip (pattern t g.level g.at) (pattern t g.level g.at)) ps
beside_self t good g hg ps e =
    let p = pattern t g.level g.at in
    record {
      level = refl;
      there = hg;
      canon = subst (λ (v : List (ℕ × ℕ)). IsCanon v p ps) (sym (zip_twice p))
          (subst (λ (v : List (ℕ × ℕ)). IsCanon (map twice p) p v) (sym e) (canon-map twice (λ x y e. ap (λ (q : ℕ × ℕ). q.0) e) p p (range_with_len 0 (exits t g.level g.at)) (own t good g.level g.at hg)));
    }

-- a pair of zeros put in is told by the pair
pub zero_put_tells : (place : Place) (x y : ℕ × ℕ) → zero_put place x ≡ zero_put place y → x ≡ y
zero_put_tells First x y e = ap (λ (t : ℕ × ℕ × ℕ). (t.1, t.2)) e
zero_put_tells Second x y e = ap (λ (t : ℕ × ℕ × ℕ). (t.0, t.2)) e
zero_put_tells Third x y e = ap (λ (t : ℕ × ℕ × ℕ). (t.0, t.1)) e

zip3_first : (zs p q : List ℕ) → Under 1 zs → length zs ≡ length p → length p ≡ length q → zip3 zs p q ≡ map (zero_put First) (zip p q)
zip3_first [] [] [] u a b = refl
zip3_first [] (x ∷ p) q u a b = absurd (omega (arith, a))
zip3_first [] [] (y ∷ q) u a b = absurd (omega (arith, b))
zip3_first (z ∷ zs) [] q u a b = absurd (omega (arith, a))
zip3_first (z ∷ zs) (x ∷ p) [] u a b = absurd (omega (arith, b))
zip3_first (z ∷ zs) (x ∷ p) (y ∷ q) u a b =
    let is : z ≡ 0 = omega (arith, u.0) in
    let rest : zip3 zs p q ≡ map (zero_put First) (zip p q) = zip3_first zs p q u.1 (let h : length zs ≡ length p = omega (arith, a) in h) (let h : length p ≡ length q = omega (arith, b) in h) in
    subst (λ (w : ℕ). (w, x, y) ∷ zip3 zs p q ≡ (0, x, y) ∷ map (zero_put First) (zip p q)) (sym is) (ap (λ (v : List (ℕ × ℕ × ℕ)). (0, x, y) ∷ v) rest)

zip3_second : (p zs q : List ℕ) → Under 1 zs → length zs ≡ length p → length p ≡ length q → zip3 p zs q ≡ map (zero_put Second) (zip p q)
zip3_second [] [] [] u a b = refl
zip3_second (x ∷ p) [] q u a b = absurd (omega (arith, a))
zip3_second [] [] (y ∷ q) u a b = absurd (omega (arith, b))
zip3_second [] (z ∷ zs) q u a b = absurd (omega (arith, a))
zip3_second (x ∷ p) (z ∷ zs) [] u a b = absurd (omega (arith, b))
zip3_second (x ∷ p) (z ∷ zs) (y ∷ q) u a b =
    let is : z ≡ 0 = omega (arith, u.0) in
    let rest : zip3 p zs q ≡ map (zero_put Second) (zip p q) = zip3_second p zs q u.1 (let h : length zs ≡ length p = omega (arith, a) in h) (let h : length p ≡ length q = omega (arith, b) in h) in
    subst (λ (w : ℕ). (x, w, y) ∷ zip3 p zs q ≡ (x, 0, y) ∷ map (zero_put Second) (zip p q)) (sym is) (ap (λ (v : List (ℕ × ℕ × ℕ)). (x, 0, y) ∷ v) rest)

zip3_third : (p q zs : List ℕ) → Under 1 zs → length zs ≡ length p → length p ≡ length q → zip3 p q zs ≡ map (zero_put Third) (zip p q)
zip3_third [] [] [] u a b = refl
zip3_third (x ∷ p) q [] u a b = absurd (omega (arith, a))
zip3_third [] (y ∷ q) [] u a b = absurd (omega (arith, b))
zip3_third [] q (z ∷ zs) u a b = absurd (omega (arith, a))
zip3_third (x ∷ p) [] (z ∷ zs) u a b = absurd (omega (arith, b))
zip3_third (x ∷ p) (y ∷ q) (z ∷ zs) u a b =
    let is : z ≡ 0 = omega (arith, u.0) in
    let rest : zip3 p q zs ≡ map (zero_put Third) (zip p q) = zip3_third p q zs u.1 (let h : length zs ≡ length p = omega (arith, a) in h) (let h : length p ≡ length q = omega (arith, b) in h) in
    subst (λ (w : ℕ). (x, y, w) ∷ zip3 p q zs ≡ (x, y, 0) ∷ map (zero_put Third) (zip p q)) (sym is) (ap (λ (v : List (ℕ × ℕ × ℕ)). (x, y, 0) ∷ v) rest)

-- What three groupings of one level know.
pub record AtLevel (t : Levels) (f g h : Gid) : Type 0 where
  pub good : IsGood t
  pub second_level : g.level ≡ f.level
  pub third_level : h.level ≡ f.level
  pub first : f.at < count t f.level
  pub second : g.at < count t g.level
  pub third : h.at < count t h.level

long_as : (t : Levels) → IsGood t → (g h : Gid) → h.level ≡ g.level → g.at < count t g.level → h.at < count t h.level → length (pattern t g.level g.at) ≡ length (pattern t h.level h.at)
long_as t good g h e hg hh = (level_holds t good g.level).points g.at hg ∙ ap points (sym e) ∙ sym ((level_holds t good h.level).points h.at hh)

zeros : (t : Levels) → IsGood t → (g : Gid) → g.at < count t g.level → exits t g.level g.at ≡ 1 → Under 1 (pattern t g.level g.at)
zeros t good g hg one = Under-width 0 1 (pattern t g.level g.at) (omega (arith, (level_holds t good g.level).reaches g.at hg, one))

pub first_is_constant : (t : Levels) (f g h : Gid) → AtLevel t f g h → exits t f.level f.at ≡ 1 → zip3 (pattern t f.level f.at) (pattern t g.level g.at) (pattern t h.level h.at) ≡ map (zero_put First) (zip (pattern t g.level g.at) (pattern t h.level h.at))
first_is_constant t f g h a one = zip3_first (pattern t f.level f.at) (pattern t g.level g.at) (pattern t h.level h.at) (zeros t a.good f a.first one) (long_as t a.good f g a.second_level a.first a.second) (long_as t a.good g h (a.third_level ∙ sym a.second_level) a.second a.third)

pub second_is_constant : (t : Levels) (f g h : Gid) → AtLevel t f g h → exits t g.level g.at ≡ 1 → zip3 (pattern t f.level f.at) (pattern t g.level g.at) (pattern t h.level h.at) ≡ map (zero_put Second) (zip (pattern t f.level f.at) (pattern t h.level h.at))
second_is_constant t f g h a one = zip3_second (pattern t f.level f.at) (pattern t g.level g.at) (pattern t h.level h.at) (zeros t a.good g a.second one) (sym (long_as t a.good f g a.second_level a.first a.second)) (long_as t a.good f h a.third_level a.first a.third)

pub third_is_constant : (t : Levels) (f g h : Gid) → AtLevel t f g h → exits t h.level h.at ≡ 1 → zip3 (pattern t f.level f.at) (pattern t g.level g.at) (pattern t h.level h.at) ≡ map (zero_put Third) (zip (pattern t f.level f.at) (pattern t g.level g.at))
third_is_constant t f g h a one = zip3_third (pattern t f.level f.at) (pattern t g.level g.at) (pattern t h.level h.at) (zeros t a.good h a.third one) (sym (long_as t a.good f h a.third_level a.first a.third)) (long_as t a.good f g a.second_level a.first a.second)

-- pairs with a zero put in are a canon where the pairs are
pub put_canon : (place : Place) (u : Levels) (r : Gid) (l : ℕ) (all ps : List (ℕ × ℕ)) (ts : List (ℕ × ℕ × ℕ)) → HasCanon u r l all ps → ts ≡ map (zero_put place) ps → HasCanon u r l (map (zero_put place) all) ts
put_canon place u r l all ps ts h e = record {
  level = h.level;
  there = h.there;
  canon = subst (λ (v : List (ℕ × ℕ × ℕ)). IsCanon (map (zero_put place) all) (pattern u r.level r.at) v) (sym e) (canon-map (zero_put place) (zero_put_tells place) all (pattern u r.level r.at) ps h.canon);
}

abbrev put_at : Levels → Gid → ℕ → Place → List (ℕ × ℕ) → List (ℕ × ℕ × ℕ) → Type 0
put_at u r l place all ds = HasCanon u r l (map (zero_put place) all) ds

pub tripled_first : (t u : Levels) (place : Place) (f g h r : Gid) (ds : List (ℕ × ℕ × ℕ)) → AtLevel t f g h → place ≡ First → exits t (at_place place f g h).level (at_place place f g h).at ≡ 1
    → HasCanon u r g.level (map (zero_put place) (zip (pattern t g.level g.at) (pattern t h.level h.at))) ds → HasCanon u r f.level (zip3 (pattern t f.level f.at) (pattern t g.level g.at) (pattern t h.level h.at)) ds
tripled_first t u place f g h r ds a is one p =
    let all = zip (pattern t g.level g.at) (pattern t h.level h.at) in
    let one_f : exits t f.level f.at ≡ 1 = subst (λ (x : Place). exits t (at_place x f g h).level (at_place x f g h).at ≡ 1) is one in
    let q : put_at u r f.level First all ds = subst (λ (m : ℕ). put_at u r m First all ds) a.second_level (subst (λ (x : Place). put_at u r g.level x all ds) is p) in
    subst (λ (v : List (ℕ × ℕ × ℕ)). HasCanon u r f.level v ds) (sym (first_is_constant t f g h a one_f)) q

pub tripled_second : (t u : Levels) (place : Place) (f g h r : Gid) (ds : List (ℕ × ℕ × ℕ)) → AtLevel t f g h → place ≡ Second → exits t (at_place place f g h).level (at_place place f g h).at ≡ 1
    → HasCanon u r f.level (map (zero_put place) (zip (pattern t f.level f.at) (pattern t h.level h.at))) ds → HasCanon u r f.level (zip3 (pattern t f.level f.at) (pattern t g.level g.at) (pattern t h.level h.at)) ds
tripled_second t u place f g h r ds a is one p =
    let all = zip (pattern t f.level f.at) (pattern t h.level h.at) in
    let one_g : exits t g.level g.at ≡ 1 = subst (λ (x : Place). exits t (at_place x f g h).level (at_place x f g h).at ≡ 1) is one in
    let q : put_at u r f.level Second all ds = subst (λ (x : Place). put_at u r f.level x all ds) is p in
    subst (λ (v : List (ℕ × ℕ × ℕ)). HasCanon u r f.level v ds) (sym (second_is_constant t f g h a one_g)) q

pub tripled_third : (t u : Levels) (place : Place) (f g h r : Gid) (ds : List (ℕ × ℕ × ℕ)) → AtLevel t f g h → place ≡ Third → exits t (at_place place f g h).level (at_place place f g h).at ≡ 1
    → HasCanon u r f.level (map (zero_put place) (zip (pattern t f.level f.at) (pattern t g.level g.at))) ds → HasCanon u r f.level (zip3 (pattern t f.level f.at) (pattern t g.level g.at) (pattern t h.level h.at)) ds
tripled_third t u place f g h r ds a is one p =
    let all = zip (pattern t f.level f.at) (pattern t g.level g.at) in
    let one_h : exits t h.level h.at ≡ 1 = subst (λ (x : Place). exits t (at_place x f g h).level (at_place x f g h).at ≡ 1) is one in
    let q : put_at u r f.level Third all ds = subst (λ (x : Place). put_at u r f.level x all ds) is p in
    subst (λ (v : List (ℕ × ℕ × ℕ)). HasCanon u r f.level v ds) (sym (third_is_constant t f g h a one_h)) q
