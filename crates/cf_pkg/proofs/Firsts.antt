use Rattle.std.proofs.Common.{◌≡◌, ℕ, zero, suc, ◌<◌, ◌≤◌, ◌+◌, ◌-◌, ◌*◌, ◌/◌, ◌%◌, ◌^◌, max, List, [], ◌∷◌, length, get_or, Some, refl, sym, ◌∙◌, ap, subst, arith, inl, inr, add-one}
use Rattle.std.specs.List.{slice_get}
use Rattle.std.proofs.lemmas.Bool.{cases_lt}
use Rattle.std.proofs.lemmas.Nat.{pow_pos, div-add-mod', mul-le}
use Rattle.std.proofs.lemmas.Option.{slice_get-get_or, slice_get_within, get_or_from_slice_get}
use Rattle.std.proofs.Math.Nat.{mod-lt, div-lt_iff_lt-mul, mul-le-mul_left, mul-le-mul_right}
use Rattle.cf_model.specs.Assignments.{number_of, bits_of}
use Rattle.cf_model.proofs.AssignmentLaws.{number_of-bits_of, length-bits_of}
use Rattle.cf_model.specs.Renumbering.{Grows}
use Rattle.cf_model.specs.FlatFunctions.{points, IsLeast}
use Rattle.cf_model.specs.Diagrams.{Levels, Connection, connection_at, exit_at, count, node, pattern, exits, IsGood, IsGoodNode}
use Rattle.cf_model.proofs.FlatFunctionLaws.{points-is}
use Rattle.cf_model.proofs.Canonicity.{level_holds, pattern_full}
use Rattle.cf_model.proofs.Entries.{entry_by_halves, entry_below}
use Rattle.cf_table.specs.Groupings.{Groupings, IsFirstOf, Owns, node_of, pattern_of, connection_of}
use Rattle.cf_table.specs.declared.Gid.{Gid}
use Rattle.cf_table.specs.declared.BConn.{BConn}
use Rattle.cf_pkg.specs.Firsts.{IsFirstAt}

smaller : (w x j : ℕ) → x ≤ w → w ≤ j → (x ≡ j → ⊥) → x < j
smaller w x j h k other = elim (cases_lt x j) [
  | inl l ↦ l
  | inr r ↦ (let e : x ≡ j = omega (arith, r, h, k) in absurd (other e))
]

-- before a number is first reached, there are only smaller ones
pub before_first : (w : ℕ) (p : List ℕ) (n j : ℕ) → Grows w p → w ≤ j → n < length p → ((m : ℕ) → m < n → get_or p m 0 ≡ j → ⊥) → (m : ℕ) → m < n → get_or p m 0 < j
before_first w [] n j g h ln none m lm = absurd (omega (arith, ln))
before_first w (x ∷ p) zero j g h ln none m lm = absurd (omega (arith, lm))
before_first w (x ∷ p) (suc n) j g h ln none zero lm = smaller w x j g.0 h (none 0 (omega arith))
before_first w (x ∷ p) (suc n) j g h ln none (suc m) lm =
    let low : x < j = smaller w x j g.0 h (none 0 (omega arith)) in
    before_first (max w (suc x)) p n j g.1 (omega (arith, h, low)) (omega (arith, ln)) (λ k lk e. none (suc k) (omega (arith, lk)) e) m (omega (arith, lm))

in_square : (p u v : ℕ) → u < p → v < p → p * u + v < p * p
in_square p u v hu hv = let m : p * (u + 1) ≤ p * p = mul-le-mul_left p (omega (arith, hu)) in omega (arith, m, hv)

first_zero : (t : Levels) (i e : ℕ) → i < 2 → e < exits t 0 i → IsFirstAt (pattern t 0 i) e e
unfolding pattern
first_zero t zero zero li h = record { within = omega arith; there = refl; none_before = λ m l e. omega (arith, l) }
first_zero t zero (suc e) li h = absurd (omega (arith, h))
first_zero t (suc i) zero li h = record { within = omega arith; there = refl; none_before = λ m l e. omega (arith, l) }
first_zero t (suc i) (suc zero) li h = record { within = omega arith; there = refl; none_before = λ m l e. one m l e }
  where
    one : (m : ℕ) → m < 1 → ◌≡◌ {A = ℕ} (get_or (0 ∷ 1 ∷ []) m 0) 1 → ⊥
    one zero l e = cc
    one (suc m) l e = omega (arith, l)
first_zero t (suc i) (suc (suc e)) li h = absurd (omega (arith, h))

-- the first places at level 0
pub first_base : (t : Levels) → IsGood t → (l i e : ℕ) → l ≡ 0 → i < count t l → e < exits t l i → IsFirstAt (pattern t l i) e e
first_base t good l i e z own h =
    subst (λ (m : ℕ). IsFirstAt (pattern t m i) e e) (sym z)
    (first_zero t i e (omega (arith, subst (λ (m : ℕ). i < count t m) z own, good.base)) (subst (λ (m : ℕ). e < exits t m i) z h))

points_pos : (l : ℕ) → 0 < points l
points_pos l = subst (λ (m : ℕ). 0 < m) (sym (points-is l)) (pow_pos (2 ^ l))

same_quotient : (p u v x y : ℕ) → x * p + y < u * p + v → u ≤ x → v < p → y < p → (x ≡ u) × (y < v)
same_quotient p u v x y h le hv hy = elim (cases_lt u x) [
  | inl l ↦ (let m : (u + 1) * p ≤ x * p = mul-le-mul_right p (omega (arith, l)) in absurd (omega (arith, m, h, hv)))
  | inr r ↦ (let e : x ≡ u = omega (arith, r, le) in (e, (let q : x * p ≡ u * p = ap (λ (k : ℕ). k * p) e in omega (arith, q, h))))
]

pub first_suc : (t : Levels) → IsGood t → (l i e j x u v : ℕ) → i < count t (suc l) → IsFirstOf (node t (suc l) i).connections e j x
    → IsFirstAt (pattern t l (node t (suc l) i).a_callee) j u → IsFirstAt (pattern t l (connection_at (node t (suc l) i).connections j).callee) x v
    → IsFirstAt (pattern t (suc l) i) e (points l * u + v)
first_suc t good l i e j x u v own f first second =
    let p = points l in
    let n = node t (suc l) i in
    let b = connection_at n.connections in
    let g : IsGoodNode (count t l) (exits t l) n = good.good_nodes l i own in
    let hu : u < p = omega (arith, first.within, pattern_full t good l n.a_callee g.callee_exists) in
    let gj = g.good_connections j f.middle in
    let hv : v < p = omega (arith, second.within, pattern_full t good l (b j).callee gj.callee_exists) in
    let num : p * u + v ≡ u * p + v = omega arith in
    let middle_of : ℕ → ℕ = λ k. get_or (pattern t l n.a_callee) k 0 in
    let there : get_or (pattern t (suc l) i) (u * p + v) 0 ≡ e
    = entry_by_halves t good l i u v own hu hv ∙ ap (λ (k : ℕ). exit_at (b k) (get_or (pattern t l (b k).callee) v 0)) first.there ∙ ap (λ (k : ℕ). exit_at (b j) k) second.there ∙ get_or_from_slice_get (b j).returns x e 0 f.there in
    record {
      within = omega (arith, in_square p u v hu hv, pattern_full t good (suc l) i own);
      there = ap (λ (k : ℕ). get_or (pattern t (suc l) i) k 0) num ∙ there;
      none_before = λ m lm em.
          (let y = m / p in
          let z = m % p in
          let pos = points_pos l in
          let split : y * p + z ≡ m = div-add-mod' m p in
          let hz : z < p = mod-lt m pos in
          let below : m < points (suc l) = omega (arith, lm, in_square p u v hu hv) in
          let hy : y < p = (div-lt_iff_lt-mul pos).1 below in
          let k = middle_of y in
          let lk : k < length n.connections = omega (arith, entry_below t good l n.a_callee y g.callee_exists hy, g.middles) in
          let gk = g.good_connections k lk in
          let w = get_or (pattern t l (b k).callee) z 0 in
          let lw : w < length (b k).returns = omega (arith, entry_below t good l (b k).callee z gk.callee_exists hz, gk.entries) in
          let out : exit_at (b k) w ≡ e = sym (ap (λ (q : ℕ). get_or (pattern t (suc l) i) q 0) (sym split) ∙ entry_by_halves t good l i y z own hy hz) ∙ em in
          elim (cases_lt y u) [
            | inl early ↦ f.least k (before_first 0 (pattern t l n.a_callee) u j ((level_holds t good l).grows n.a_callee g.callee_exists) (omega arith) first.within first.none_before y early) w
                (slice_get-get_or (b k).returns w 0 lw ∙ ap Some out)
            | inr late ↦ (let s = same_quotient p u v y z (omega (arith, lm, split, num)) late hv hz in
                let kj : k ≡ j = ap middle_of s.0 ∙ first.there in
                let lj : get_or (pattern t l (b j).callee) z 0 < length (b j).returns = subst (λ (q : ℕ). get_or (pattern t l (b q).callee) z 0 < length (b q).returns) kj lw in
                let outj : exit_at (b j) (get_or (pattern t l (b j).callee) z 0) ≡ e = subst (λ (q : ℕ). exit_at (b q) (get_or (pattern t l (b q).callee) z 0) ≡ e) kj out in
                second.none_before z s.1 (gj.once (get_or (pattern t l (b j).callee) z 0) x lj (slice_get_within (b j).returns x e f.there) (outj ∙ sym (get_or_from_slice_get (b j).returns x e 0 f.there))))
          ]);
    }

-- the same of a grouping one level above its callees
pub first_above : (t : Levels) → IsGood t → (k l i e j x u v : ℕ) → l + 1 ≡ k → i < count t k → IsFirstOf (node t k i).connections e j x
    → IsFirstAt (pattern t l (node t k i).a_callee) j u → IsFirstAt (pattern t l (connection_at (node t k i).connections j).callee) x v
    → IsFirstAt (pattern t k i) e (points l * u + v)
first_above t good k l i e j x u v q =
    subst (λ (m : ℕ). i < count t m → IsFirstOf (node t m i).connections e j x
    → IsFirstAt (pattern t l (node t m i).a_callee) j u → IsFirstAt (pattern t l (connection_at (node t m i).connections j).callee) x v
    → IsFirstAt (pattern t m i) e (points l * u + v)) (sym (add-one l) ∙ q) (first_suc t good l i e j x u v)

-- the first place of an exit is the number of its least assignment
pub least_is : (p : List ℕ) (level e n len : ℕ) → IsFirstAt p e n → n < points level → len ≡ 2 ^ level → IsLeast level (λ at. slice_get p (number_of at) ≡ Some e) (bits_of len n)
least_is p level e n len f small long =
    let below : n < 2 ^ len = subst (λ (k : ℕ). n < k) (points-is level ∙ ap (λ (k : ℕ). 2 ^ k) (sym long)) small in
    let number : number_of (bits_of len n) ≡ n = number_of-bits_of len n below in
    record {
      assigns = length-bits_of len n ∙ long;
      has = ap (slice_get p) number ∙ slice_get-get_or p n 0 f.within ∙ ap Some f.there;
      none_below = λ other ho lt h. f.none_before (number_of other) (omega (arith, lt, number)) (get_or_from_slice_get p (number_of other) e 0 h);
    }

half_is : (k l p : ℕ) → l + 1 ≡ k → p ≡ points (k - 1) → p ≡ points l
half_is k l p el ep = ep ∙ (let e : k - 1 ≡ l = omega (arith, el) in ap points e)

squared : (k l p u v m : ℕ) → l + 1 ≡ k → m + 1 ≡ k → p ≡ points (k - 1) → u < points l → v < points m → p * u + v < p * p
squared k l p u v m el em ep hu hv =
    let pl = half_is k l p el ep in
    let lm : points m ≡ points l = (let e : m ≡ l = omega (arith, el, em) in ap points e) in
    in_square p u v (omega (arith, hu, pl)) (omega (arith, hv, pl, lm))

-- the number of an assignment from those of its halves
pub joined : (k l p u v m : ℕ) → l + 1 ≡ k → m + 1 ≡ k → p ≡ points (k - 1) → u < points l → v < points m → p * u + v < points k
joined k l p u v m el em ep hu hv =
    let e : p * p ≡ points k = ap (λ (x : ℕ). x * x) (half_is k l p el ep) ∙ (let q : suc l ≡ k = omega (arith, el) in ap points q) in
    omega (arith, squared k l p u v m el em ep hu hv, e)

-- which a word holds
pub joined_fits : (k l p u v m : ℕ) → l + 1 ≡ k → m + 1 ≡ k → p ≡ points (k - 1) → p ≤ 2 ^ 64 → u < points l → v < points m → p * u + v < 2 ^ 128
joined_fits k l p u v m el em ep h hu hv =
    let most : p * p ≤ 2 ^ 64 * 2 ^ 64 = mul-le p p (2 ^ 64) (2 ^ 64) h h in
    omega (arith, squared k l p u v m el em ep hu hv, most)

-- the first place of an exit, by those of the middle vertex and of the callee's exit
pub found : (t : Groupings) → IsGood t.levels → (g a : Gid) (b : BConn) (e j x u v p : ℕ) → a.level + 1 ≡ g.level → b.«to».level + 1 ≡ g.level → p ≡ points (g.level - 1) → Owns t g
    → IsFirstOf (node_of t g).connections e j x → a.at ≡ (node_of t g).a_callee → connection_of t.tuples b ≡ connection_at (node_of t g).connections j
    → IsFirstAt (pattern_of t a) j u → IsFirstAt (pattern_of t b.«to») x v → IsFirstAt (pattern_of t g) e (p * u + v)
found t good g a b e j x u v p ea eb ep own f callee connection first second =
    let l = a.level in
    let same : b.«to».level ≡ l = omega (arith, ea, eb) in
    subst (λ (h : ℕ). IsFirstAt (pattern_of t g) e (h * u + v)) (sym (half_is g.level l p ea ep))
    (first_above t.levels good g.level l g.at e j x u v ea own f
    (subst (λ (i : ℕ). IsFirstAt (pattern t.levels l i) j u) callee first)
    (subst (λ (c : Connection). IsFirstAt (pattern t.levels l c.callee) x v) connection (subst (λ (m : ℕ). IsFirstAt (pattern t.levels m b.«to».at) x v) same second)))
