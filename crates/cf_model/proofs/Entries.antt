use Rattle.std.proofs.Common.{◌≡◌, ℕ, zero, suc, ◌<◌, ◌+◌, ◌*◌, ◌^◌, ◌-◌, List, [], ◌∷◌, sym, ◌∙◌, ap, subst, length, get_or, arith, ◌/◌, ◌%◌, add-one}
use Rattle.std.specs.List.{flat_map, slice_get}
use Rattle.std.specs.Prelude.{Some}
use Rattle.std.proofs.lemmas.Option.{slice_get_within, get_or_from_slice_get}
use Rattle.std.proofs.lemmas.List.{get_or_append_left, get_or-append_right, get_or-map}
use Rattle.std.proofs.lemmas.Nat.{pow_pos, div-add-mod'}
use Rattle.std.proofs.Math.Nat.{mod-lt, div-lt_iff_lt-mul}
use Rattle.cf_model.specs.Renumbering.{width}
use Rattle.cf_model.specs.FlatFunctions.{points}
use Rattle.cf_model.specs.Diagrams.{Levels, Connection, exit_at, connection_at, count, node, row, pattern, exits, IsGoodNode, IsGood}
use Rattle.cf_model.proofs.FlatFunctionLaws.{points-is}
use Rattle.cf_model.proofs.Growth.{Under, Under-width}
use Rattle.cf_model.proofs.Canonicity.{level_holds, row_points}

-- an entry of rows of one length
pub entry_of_rows : (f : ℕ → List ℕ) (n k : ℕ) (p : List ℕ) (u v : ℕ) → ((i : ℕ) → i < k → length (f i) ≡ n) → Under k p → u < length p → v < n → get_or (flat_map f p) (u * n + v) 0 ≡ get_or (f (get_or p u 0)) v 0
entry_of_rows f n k [] u v lf up hu hv = absurd (omega (arith, hu))
entry_of_rows f n k (x ∷ p) zero v lf up hu hv =
    let e : 0 * n + v ≡ v = omega arith in
    ap (λ (i : ℕ). get_or (flat_map f (x ∷ p)) i 0) e ∙ get_or_append_left (f x) (flat_map f p) 0 v (omega (arith, lf x up.0, hv))
entry_of_rows f n k (x ∷ p) (suc u) v lf up hu hv =
    let e : suc u * n + v - n ≡ u * n + v = omega arith in
    get_or-append_right (f x) (flat_map f p) n (suc u * n + v) 0 (lf x up.0) (omega arith)
    ∙ ap (λ (i : ℕ). get_or (flat_map f p) i 0) e ∙ entry_of_rows f n k p u v lf up.1 (omega (arith, hu)) hv

pub Under-get_or : (k : ℕ) (p : List ℕ) (u : ℕ) → Under k p → u < length p → get_or p u 0 < k
Under-get_or k [] u up h = absurd (omega (arith, h))
Under-get_or k (x ∷ p) zero up h = up.0
Under-get_or k (x ∷ p) (suc u) up h = Under-get_or k p u up.1 (omega (arith, h))

-- each entry of a pattern is an exit
pub entry_below : (t : Levels) → IsGood t → (l i u : ℕ) → i < count t l → u < points l → get_or (pattern t l i) u 0 < exits t l i
entry_below t g l i u hi hu =
    let b = level_holds t g l in
    Under-get_or (exits t l i) (pattern t l i) u (Under-width 0 (exits t l i) (pattern t l i) (omega (arith, b.reaches i hi))) (omega (arith, hu, b.points i hi))

pub entry_is_exit : (t : Levels) → IsGood t → (l i : ℕ) → i < count t l → (n e : ℕ) → slice_get (pattern t l i) n ≡ Some e → e < exits t l i
entry_is_exit t g l i hi n e h =
    let inside : n < points l = omega (arith, slice_get_within (pattern t l i) n e h, (level_holds t g l).points i hi) in
    subst (λ (k : ℕ). k < exits t l i) (get_or_from_slice_get (pattern t l i) n e 0 h) (entry_below t g l i n hi inside)

-- the entry at an assignment, by its halves
pub entry_by_halves : (t : Levels) → IsGood t → (l i u v : ℕ) → i < count t (suc l) → u < points l → v < points l
    → let n = node t (suc l) i in let j = get_or (pattern t l n.a_callee) u 0 in
    get_or (pattern t (suc l) i) (u * points l + v) 0 ≡ exit_at (connection_at n.connections j) (get_or (pattern t l (connection_at n.connections j).callee) v 0)
unfolding pattern
entry_by_halves t g l i u v hi hu hv =
    let n = node t (suc l) i in
    let good : IsGoodNode (count t l) (exits t l) n = g.good_nodes l i hi in
    let b = level_holds t g l in
    let full : width 0 (pattern t l n.a_callee) ≡ length n.connections = b.reaches n.a_callee good.callee_exists ∙ sym good.middles in
    let j = get_or (pattern t l n.a_callee) u 0 in
    let lj : j < length n.connections = omega (arith, entry_below t g l n.a_callee u good.callee_exists hu, good.middles) in
    entry_of_rows (λ j. row (pattern t l) (connection_at n.connections j)) (points l) (length n.connections) (pattern t l n.a_callee) u v (λ k lk. row_points (count t l) (points l) (exits t l) (pattern t l) b (connection_at n.connections k) (good.good_connections k lk))
    (Under-width 0 (length n.connections) (pattern t l n.a_callee) (omega (arith, full))) (omega (arith, hu, b.points n.a_callee good.callee_exists)) hv
    ∙ get_or-map (exit_at (connection_at n.connections j)) (pattern t l (connection_at n.connections j).callee) v 0 0 (omega (arith, hv, b.points (connection_at n.connections j).callee (good.good_connections j lj).callee_exists))

-- the middle vertex to which a grouping's A-connection leads at the first half of assignment number n
abbrev pub middle_at : Levels → ℕ → ℕ → ℕ → ℕ → ℕ
middle_at t k l i n = get_or (pattern t l (node t k i).a_callee) (n / points l) 0

-- its B-connection
abbrev pub connection_read : Levels → ℕ → ℕ → ℕ → ℕ → Connection
connection_read t k l i n = connection_at (node t k i).connections (middle_at t k l i n)

-- What the two halves of assignment number n say of grouping i of level k, one above l.
pub record Halves (t : Levels) (k l i n : ℕ) : Type 0 where
  pub a_callee_exists : (node t k i).a_callee < count t l
  pub left : n / points l < points l
  pub middle : middle_at t k l i n < length (node t k i).connections
  pub b_callee_exists : (connection_read t k l i n).callee < count t l
  pub right : n % points l < points l
  pub place : get_or (pattern t l (connection_read t k l i n).callee) (n % points l) 0 < length (connection_read t k l i n).returns
  pub entry : get_or (pattern t k i) n 0 ≡ exit_at (connection_read t k l i n) (get_or (pattern t l (connection_read t k l i n).callee) (n % points l) 0)

points_pos : (l : ℕ) → 0 < points l
points_pos l = subst (λ (m : ℕ). 0 < m) (sym (points-is l)) (pow_pos (2 ^ l))

halves_suc : (t : Levels) → IsGood t → (l i n : ℕ) → i < count t (suc l) → n < points (suc l) → Halves t (suc l) l i n
halves_suc t g l i n hi hn =
    let pos = points_pos l in
    let d = node t (suc l) i in
    let good : IsGoodNode (count t l) (exits t l) d = g.good_nodes l i hi in
    let u = n / points l in
    let v = n % points l in
    let hu : u < points l = (div-lt_iff_lt-mul pos).1 hn in
    let hv : v < points l = mod-lt n pos in
    let j = get_or (pattern t l d.a_callee) u 0 in
    let lj : j < length d.connections = omega (arith, entry_below t g l d.a_callee u good.callee_exists hu, good.middles) in
    let b = good.good_connections j lj in
    let e : u * points l + v ≡ n = div-add-mod' n (points l) in
    record {
      a_callee_exists = good.callee_exists;
      left = hu;
      middle = lj;
      b_callee_exists = b.callee_exists;
      right = hv;
      place = omega (arith, entry_below t g l (connection_at d.connections j).callee v b.callee_exists hv, b.entries);
      entry = ap (λ (m : ℕ). get_or (pattern t (suc l) i) m 0) (sym e) ∙ entry_by_halves t g l i u v hi hu hv;
    }

pub halves : (t : Levels) → IsGood t → (k l i n : ℕ) → l + 1 ≡ k → i < count t k → n < points k → Halves t k l i n
halves t g k l i n e = subst (λ (m : ℕ). i < count t m → n < points m → Halves t m l i n) (sym (add-one l) ∙ e) (halves_suc t g l i n)
