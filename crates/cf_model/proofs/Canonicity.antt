use Rattle.std.proofs.Common.{◌≡◌, ℕ, zero, suc, ◌<◌, ◌*◌, List, [], ◌∷◌, ◌++◌, map, refl, sym, ◌∙◌, ap, subst, length, arith, length-append}
use Rattle.std.specs.List.{flat_map}
use Rattle.std.proofs.lemmas.List.{ext_get_or, length-map}
use Rattle.std.proofs.lemmas.List.Concat.{flat_map_single}
use Rattle.cf_model.specs.Renumbering.{width, Grows, IsApart}
use Rattle.cf_model.specs.FlatFunctions.{points}
use Rattle.cf_model.specs.Diagrams.{Levels, Connection, Node, no_connection, exit_at, connection_at, count, node, row, spell, pattern, all_returns, exits, IsGoodConnection, IsGoodNode, IsGood}
use Rattle.cf_model.proofs.Growth.{carried, unique, Under, Under-width}

-- the equations of `pattern`, which stays closed
pub pattern-dont_care : (t : Levels) → pattern t 0 0 ≡ 0 ∷ 0 ∷ []
unfolding pattern
pattern-dont_care t = refl

pub pattern-fork : (t : Levels) (i : ℕ) → pattern t 0 (suc i) ≡ 0 ∷ 1 ∷ []
unfolding pattern
pattern-fork t i = refl

pub pattern-above : (t : Levels) (l i : ℕ) → pattern t (suc l) i ≡ spell (pattern t l) (node t (suc l) i)
unfolding pattern
pattern-above t l i = refl

-- what the level below owes: `c` groupings with the patterns `p`, of `e` exits and `n` points each
pub record GoodLevel (c n : ℕ) (e : ℕ → ℕ) (p : ℕ → List ℕ) : Type 0 where
  pub grows : (i : ℕ) → i < c → Grows 0 (p i)
  pub reaches : (i : ℕ) → i < c → width 0 (p i) ≡ e i
  pub points : (i : ℕ) → i < c → length (p i) ≡ n
  pub apart : IsApart p c

map_same : (xs : List ℕ) → map (λ (x : ℕ). x) xs ≡ xs
map_same [] = refl
map_same (x ∷ xs) = ap (λ (ys : List ℕ). x ∷ ys) (map_same xs)

abbrev made_conn : ℕ → List ℕ → Connection
made_conn t r = record { callee = t; returns = r }

pub conn_same : (a b : Connection) → a.callee ≡ b.callee → a.returns ≡ b.returns → a ≡ b
conn_same a b h k = ap (λ (t : ℕ). made_conn t a.returns) h ∙ ap (λ (r : List ℕ). made_conn b.callee r) k

abbrev made_node : ℕ → List Connection → Node
made_node t r = record { a_callee = t; connections = r }

pub node_same : (a b : Node) → a.a_callee ≡ b.a_callee → a.connections ≡ b.connections → a ≡ b
node_same a b h k = ap (λ (t : ℕ). made_node t a.connections) h ∙ ap (λ (r : List Connection). made_node b.a_callee r) k

-- the row of a good connection gives out its return list
pub row_grows : (c n : ℕ) (e : ℕ → ℕ) (p : ℕ → List ℕ) → GoodLevel c n e p → (b : Connection) → IsGoodConnection c e b → (m : ℕ) → Grows m b.returns → Grows m (row p b) × (width m (row p b) ≡ width m b.returns)
row_grows c n e p u b g m h =
    let one : ℕ → List ℕ = λ x. x ∷ [] in
    let same : flat_map one b.returns ≡ b.returns = flat_map_single (λ (x : ℕ). x) b.returns ∙ map_same b.returns in
    let r = carried one 0 b.returns (λ i. exit_at b i ∷ []) m (p b.callee) (subst (λ (xs : List ℕ). Grows m xs) (sym same) h) (λ s k l q. (q, refl)) (u.grows b.callee g.callee_exists) (u.reaches b.callee g.callee_exists ∙ sym g.entries) in
    let shown = flat_map_single (exit_at b) (p b.callee) in
    (subst (λ (xs : List ℕ). Grows m xs) shown r.0, ap (λ (xs : List ℕ). width m xs) (sym shown) ∙ r.1 ∙ ap (λ (xs : List ℕ). width m xs) same)

pub spell_grows : (c n : ℕ) (e : ℕ → ℕ) (p : ℕ → List ℕ) → GoodLevel c n e p → (d : Node) → IsGoodNode c e d → Grows 0 (spell p d) × (width 0 (spell p d) ≡ width 0 (all_returns d.connections))
spell_grows c n e p u d g =
    carried (λ b. b.returns) no_connection d.connections (λ j. row p (connection_at d.connections j)) 0 (p d.a_callee) g.first_reach (λ s k l h. row_grows c n e p u (connection_at d.connections s) (g.good_connections s l) k h) (u.grows d.a_callee g.callee_exists) (u.reaches d.a_callee g.callee_exists ∙ sym g.middles)

-- a good connection is told by its row
pub row_tells : (c n : ℕ) (e : ℕ → ℕ) (p : ℕ → List ℕ) → GoodLevel c n e p → (a b : Connection) → IsGoodConnection c e a → IsGoodConnection c e b → row p a ≡ row p b → a ≡ b
row_tells c n e p u a b ga gb h =
    let r = unique (exit_at a) (exit_at b) (length a.returns) (length b.returns) ga.once gb.once (p a.callee) (p b.callee) 0 (λ i l. absurd (omega (arith, l))) (u.grows a.callee ga.callee_exists) (u.grows b.callee gb.callee_exists) (omega (arith, u.reaches a.callee ga.callee_exists, ga.entries)) (omega (arith, u.reaches b.callee gb.callee_exists, gb.entries)) h in
    let to : a.callee ≡ b.callee = u.apart a.callee b.callee ga.callee_exists gb.callee_exists r.0 in
    let len : length a.returns ≡ length b.returns = ga.entries ∙ ap e to ∙ sym gb.entries in
    conn_same a b to (ext_get_or 0 a.returns b.returns len (λ i l. r.1 i (omega (arith, l, u.reaches a.callee ga.callee_exists, ga.entries))))

pub row_points : (c n : ℕ) (e : ℕ → ℕ) (p : ℕ → List ℕ) → GoodLevel c n e p → (b : Connection) → IsGoodConnection c e b → length (row p b) ≡ n
row_points c n e p u b g = length-map (p b.callee) (exit_at b) ∙ u.points b.callee g.callee_exists

-- equal lists cut at one place
cut : {A : Type 0} (xs ys us vs : List A) → length xs ≡ length us → xs ++ ys ≡ us ++ vs → (xs ≡ us) × (ys ≡ vs)
cut [] ys [] vs h e = (refl, e)
cut [] ys (u ∷ us) vs h e = absurd (omega (arith, h))
cut (x ∷ xs) ys [] vs h e = absurd (omega (arith, h))
cut (x ∷ xs) ys (u ∷ us) vs h e =
    let top : x ≡ u = cc in
    let below : xs ++ ys ≡ us ++ vs = cc in
    let l : length xs ≡ length us = omega (arith, h) in
    let r = cut xs ys us vs l below in
    let r0 : xs ≡ us = r.0 in
    ((let k : x ∷ xs ≡ u ∷ us = cc in k), r.1)

-- rows of one length are read off the list of all of them
pub same_rows : {A : Type 0} (f g : ℕ → List A) (n k m : ℕ) (p q : List ℕ) → ((i : ℕ) → i < k → length (f i) ≡ n) → ((i : ℕ) → i < m → length (g i) ≡ n) → Under k p → Under m q → length p ≡ length q → flat_map f p ≡ flat_map g q → map f p ≡ map g q
same_rows f g n k m [] [] lf lg up uq l e = refl
same_rows f g n k m [] (y ∷ q) lf lg up uq l e = absurd (omega (arith, l))
same_rows f g n k m (x ∷ p) [] lf lg up uq l e = absurd (omega (arith, l))
same_rows f g n k m (x ∷ p) (y ∷ q) lf lg up uq l e =
    let c = cut (f x) (flat_map f p) (g y) (flat_map g q) (lf x up.0 ∙ sym (lg y uq.0)) e in
    let r = same_rows f g n k m p q lf lg up.1 uq.1 (let ll : length p ≡ length q = omega (arith, l) in ll) c.1 in
    let top : f x ≡ g y = c.0 in
    cc

pub points_of_rows : {A : Type 0} (f : ℕ → List A) (n k : ℕ) (p : List ℕ) → ((i : ℕ) → i < k → length (f i) ≡ n) → Under k p → length (flat_map f p) ≡ length p * n
points_of_rows f n k [] lf u = omega arith
points_of_rows f n k (x ∷ p) lf u = length-append (f x) (flat_map f p) ∙ omega (arith, lf x u.0, points_of_rows f n k p lf u.1)

pub spell_points : (c n : ℕ) (e : ℕ → ℕ) (p : ℕ → List ℕ) → GoodLevel c n e p → (d : Node) → IsGoodNode c e d → length (spell p d) ≡ n * n
spell_points c n e p u d g =
    points_of_rows (λ j. row p (connection_at d.connections j)) n (length d.connections) (p d.a_callee) (λ i l. row_points c n e p u (connection_at d.connections i) (g.good_connections i l)) (Under-width 0 (length d.connections) (p d.a_callee) (omega (arith, u.reaches d.a_callee g.callee_exists, g.middles))) ∙ ap (λ (k : ℕ). k * n) (u.points d.a_callee g.callee_exists)

-- a good node is told by what it spells
pub spell_tells : (c n : ℕ) (e : ℕ → ℕ) (p : ℕ → List ℕ) → GoodLevel c n e p → (a b : Node) → IsGoodNode c e a → IsGoodNode c e b → spell p a ≡ spell p b → a ≡ b
spell_tells c n e p u a b ga gb h =
    let f : ℕ → List ℕ = λ j. row p (connection_at a.connections j) in
    let g : ℕ → List ℕ = λ j. row p (connection_at b.connections j) in
    let full_a : width 0 (p a.a_callee) ≡ length a.connections = u.reaches a.a_callee ga.callee_exists ∙ sym ga.middles in
    let full_b : width 0 (p b.a_callee) ≡ length b.connections = u.reaches b.a_callee gb.callee_exists ∙ sym gb.middles in
    let rows : map f (p a.a_callee) ≡ map g (p b.a_callee) = same_rows f g n (length a.connections) (length b.connections) (p a.a_callee) (p b.a_callee)
    (λ i l. row_points c n e p u (connection_at a.connections i) (ga.good_connections i l)) (λ i l. row_points c n e p u (connection_at b.connections i) (gb.good_connections i l))
    (Under-width 0 (length a.connections) (p a.a_callee) (omega (arith, full_a))) (Under-width 0 (length b.connections) (p b.a_callee) (omega (arith, full_b)))
    (u.points a.a_callee ga.callee_exists ∙ sym (u.points b.a_callee gb.callee_exists)) h in
    let r = unique f g (length a.connections) (length b.connections)
    (λ i j li lj q. ga.differ i j li lj (row_tells c n e p u (connection_at a.connections i) (connection_at a.connections j) (ga.good_connections i li) (ga.good_connections j lj) q))
    (λ i j li lj q. gb.differ i j li lj (row_tells c n e p u (connection_at b.connections i) (connection_at b.connections j) (gb.good_connections i li) (gb.good_connections j lj) q))
    (p a.a_callee) (p b.a_callee) 0 (λ i l. absurd (omega (arith, l))) (u.grows a.a_callee ga.callee_exists) (u.grows b.a_callee gb.callee_exists) (omega (arith, full_a)) (omega (arith, full_b)) rows in
    let callee : a.a_callee ≡ b.a_callee = u.apart a.a_callee b.a_callee ga.callee_exists gb.callee_exists r.0 in
    let len : length a.connections ≡ length b.connections = ga.middles ∙ ap e callee ∙ sym gb.middles in
    node_same a b callee (ext_get_or no_connection a.connections b.connections len (λ i l. row_tells c n e p u (connection_at a.connections i) (connection_at b.connections i) (ga.good_connections i l) (gb.good_connections i (omega (arith, l, len))) (r.1 i (omega (arith, l, full_a)))))

base_grows : (t : Levels) (i : ℕ) → Grows 0 (pattern t 0 i)
unfolding pattern
base_grows t zero = (omega arith, (omega arith, tt))
base_grows t (suc i) = (omega arith, (omega arith, tt))

base_reaches : (t : Levels) (i : ℕ) → width 0 (pattern t 0 i) ≡ exits t 0 i
unfolding pattern
base_reaches t zero = refl
base_reaches t (suc i) = refl

base_points : (t : Levels) (i : ℕ) → length (pattern t 0 i) ≡ 2
unfolding pattern
base_points t zero = refl
base_points t (suc i) = refl

base_apart : (t : Levels) (i j : ℕ) → i < 2 → j < 2 → pattern t 0 i ≡ pattern t 0 j → i ≡ j
unfolding pattern
base_apart t zero zero hi hj e = refl
base_apart t zero (suc j) hi hj e = cc
base_apart t (suc i) zero hi hj e = cc
base_apart t (suc i) (suc j) hi hj e = omega (arith, hi, hj)

-- each level of a good table
pub level_holds : (t : Levels) → IsGood t → (l : ℕ) → GoodLevel (count t l) (points l) (exits t l) (pattern t l)
unfolding pattern
level_holds t g zero = record {
  grows = λ i l. base_grows t i;
  reaches = λ i l. base_reaches t i;
  points = λ i l. base_points t i;
  apart = λ i j li lj e. base_apart t i j (omega (arith, li, g.base)) (omega (arith, lj, g.base)) e;
}
level_holds t g (suc l) =
    let u = level_holds t g l in
    let good : (i : ℕ) → i < count t (suc l) → IsGoodNode (count t l) (exits t l) (node t (suc l) i) = g.good_nodes l in
    record {
      grows = λ i h. (spell_grows (count t l) (points l) (exits t l) (pattern t l) u (node t (suc l) i) (good i h)).0;
      reaches = λ i h. (spell_grows (count t l) (points l) (exits t l) (pattern t l) u (node t (suc l) i) (good i h)).1;
      points = λ i h. spell_points (count t l) (points l) (exits t l) (pattern t l) u (node t (suc l) i) (good i h);
      apart = λ i j hi hj e. g.nodes_differ l i j hi hj (spell_tells (count t l) (points l) (exits t l) (pattern t l) u (node t (suc l) i) (node t (suc l) j) (good i hi) (good j hj) e);
    }

-- two groupings of one level with equal patterns are one
pub canonical : (t : Levels) → IsGood t → (l i j : ℕ) → i < count t l → j < count t l → pattern t l i ≡ pattern t l j → i ≡ j
canonical t g l i j hi hj e = (level_holds t g l).apart i j hi hj e

-- a pattern has an entry for each assignment
pub pattern_full : (t : Levels) → IsGood t → (l i : ℕ) → i < count t l → length (pattern t l i) ≡ points l
pattern_full t g l i h = (level_holds t g l).points i h
