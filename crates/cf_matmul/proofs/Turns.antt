use Rattle.std.proofs.Common.{◌≡◌, ℕ, zero, suc, ◌<◌, ◌≤◌, ◌+◌, ◌*◌, ◌-◌, ◌^◌, List, [], map, length, get_or, sym, ◌∙◌, ap, subst, arith}
use Rattle.std.specs.Prelude.{All, flat_map}
use Rattle.std.proofs.lemmas.List.{length-map}
use Rattle.std.proofs.lemmas.List.Sums.{get_or-le-sum_by}
use Rattle.std.proofs.lemmas.Nat.{mul-le}
use Rattle.cf_model.specs.Renumbering.{AllDiffer, IsCanon}
use Rattle.cf_model.specs.Assignments.{number_of}
use Rattle.cf_model.specs.PairSums.{PairTerm, PairSum}
use Rattle.cf_model.specs.Diagrams.{Levels, Node, Connection, connection_at, count, node, pattern, exits, IsGoodConnection, IsGood}
use Rattle.cf_model.proofs.FlatFunctionLaws.{number_in}
use Rattle.cf_model.proofs.Entries.{entry_below}
use Rattle.cf_model.proofs.Growing.{pattern_kept, Extends-trans}
use Rattle.cf_tuple.proofs.BookLaws.{kept_at, Lengthens-trans}
use Rattle.cf_table.specs.declared.Gid.{Gid}
use Rattle.cf_table.specs.declared.BConn.{BConn}
use Rattle.cf_table.specs.Groupings.{Groupings, node_of, connection_of, tuple_of}
use Rattle.cf_table.proofs.Told.{good_node}
use Rattle.cf_build.specs.Assembling.{row_of, labels_over, HasCanon}
use Rattle.cf_pair.proofs.Pairs.{callee_kept}
use Rattle.cf_comb.specs.ExitSums.{IsByHalves}
use Rattle.cf_comb.specs.declared.CombId.{CombId}
use Rattle.cf_comb.specs.CombBooks.{OwnsSum, sum_of}
use Rattle.cf_matmul.specs.Symbolic.{exit_in, exit_sums, callee_exit, returns_at, sums_of, row_sums, term_row_sums, connection_sums, carried, HasSums, HasSumRow, HaveSumRows, HasGrown, IsSumIn}
use Rattle.cf_matmul.proofs.HalfLaws.{sums_split, by_halves}
use Rattle.cf_matmul.proofs.SumRows.{StaysBelow, sums_in, term_row, assembled_sums}

-- an exit is below the number of exits
pub stays : (t : Levels) → IsGood t → (m i : ℕ) → i < count t (suc m) → StaysBelow m (exit_in (pattern t (suc m) i)) (exits t (suc m) i)
stays t g m i hi bits lb = entry_below t g (suc m) i (number_of bits) hi (number_in (suc m) bits lb)

-- What `middle_row` knows once the callees' sums are there.
pub record MiddleCall (t u : Groupings) (before now : List PairSum) (g h : Gid) (i j : ℕ) (b c : BConn) (r : Gid × List CombId) : Type 0 where
  pub above : 2 ≤ g.level
  pub levels : h.level ≡ g.level
  pub good : IsGood t.levels
  pub first : g.at < count t.levels g.level
  pub second : h.at < count t.levels h.level
  pub left : i < length (node_of t g).connections
  pub right : j < length (node_of t h).connections
  pub b_level : b.«to».level + 1 ≡ g.level
  pub c_level : c.«to».level + 1 ≡ h.level
  pub b_is : connection_of t.tuples b ≡ connection_at (node_of t g).connections i
  pub c_is : connection_of t.tuples c ≡ connection_at (node_of t h).connections j
  pub b_tuple : b.ret.at < length t.tuples
  pub c_tuple : c.ret.at < length t.tuples
  pub summed : HasSums u.levels now b.«to».level (exit_sums (b.«to».level - 1) (pattern t.levels b.«to».level b.«to».at) (pattern t.levels c.«to».level c.«to».at)) r
  pub grown : HasGrown t u before now

at_level : (t u : Levels) (now : List PairSum) (lb lc m x y : ℕ) (r : Gid × List CombId) → lb ≡ suc m → lc ≡ suc m → HasSums u now lb (exit_sums (lb - 1) (pattern t lb x) (pattern t lc y)) r → HasSums u now (suc m) (exit_sums m (pattern t (suc m) x) (pattern t (suc m) y)) r
at_level t u now lb lc m x y r eb ec h =
    let e : suc m - 1 ≡ m = omega arith in
    subst (λ (k : ℕ). HasSums u now (suc m) (exit_sums k (pattern t (suc m) x) (pattern t (suc m) y)) r) e
    (subst (λ (k : ℕ). HasSums u now k (exit_sums (k - 1) (pattern t k x) (pattern t (suc m) y)) r) eb (subst (λ (k : ℕ). HasSums u now lb (exit_sums (lb - 1) (pattern t lb x) (pattern t k y)) r) ec h))

-- the B-connections are good, and the ids have the callees' sums
pub middle_good : (t u : Groupings) (before now : List PairSum) (g h : Gid) (i j : ℕ) (b c : BConn) (r : Gid × List CombId) → MiddleCall t u before now g h i j b c r
    → let m = g.level - 2 in let x = connection_at (node_of t g).connections i in let y = connection_at (node_of t h).connections j in
    IsGoodConnection (count t.levels (suc m)) (exits t.levels (suc m)) x × IsGoodConnection (count t.levels (suc m)) (exits t.levels (suc m)) y
    × HasSums u.levels now (suc m) (exit_sums m (pattern t.levels (suc m) x.callee) (pattern t.levels (suc m) y.callee)) r
middle_good t u before now g h i j b c r w =
    let m = g.level - 2 in
    let ebelow : suc m + 1 ≡ g.level = omega (arith, w.above) in
    let fbelow : suc m + 1 ≡ h.level = omega (arith, w.above, w.levels) in
    let gx = (good_node t.levels w.good g.level (suc m) g.at ebelow w.first).good_connections i w.left in
    let gy = (good_node t.levels w.good h.level (suc m) h.at fbelow w.second).good_connections j w.right in
    let s = at_level t.levels u.levels now b.«to».level c.«to».level m b.«to».at c.«to».at r (omega (arith, w.b_level, ebelow)) (omega (arith, w.c_level, fbelow)) w.summed in (
      gx,
      gy,
      subst (λ (y : ℕ). HasSums u.levels now (suc m) (exit_sums m (pattern t.levels (suc m) (connection_at (node_of t g).connections i).callee) (pattern t.levels (suc m) y)) r) (ap (λ (d : Connection). d.callee) w.c_is)
          (subst (λ (x : ℕ). HasSums u.levels now (suc m) (exit_sums m (pattern t.levels (suc m) x) (pattern t.levels (suc m) c.«to».at)) r) (ap (λ (d : Connection). d.callee) w.b_is) s),
    )

-- each of them is within the return tuples
pub middle_each : (t u : Groupings) (before now : List PairSum) (g h : Gid) (i j : ℕ) (b c : BConn) (r : Gid × List CombId) → MiddleCall t u before now g h i j b c r
    → All (IsSumIn (length (connection_at (node_of t g).connections i).returns) (length (connection_at (node_of t h).connections j).returns) (2 ^ (2 ^ (g.level - 2)))) (sums_of now r.1)
middle_each t u before now g h i j b c r w =
    let m = g.level - 2 in
    let x = connection_at (node_of t g).connections i in
    let y = connection_at (node_of t h).connections j in
    let k = middle_good t u before now g h i j b c r w in
    sums_in u.levels now (suc m) m (length x.returns) (length y.returns) (exit_in (pattern t.levels (suc m) x.callee)) (exit_in (pattern t.levels (suc m) y.callee)) r
    (subst (λ (n : ℕ). StaysBelow m (exit_in (pattern t.levels (suc m) x.callee)) n) (sym k.0.entries) (stays t.levels w.good m x.callee k.0.callee_exists))
    (subst (λ (n : ℕ). StaysBelow m (exit_in (pattern t.levels (suc m) y.callee)) n) (sym k.1.entries) (stays t.levels w.good m y.callee k.1.callee_exists)) k.2

-- the return tuples, read in the table that has grown
pub middle_tuples : (t u : Groupings) (before now : List PairSum) (g h : Gid) (i j : ℕ) (b c : BConn) (r : Gid × List CombId) → MiddleCall t u before now g h i j b c r
    → (tuple_of u.tuples b.ret ≡ (connection_at (node_of t g).connections i).returns) × (tuple_of u.tuples c.ret ≡ (connection_at (node_of t h).connections j).returns)
middle_tuples t u before now g h i j b c r w =
    (kept_at t.tuples u.tuples w.grown.longer b.ret.at [] w.b_tuple ∙ ap (λ (d : Connection). d.returns) w.b_is, kept_at t.tuples u.tuples w.grown.longer c.ret.at [] w.c_tuple ∙ ap (λ (d : Connection). d.returns) w.c_is)

-- the row
pub middle_made : (t u : Groupings) (before now after : List PairSum) (g h : Gid) (i j n : ℕ) (b c : BConn) («to» : Gid) (ids : List CombId) (labels : List CombId) → MiddleCall t u before now g h i j b c («to», ids)
    → All (OwnsSum after) labels → sums_of after labels ≡ map (carried n (tuple_of u.tuples b.ret) (tuple_of u.tuples c.ret)) (sums_of now ids)
    → HasSumRow u.levels after (suc (g.level - 2)) (term_row_sums t g h ((i, j), n)) (n * 2 ^ (2 ^ (g.level - 2))) («to», labels)
middle_made t u before now after g h i j n b c e ids labels w own is =
    let m = g.level - 2 in
    let x = connection_at (node_of t g).connections i in
    let y = connection_at (node_of t h).connections j in
    let k = middle_good t u before now g h i j b c (e, ids) w in
    let tot = middle_each t u before now g h i j b c (e, ids) w in
    let eq = middle_tuples t u before now g h i j b c (e, ids) w in
    term_row u.levels w.grown.good now after (suc m) m n (exit_in (pattern t.levels (suc m) x.callee)) (exit_in (pattern t.levels (suc m) y.callee)) x.returns y.returns e ids labels k.2 (λ q d lq. (tot q d lq).total_is) own
    (is ∙ ap (λ (v : List ℕ). map (carried n v (tuple_of u.tuples c.ret)) (sums_of now ids)) eq.0 ∙ ap (λ (v : List ℕ). map (carried n x.returns v) (sums_of now ids)) eq.1)

-- totals are small
pub small : (m : ℕ) → m ≤ 5 → 2 ^ (2 ^ m) * 2 ^ (2 ^ m) ≤ 2 ^ 127
small zero h = omega arith
small (suc zero) h = omega arith
small (suc (suc zero)) h = omega arith
small (suc (suc (suc zero))) h = omega arith
small (suc (suc (suc (suc zero)))) h = omega arith
small (suc (suc (suc (suc (suc zero))))) h = omega arith
small (suc (suc (suc (suc (suc (suc m)))))) h = absurd (omega (arith, h))

pub within_square : (a n bound : ℕ) → a ≤ n → n * n ≤ bound → a * n ≤ bound
within_square a n bound h k = omega (arith, mul-le a n n n h (omega arith), k)

pub one_of_many : (a n bound : ℕ) → 1 ≤ a → a * n ≤ bound → n ≤ bound
one_of_many a n bound h k = omega (arith, mul-le 1 n a n h (omega arith), k)

-- a term of a sum of pairs of middle vertices
pub term_facts : (e f n : ℕ) (terms : PairSum) → IsSumIn e f n terms → (i : ℕ) (d : PairTerm) → i < length terms → ((get_or terms i d).0.0 < e) × ((get_or terms i d).0.1 < f) × (1 ≤ (get_or terms i d).1) × ((get_or terms i d).1 ≤ n)
term_facts e f n terms s i d h =
    let w = s.within i d h in
    (w.0, w.1, omega (arith, s.is_sum.positive i d h), omega (arith, get_or-le-sum_by (λ (t : PairTerm). t.1) terms i d h, s.total_is))

-- what a term adds is the same in a table that has grown
pub term_kept : (t s : Groupings) (before now : List PairSum) (g h : Gid) (term : PairTerm) → IsGood t.levels → HasGrown t s before now → 2 ≤ g.level → h.level ≡ g.level → g.at < count t.levels g.level → h.at < count t.levels h.level
    → term.0.0 < length (node_of t g).connections → term.0.1 < length (node_of t h).connections → term_row_sums s g h term ≡ term_row_sums t g h term
term_kept t s before now g h term gt x above levels first second left right =
    let m = g.level - 2 in
    let gx = (good_node t.levels gt g.level (suc m) g.at (omega (arith, above)) first).good_connections term.0.0 left in
    let gy = (good_node t.levels gt h.level (suc m) h.at (omega (arith, above, levels)) second).good_connections term.0.1 right in
    let cx = connection_at (node_of t g).connections term.0.0 in
    let cy = connection_at (node_of t h).connections term.0.1 in
    let made : List ℕ → List ℕ → List PairSum = λ p q. connection_sums m (λ k. p) cx (record { callee = 0; returns = cy.returns }) term.1 in
    ap (λ (d : Node). connection_sums m (pattern s.levels (suc m)) (connection_at d.connections term.0.0) (connection_at (node_of s h).connections term.0.1) term.1) (x.extends.kept g.level g.at first)
    ∙ ap (λ (d : Node). connection_sums m (pattern s.levels (suc m)) cx (connection_at d.connections term.0.1) term.1) (x.extends.kept h.level h.at second)
    ∙ both m (pattern s.levels (suc m)) (pattern t.levels (suc m)) cx cy term.1 (pattern_kept t.levels s.levels gt x.extends (suc m) cx.callee gx.callee_exists) (pattern_kept t.levels s.levels gt x.extends (suc m) cy.callee gy.callee_exists)
  where
    both : (m : ℕ) (p q : ℕ → List ℕ) (cx cy : Connection) (n : ℕ) → p cx.callee ≡ q cx.callee → p cy.callee ≡ q cy.callee → connection_sums m p cx cy n ≡ connection_sums m q cx cy n
    both m p q cx cy n ex ey =
        ap (λ (v : List ℕ). sums_with m v (p cy.callee) cx.returns cy.returns n) ex ∙ ap (λ (v : List ℕ). sums_with m (q cx.callee) v cx.returns cy.returns n) ey
      where
        sums_with : ℕ → List ℕ → List ℕ → List ℕ → List ℕ → ℕ → List PairSum
        sums_with m v w xs ys n = connection_sums m (λ k. if_zero k v w) (record { callee = 0; returns = xs }) (record { callee = 1; returns = ys }) n
          where
            if_zero : ℕ → List ℕ → List ℕ → List ℕ
            if_zero zero v w = v
            if_zero (suc k) v w = w

pub grown_trans : (a b c : Groupings) (x y z : List PairSum) → HasGrown a b x y → HasGrown b c y z → HasGrown a c x z
grown_trans a b c x y z p q = record {
  good = q.good;
  extends = Extends-trans a.levels b.levels c.levels p.extends q.extends;
  longer = Lengthens-trans a.tuples b.tuples c.tuples p.longer q.longer;
  book = Lengthens-trans x y z p.book q.book;
}

-- What `product_sums` knows once the A-callees' sums are there.
pub record OuterCall (t u : Groupings) (before now : List PairSum) (g h a b : Gid) (r : Gid × List CombId) : Type 0 where
  pub above : 2 ≤ g.level
  pub levels : h.level ≡ g.level
  pub good : IsGood t.levels
  pub first : g.at < count t.levels g.level
  pub second : h.at < count t.levels h.level
  pub a_level : a.level + 1 ≡ g.level
  pub b_level : b.level + 1 ≡ h.level
  pub a_is : a.at ≡ (node_of t g).a_callee
  pub b_is : b.at ≡ (node_of t h).a_callee
  pub summed : HasSums u.levels now a.level (exit_sums (a.level - 1) (pattern t.levels a.level a.at) (pattern t.levels b.level b.at)) r
  pub grown : HasGrown t u before now

pub outer_sums : (t u : Groupings) (before now : List PairSum) (g h a b : Gid) (r : Gid × List CombId) → OuterCall t u before now g h a b r
    → let m = g.level - 2 in HasSums u.levels now (suc m) (exit_sums m (pattern u.levels (suc m) (node_of u g).a_callee) (pattern u.levels (suc m) (node_of u h).a_callee)) r
outer_sums t u before now g h a b r w =
    let m = g.level - 2 in
    let e : suc m + 1 ≡ g.level = omega (arith, w.above) in
    let f : suc m + 1 ≡ h.level = omega (arith, w.above, w.levels) in
    let s = at_level t.levels u.levels now a.level b.level m a.at b.at r (omega (arith, w.a_level, e)) (omega (arith, w.b_level, f)) w.summed in
    subst (λ (q : List ℕ). HasSums u.levels now (suc m) (exit_sums m (pattern u.levels (suc m) (node_of u g).a_callee) q) r) (callee_kept t.levels u.levels w.good w.grown.extends h.level (suc m) h.at b.at f w.second w.b_is)
    (subst (λ (p : List ℕ). HasSums u.levels now (suc m) (exit_sums m p (pattern t.levels (suc m) b.at)) r) (callee_kept t.levels u.levels w.good w.grown.extends g.level (suc m) g.at a.at e w.first w.a_is) s)

-- each of them is a sum of pairs of middle vertices
pub outer_each : (t u : Groupings) (before now : List PairSum) (g h a b : Gid) (r : Gid × List CombId) → OuterCall t u before now g h a b r
    → All (IsSumIn (length (node_of u g).connections) (length (node_of u h).connections) (2 ^ (2 ^ (g.level - 2)))) (sums_of now r.1)
outer_each t u before now g h a b r w =
    let m = g.level - 2 in
    let gu : g.at < count u.levels g.level = omega (arith, w.first, w.grown.extends.more g.level) in
    let hu : h.at < count u.levels h.level = omega (arith, w.second, w.grown.extends.more h.level) in
    let ng = good_node u.levels w.grown.good g.level (suc m) g.at (omega (arith, w.above)) gu in
    let nh = good_node u.levels w.grown.good h.level (suc m) h.at (omega (arith, w.above, w.levels)) hu in
    let p = pattern u.levels (suc m) (node_of u g).a_callee in
    let q = pattern u.levels (suc m) (node_of u h).a_callee in
    sums_in u.levels now (suc m) m (length (node_of u g).connections) (length (node_of u h).connections) (exit_in p) (exit_in q) r
    (subst (λ (n : ℕ). StaysBelow m (exit_in p) n) (sym ng.middles) (stays u.levels w.grown.good m (node_of u g).a_callee ng.callee_exists))
    (subst (λ (n : ℕ). StaysBelow m (exit_in q) n) (sym nh.middles) (stays u.levels w.grown.good m (node_of u h).a_callee nh.callee_exists)) (outer_sums t u before now g h a b r w)

halves_at : (t : Levels) → IsGood t → (m k i : ℕ) → suc (suc m) ≡ k → i < count t k
    → IsByHalves (2 ^ m) (exit_in (pattern t k i)) (exit_in (pattern t (suc m) (node t k i).a_callee)) (callee_exit (pattern t (suc m)) (node t k i).connections) (returns_at (node t k i).connections)
halves_at t g m k i e = subst (λ (k : ℕ). i < count t k → IsByHalves (2 ^ m) (exit_in (pattern t k i)) (exit_in (pattern t (suc m) (node t k i).a_callee)) (callee_exit (pattern t (suc m)) (node t k i).connections) (returns_at (node t k i).connections)) e (by_halves t g m i)

-- THE PRODUCT: the rows assembled have the sums of the two groupings
pub outer_made : (t u v w : Groupings) (before now after : List PairSum) (g h a b : Gid) (callee : Gid) (ids : List CombId) (rows : List (Gid × List CombId)) (each : ℕ) (r : Gid × List CombId)
    → OuterCall t u before now g h a b (callee, ids) → HasGrown u v now after → AllDiffer after → HaveSumRows v.levels after (suc (g.level - 2)) (λ i. row_sums u g h (get_or (sums_of now ids) i [])) each (length ids) rows
    → HasCanon w.levels r.0 (suc callee.level) (labels_over (pattern v.levels callee.level) callee.at (map row_of rows)) r.1
    → HasSums w.levels after g.level (exit_sums (g.level - 1) (pattern t.levels g.level g.at) (pattern t.levels h.level h.at)) r
outer_made t u v w before now after g h a b callee ids rows each r o x d hr c =
    let m = g.level - 2 in
    let k = g.level in
    let e : suc (suc m) ≡ g.level = omega (arith, o.above) in
    let f : suc (suc m) ≡ h.level = omega (arith, o.above, o.levels) in
    let s = outer_sums t u before now g h a b (callee, ids) o in
    let all = exit_sums m (pattern u.levels (suc m) (node_of u g).a_callee) (pattern u.levels (suc m) (node_of u h).a_callee) in
    let there : callee.at < count u.levels (suc m) = subst (λ (n : ℕ). callee.at < count u.levels n) s.level s.there in
    let canon_u : IsCanon all (pattern u.levels (suc m) callee.at) (sums_of now ids) = subst (λ (n : ℕ). IsCanon all (pattern u.levels n callee.at) (sums_of now ids)) s.level s.canon in
    let canon_v : IsCanon all (pattern v.levels (suc m) callee.at) (sums_of now ids) =
    subst (λ (p : List ℕ). IsCanon all p (sums_of now ids)) (sym (pattern_kept u.levels v.levels o.grown.good x.extends (suc m) callee.at there)) canon_u in
    let long : length rows ≡ length (sums_of now ids) = hr.long ∙ sym (length-map ids (sum_of now)) in
    let c' : HasCanon w.levels r.0 (suc (suc m)) (labels_over (pattern v.levels (suc m)) callee.at (map row_of rows)) r.1 =
    subst (λ (n : ℕ). HasCanon w.levels r.0 (suc n) (labels_over (pattern v.levels n) callee.at (map row_of rows)) r.1) s.level c in
    let made = assembled_sums v.levels w.levels after d (suc m) callee.at each all (sums_of now ids) (row_sums u g h) rows canon_v long (λ i q li. hr.rows_are i q (omega (arith, li, length-map ids (sum_of now)))) r.0 r.1 c' in
    let gu : g.at < count u.levels g.level = omega (arith, o.first, o.grown.extends.more g.level) in
    let hu : h.at < count u.levels h.level = omega (arith, o.second, o.grown.extends.more h.level) in
    let split = sums_split m (exit_in (pattern u.levels g.level g.at)) (exit_in (pattern u.levels h.level h.at)) (exit_in (pattern u.levels (suc m) (node_of u g).a_callee)) (exit_in (pattern u.levels (suc m) (node_of u h).a_callee))
    (callee_exit (pattern u.levels (suc m)) (node_of u g).connections) (callee_exit (pattern u.levels (suc m)) (node_of u h).connections) (returns_at (node_of u g).connections) (returns_at (node_of u h).connections)
    (halves_at u.levels o.grown.good m g.level g.at e gu) (halves_at u.levels o.grown.good m h.level h.at f hu) in
    let one : suc m ≡ g.level - 1 = omega (arith, o.above) in
    let same : flat_map (row_sums u g h) all ≡ exit_sums (g.level - 1) (pattern t.levels g.level g.at) (pattern t.levels h.level h.at) =
    sym split ∙ ap (λ (p : List ℕ). exit_sums (suc m) p (pattern u.levels h.level h.at)) (pattern_kept t.levels u.levels o.good o.grown.extends g.level g.at o.first)
    ∙ ap (λ (q : List ℕ). exit_sums (suc m) (pattern t.levels g.level g.at) q) (pattern_kept t.levels u.levels o.good o.grown.extends h.level h.at o.second)
    ∙ ap (λ (n : ℕ). exit_sums n (pattern t.levels g.level g.at) (pattern t.levels h.level h.at)) one in
    subst (λ (l : ℕ). HasSums w.levels after l (exit_sums (g.level - 1) (pattern t.levels g.level g.at) (pattern t.levels h.level h.at)) r) e
    (subst (λ (v : List PairSum). HasSums w.levels after (suc (suc m)) v r) same made)
