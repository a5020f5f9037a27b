use Rattle.std.proofs.Common.{◌≡◌, ℕ, suc, ◌<◌, ◌≤◌, ◌+◌, ◌-◌, ◌*◌, ◌/◌, ◌%◌, ◌^◌, Bool, true, false, List, map, length, get_or, sym, ◌∙◌, ap, subst, arith, add-one}
use Rattle.std.proofs.lemmas.List.{length-map, get_or-map}
use Rattle.std.proofs.lemmas.Nat.{pow_pos, mul-le}
use Rattle.std.proofs.Math.Nat.{pow-le-pow_right, mod-eq_of_lt, mod-lt}
use Rattle.cf_model.specs.FlatFunctions.{points}
use Rattle.cf_model.specs.Diagrams.{Levels, Connection, no_connection, exit_at, connection_at, count, node, row, pattern, exits, IsGood, IsGoodNode, IsGoodConnection}
use Rattle.cf_model.proofs.FlatFunctionLaws.{points-is}
use Rattle.cf_model.proofs.Canonicity.{pattern_full}
use Rattle.cf_model.proofs.Entries.{entry_by_halves, entry_below}
use Rattle.cf_table.specs.declared.Gid.{Gid}
use Rattle.cf_table.specs.declared.BConn.{BConn}
use Rattle.cf_table.specs.Groupings.{Groupings, Owns, node_of, pattern_of, tuple_of, connection_of}
use Rattle.cf_table.proofs.Told.{good_node}
use Rattle.cf_witness.specs.Nexts.{is_marked, has_marked, LacksMarked, IsNext}
use Rattle.cf_witness.proofs.Marks.{Below, any_marked, row_lacks, row_next}
use Rattle.cf_witness.proofs.Halves.{InRows, HasCome, second_from, has_begun, in_square, none_left, all_passed, found, passed}

pub points_pos : (l : ℕ) → 0 < points l
points_pos l = subst (λ (m : ℕ). 0 < m) (sym (points-is l)) (pow_pos (2 ^ l))

abbrev pub row_read : Levels → ℕ → ℕ → ℕ → ℕ → List ℕ
row_read t l k i j = row (pattern t l) (connection_at (node t k i).connections j)

in_rows_suc : (t : Levels) → IsGood t → (l i : ℕ) (marks middles : List Bool) → i < count t (suc l) → middles ≡ map (λ b. has_marked marks b.returns) (node t (suc l) i).connections
    → InRows (pattern t (suc l) i) (pattern t l (node t (suc l) i).a_callee) (row_read t l (suc l) i) marks middles (points l)
in_rows_suc t good l i marks middles own e =
    let n = node t (suc l) i in
    let bs = n.connections in
    let g : IsGoodNode (count t l) (exits t l) n = good.good_nodes l i own in
    let first = pattern t l n.a_callee in
    let lj : (u : ℕ) → u < points l → get_or first u 0 < length bs = λ u hu. (let middles_are = g.middles in omega (arith, entry_below t good l n.a_callee u g.callee_exists hu, middles_are)) in
    let full : (j : ℕ) → j < length bs → length (pattern t l (connection_at bs j).callee) ≡ points l = λ j h. pattern_full t good l (connection_at bs j).callee (g.good_connections j h).callee_exists in
    record {
      positive = points_pos l;
      long = pattern_full t good (suc l) i own;
      first_long = pattern_full t good l n.a_callee g.callee_exists;
      row_long = λ u hu. (let j = get_or first u 0 in length-map (pattern t l (connection_at bs j).callee) (exit_at (connection_at bs j)) ∙ full j (lj u hu));
      read = λ u v hu hv.
          (let j = get_or first u 0 in
          entry_by_halves t good l i u v own hu hv
          ∙ sym (get_or-map (exit_at (connection_at bs j)) (pattern t l (connection_at bs j).callee) v 0 0 (omega (arith, hv, full j (lj u hu)))));
      told = λ u v hu hv h.
          (let j = get_or first u 0 in
          let b = connection_at bs j in
          let gb = g.good_connections j (lj u hu) in
          let entries = gb.entries in
          let w = get_or (pattern t l b.callee) v 0 in
          let lw : w < length b.returns = omega (arith, entry_below t good l b.callee v gb.callee_exists hv, entries) in
          let here : is_marked marks (exit_at b w) ≡ true = ap (is_marked marks) (sym (get_or-map (exit_at b) (pattern t l b.callee) v 0 0 (omega (arith, hv, full j (lj u hu))))) ∙ h in
          ap (λ (m : List Bool). is_marked m j) e ∙ get_or-map (λ (c : Connection). has_marked marks c.returns) bs j no_connection false (lj u hu) ∙ any_marked marks b.returns w lw here);
    }

-- a grouping's pattern in rows, by the marks of its middle vertices
pub in_rows : (t : Levels) → IsGood t → (k l i : ℕ) (marks middles : List Bool) → l + 1 ≡ k → i < count t k → middles ≡ map (λ b. has_marked marks b.returns) (node t k i).connections
    → InRows (pattern t k i) (pattern t l (node t k i).a_callee) (row_read t l k i) marks middles (points l)
in_rows t good k l i marks middles q =
    subst (λ (m : ℕ). i < count t m → middles ≡ map (λ b. has_marked marks b.returns) (node t m i).connections
    → InRows (pattern t m i) (pattern t l (node t m i).a_callee) (row_read t l m i) marks middles (points l)) (sym (add-one l) ∙ q) (in_rows_suc t good l i marks middles)

small_level : (l : ℕ) → l ≤ 6 → 2 ^ l ≤ 64
small_level l h = pow-le-pow_right {n = 2} (omega arith) h

-- the assignments of a level below 7 are counted by 64 bits
pub half_fits : (l : ℕ) → l ≤ 6 → points l ≤ 2 ^ 64
half_fits l h = subst (λ (n : ℕ). n ≤ 2 ^ 64) (sym (points-is l)) (pow-le-pow_right {n = 2} (omega arith) (small_level l h))

pub shift_small : (l n : ℕ) → l ≤ 6 → n ≡ 2 ^ l → n < 128
shift_small l n h e = omega (arith, small_level l h, e)

pub shifted : (l n : ℕ) → l ≤ 6 → n ≡ 2 ^ l → 1 * 2 ^ n % 2 ^ 128 ≡ points l
shifted l n h e =
    let p : 2 ^ n ≡ points l = ap (λ (k : ℕ). 2 ^ k) e ∙ sym (points-is l) in
    let small = half_fits l h in
    let fits : 1 * 2 ^ n < 2 ^ 128 = omega (arith, p, small) in
    let same : 1 * 2 ^ n ≡ points l = omega (arith, p) in
    mod-eq_of_lt fits ∙ same

-- What a turn of the search in grouping g knows: its A-callee, the marks of its middle vertices, and the points below.
pub record Turn (t : Groupings) (g a : Gid) (marks middles : List Bool) (half : ℕ) : Type 0 where
  pub good : IsGood t.levels
  pub owned : Owns t g
  pub level : a.level + 1 ≡ g.level
  pub callee : a.at ≡ (node_of t g).a_callee
  pub half_is : half ≡ points (g.level - 1)
  pub most : half ≤ 2 ^ 64
  pub middles_are : middles ≡ map (λ b. has_marked marks b.returns) (node_of t g).connections

-- the row of a middle vertex
abbrev pub row_of : Groupings → Gid → ℕ → List ℕ
row_of t g j = row (pattern t.levels (g.level - 1)) (connection_at (node_of t g).connections j)

below : (k l : ℕ) → l + 1 ≡ k → k - 1 ≡ l
below k l e = omega (arith, e)

half_below : (t : Groupings) (g a : Gid) (marks middles : List Bool) (half : ℕ) → Turn t g a marks middles half → half ≡ points a.level
half_below t g a marks middles half w = w.half_is ∙ ap points (below g.level a.level w.level)

turn_rows : (t : Groupings) (g a : Gid) (marks middles : List Bool) (half : ℕ) → Turn t g a marks middles half → InRows (pattern_of t g) (pattern_of t a) (row_of t g) marks middles half
turn_rows t g a marks middles half w =
    let l = a.level in
    let made = in_rows t.levels w.good g.level l g.at marks middles w.level w.owned w.middles_are in
    subst (λ (h : ℕ). InRows (pattern_of t g) (pattern_of t a) (row_of t g) marks middles h) (sym (half_below t g a marks middles half w))
    (subst (λ (i : ℕ). InRows (pattern_of t g) (pattern t.levels l i) (row_of t g) marks middles (points l)) (sym w.callee)
    (subst (λ (m : ℕ). InRows (pattern_of t g) (pattern t.levels l (node_of t g).a_callee) (λ j. row (pattern t.levels m) (connection_at (node_of t g).connections j)) marks middles (points l)) (sym (below g.level l w.level)) made))

squared : (k l : ℕ) → l + 1 ≡ k → points l * points l ≡ points k
squared k l e = ap points (sym (add-one l) ∙ e)

turn_square : (t : Groupings) (g a : Gid) (marks middles : List Bool) (half : ℕ) → Turn t g a marks middles half → half * half ≡ points g.level
turn_square t g a marks middles half w = ap (λ (h : ℕ). h * h) (half_below t g a marks middles half w) ∙ squared g.level a.level w.level

pub turn_positive : (l half : ℕ) → half ≡ points l → 0 < half
turn_positive l half e = subst (λ (h : ℕ). 0 < h) (sym e) (points_pos l)

-- the search begins at the place from which it is asked
pub turn_begun : (p : List ℕ) (marks : List Bool) (from half l : ℕ) → half ≡ points l → HasCome p marks from half (from / half) (from % half) × (from % half ≤ half)
turn_begun p marks from half l e = let m : from % half < half = mod-lt from (turn_positive l half e) in (has_begun p marks from half, omega (arith, m))

pub turn_none : (t : Groupings) (g a : Gid) (marks middles : List Bool) (half from first second : ℕ) → Turn t g a marks middles half → HasCome (pattern_of t g) marks from half first second
    → LacksMarked (pattern_of t a) middles first (points a.level) → LacksMarked (pattern_of t g) marks from (points g.level)
turn_none t g a marks middles half from first second w h k =
    subst (λ (n : ℕ). LacksMarked (pattern_of t g) marks from n) (turn_square t g a marks middles half w)
    (none_left (pattern_of t g) (pattern_of t a) (row_of t g) marks middles half from first second (turn_rows t g a marks middles half w) h (subst (λ (n : ℕ). LacksMarked (pattern_of t a) middles first n) (sym (half_below t g a marks middles half w)) k))

pub turn_ended : (t : Groupings) (g a : Gid) (marks middles : List Bool) (half from first second : ℕ) → Turn t g a marks middles half → HasCome (pattern_of t g) marks from half first second → half ≤ first → LacksMarked (pattern_of t g) marks from (points g.level)
turn_ended t g a marks middles half from first second w h k =
    subst (λ (n : ℕ). LacksMarked (pattern_of t g) marks from n) (turn_square t g a marks middles half w) (all_passed (pattern_of t g) marks half from first second h k)

pub turn_found : (t : Groupings) (g a : Gid) (marks middles : List Bool) (half from first second u j low v e : ℕ) → Turn t g a marks middles half → HasCome (pattern_of t g) marks from half first second → second ≤ half
    → IsNext (pattern_of t a) middles first u j → low ≡ second_from u first second → IsNext (row_of t g j) marks low v e → IsNext (pattern_of t g) marks from (half * u + v) e
turn_found t g a marks middles half from first second u j low v e w = found (pattern_of t g) (pattern_of t a) (row_of t g) marks middles half from first second u j low v e (turn_rows t g a marks middles half w)

pub turn_passed : (t : Groupings) (g a : Gid) (marks middles : List Bool) (half from first second u j low : ℕ) → Turn t g a marks middles half → HasCome (pattern_of t g) marks from half first second → second ≤ half
    → IsNext (pattern_of t a) middles first u j → low ≡ second_from u first second → LacksMarked (row_of t g j) marks low (points (g.level - 1)) → HasCome (pattern_of t g) marks from half (u + 1) 0
turn_passed t g a marks middles half from first second u j low w h hs f el k =
    passed (pattern_of t g) (pattern_of t a) (row_of t g) marks middles half from first second u j low (turn_rows t g a marks middles half w) h hs f el (subst (λ (n : ℕ). LacksMarked (row_of t g j) marks low n) (sym w.half_is) k)

-- a first half is below the points below, and leads to a middle vertex
pub turn_first : (t : Groupings) (g a : Gid) (marks middles : List Bool) (half first u j : ℕ) → Turn t g a marks middles half → IsNext (pattern_of t a) middles first u j → u < half
turn_first t g a marks middles half first u j w f = let within = f.within in let long = (turn_rows t g a marks middles half w).first_long in omega (arith, within, long)

pub turn_middle : (t : Groupings) (g a : Gid) (marks middles : List Bool) (half first u j : ℕ) → Turn t g a marks middles half → IsNext (pattern_of t a) middles first u j → j < length (node_of t g).connections
turn_middle t g a marks middles half first u j w f =
    let l = a.level in
    let n = good_node t.levels w.good g.level l g.at w.level w.owned in
    let own : a.at < count t.levels l = subst (λ (i : ℕ). i < count t.levels l) (sym w.callee) n.callee_exists in
    let hu : u < points l = subst (λ (h : ℕ). u < h) (half_below t g a marks middles half w) (turn_first t g a marks middles half first u j w f) in
    let low : j < exits t.levels l a.at = subst (λ (x : ℕ). x < exits t.levels l a.at) f.exit_is (entry_below t.levels w.good l a.at u own hu) in
    let many : length (node_of t g).connections ≡ exits t.levels l a.at = n.middles ∙ ap (exits t.levels l) (sym w.callee) in
    omega (arith, low, many)

-- the number of the place fits its word
pub turn_fits : (t : Groupings) (g a : Gid) (marks middles : List Bool) (half first u j low v e : ℕ) → Turn t g a marks middles half → IsNext (pattern_of t a) middles first u j → IsNext (row_of t g j) marks low v e → half * u + v < 2 ^ 128
turn_fits t g a marks middles half first u j low v e w f k =
    let r = turn_rows t g a marks middles half w in
    let hu = turn_first t g a marks middles half first u j w f in
    let rl : length (row_of t g j) ≡ half = subst (λ (i : ℕ). length (row_of t g i) ≡ half) f.exit_is (r.row_long u hu) in
    let within = k.within in
    let hv : v < half = omega (arith, within, rl) in
    let sq : u * half + v < half * half = in_square half u v hu hv in
    let most : half * half ≤ 2 ^ 64 * 2 ^ 64 = mul-le half half (2 ^ 64) (2 ^ 64) w.most w.most in
    let turned : half * u + v ≡ u * half + v = omega arith in
    omega (arith, sq, most, turned)

-- What the search in the row of middle vertex j knows: its B-connection, and the marks of its callee's exits.
pub record RowTurn (t : Groupings) (g : Gid) (j : ℕ) (b : BConn) (xs : List ℕ) (marks inner : List Bool) : Type 0 where
  pub good : IsGood t.levels
  pub owned : Owns t g
  pub level : b.«to».level + 1 ≡ g.level
  pub middle : j < length (node_of t g).connections
  pub connection : connection_of t.tuples b ≡ connection_at (node_of t g).connections j
  pub exits_are : xs ≡ tuple_of t.tuples b.ret
  pub inner_are : inner ≡ map (is_marked marks) xs

row_good : (t : Groupings) (g : Gid) (j : ℕ) (b : BConn) (xs : List ℕ) (marks inner : List Bool) → RowTurn t g j b xs marks inner → IsGoodConnection (count t.levels b.«to».level) (exits t.levels b.«to».level) (connection_of t.tuples b)
row_good t g j b xs marks inner w =
    let l = b.«to».level in
    subst (λ (c : Connection). IsGoodConnection (count t.levels l) (exits t.levels l) c) (sym w.connection) ((good_node t.levels w.good g.level l g.at w.level w.owned).good_connections j w.middle)

pub row_callee : (t : Groupings) (g : Gid) (j : ℕ) (b : BConn) (xs : List ℕ) (marks inner : List Bool) → RowTurn t g j b xs marks inner → Owns t b.«to»
row_callee t g j b xs marks inner w = (row_good t g j b xs marks inner w).callee_exists

row_below : (t : Groupings) (g : Gid) (j : ℕ) (b : BConn) (xs : List ℕ) (marks inner : List Bool) → RowTurn t g j b xs marks inner → Below (pattern_of t b.«to») (length (tuple_of t.tuples b.ret))
row_below t g j b xs marks inner w n h =
    let l = b.«to».level in
    let c = row_good t g j b xs marks inner w in
    let entries = c.entries in
    let full = pattern_full t.levels w.good l b.«to».at c.callee_exists in
    omega (arith, entry_below t.levels w.good l b.«to».at n c.callee_exists (omega (arith, h, full)), entries)

row_same : (t : Groupings) (g : Gid) (j : ℕ) (b : BConn) (xs : List ℕ) (marks inner : List Bool) → RowTurn t g j b xs marks inner → row (pattern t.levels b.«to».level) (connection_of t.tuples b) ≡ row_of t g j
row_same t g j b xs marks inner w = ap (row (pattern t.levels b.«to».level)) w.connection ∙ ap (λ (m : ℕ). row (pattern t.levels m) (connection_at (node_of t g).connections j)) (sym (below g.level b.«to».level w.level))

inner_is : (t : Groupings) (g : Gid) (j : ℕ) (b : BConn) (xs : List ℕ) (marks inner : List Bool) → RowTurn t g j b xs marks inner → inner ≡ map (is_marked marks) (tuple_of t.tuples b.ret)
inner_is t g j b xs marks inner w = w.inner_are ∙ ap (map (is_marked marks)) w.exits_are

pub row_none : (t : Groupings) (g : Gid) (j : ℕ) (b : BConn) (xs : List ℕ) (marks inner : List Bool) (from : ℕ) → RowTurn t g j b xs marks inner → LacksMarked (pattern_of t b.«to») inner from (points b.«to».level) → LacksMarked (row_of t g j) marks from (points (g.level - 1))
row_none t g j b xs marks inner from w h =
    let p = pattern_of t b.«to» in
    let c = row_good t g j b xs marks inner w in
    let full : length p ≡ points b.«to».level = pattern_full t.levels w.good b.«to».level b.«to».at c.callee_exists in
    let end : length p ≡ points (g.level - 1) = full ∙ ap points (sym (below g.level b.«to».level w.level)) in
    let k : LacksMarked p (map (is_marked marks) (tuple_of t.tuples b.ret)) from (length p) = subst (λ (m : List Bool). LacksMarked p m from (length p)) (inner_is t g j b xs marks inner w) (subst (λ (n : ℕ). LacksMarked p inner from n) (sym full) h) in
    subst (λ (r : List ℕ). LacksMarked r marks from (points (g.level - 1))) (row_same t g j b xs marks inner w)
    (subst (λ (n : ℕ). LacksMarked (row (pattern t.levels b.«to».level) (connection_of t.tuples b)) marks from n) end (row_lacks marks (connection_of t.tuples b) p from (row_below t g j b xs marks inner w) k))

pub row_some : (t : Groupings) (g : Gid) (j : ℕ) (b : BConn) (xs : List ℕ) (marks inner : List Bool) (from n x : ℕ) → RowTurn t g j b xs marks inner → IsNext (pattern_of t b.«to») inner from n x → IsNext (row_of t g j) marks from n (get_or xs x 0)
row_some t g j b xs marks inner from n x w h =
    let p = pattern_of t b.«to» in
    let k : IsNext p (map (is_marked marks) (tuple_of t.tuples b.ret)) from n x = subst (λ (m : List Bool). IsNext p m from n x) (inner_is t g j b xs marks inner w) h in
    subst (λ (e : ℕ). IsNext (row_of t g j) marks from n e) (ap (λ (ys : List ℕ). get_or ys x 0) (sym w.exits_are))
    (subst (λ (r : List ℕ). IsNext r marks from n (get_or (tuple_of t.tuples b.ret) x 0)) (row_same t g j b xs marks inner w) (row_next marks (connection_of t.tuples b) p from n x (row_below t g j b xs marks inner w) k))

-- the callee's exit has a place in the return tuple
pub row_place : (t : Groupings) (g : Gid) (j : ℕ) (b : BConn) (xs : List ℕ) (marks inner : List Bool) (from n x : ℕ) → RowTurn t g j b xs marks inner → IsNext (pattern_of t b.«to») inner from n x → x < length xs
row_place t g j b xs marks inner from n x w h =
    subst (λ (ys : List ℕ). x < length ys) (sym w.exits_are) (subst (λ (y : ℕ). y < length (tuple_of t.tuples b.ret)) h.exit_is (row_below t g j b xs marks inner w n h.within))
