use Rattle.std.proofs.Common.{◌≡◌, ℕ, zero, suc, max, ◌<◌, ◌≤◌, ◌+◌, List, [], ◌∷◌, ◌++◌, map, refl, sym, ◌∙◌, ap, subst, length, take, get_or, arith, nat_eq, Some, Option}
use Rattle.std.proofs.lemmas.List.{length-map, map-append, take_more}
use Rattle.std.proofs.lemmas.List.Concat.{flat_map_single}
use Rattle.std.specs.List.{flat_map, slice_get, All}
use Rattle.cf_model.specs.Renumbering.{width, Grows, IsCanon, rgs}
use Rattle.cf_model.proofs.RenumberingLaws.{canon_length, nat_decides, map_map}
use Rattle.cf_model.specs.Diagrams.{Levels, Node, Connection, no_connection, exit_at, connection_at, count, row, spell, exits, all_returns}
use Rattle.cf_model.proofs.Growth.{carried, width-append, Grows-append, Under, Under-width}
use Rattle.cf_model.proofs.Canonicity.{GoodLevel}
use Rattle.cf_model.proofs.CanonLaws.{map_under, canon_is}
use Rattle.cf_table.specs.declared.Gid.{Gid}
use Rattle.cf_build.specs.Assembling.{classed, row_of, IsRow, label_at, row_labels, labels_over}
use Rattle.cf_build.specs.declared.rows.Row.{Row}
use Rattle.cf_build.specs.Joining.{IsLooseNode, AreInTurn, row_connection, loose_node, frame, row_frame, ArePlaced, AreNumbered}
use Rattle.cf_build.proofs.Words.{read_carries}
use Rattle.cf_build.proofs.Joins.{flat_map_under, map_words, made}
use Rattle.cf_build.proofs.Placing.{frame_conn, frame_places, framed, returns_flat}

-- one place of a canon
spelled_at : {A : Type 0} (all : List A) (p : List ℕ) (ds : List A) → map (slice_get ds) p ≡ map Some all → (i : ℕ) → i < length p → (d : A) → slice_get ds (get_or p i 0) ≡ Some (get_or all i d)
spelled_at all [] ds e i h d = absurd (omega (arith, h))
spelled_at [] (k ∷ p) ds e i h d = cc
spelled_at (x ∷ all) (k ∷ p) ds e zero h d = cc
spelled_at (x ∷ all) (k ∷ p) ds e (suc i) h d =
    let rest : map (slice_get ds) p ≡ map Some all = cc in
    spelled_at all p ds rest i (omega (arith, h)) d

-- the classes of a pattern's exits are numbered by their ranks
pub classed_canon : (classes ranks ds p : List ℕ) → IsCanon classes ranks ds → Grows 0 p → width 0 p ≡ length classes → IsCanon (classed classes p) (classed ranks p) ds
classed_canon classes ranks ds p c gp full =
    let long : length ranks ≡ length classes = canon_length classes ranks ds c in
    let r = read_carries ranks p 0 gp (full ∙ sym long) c.grows in
    record {
      spells = map_map (slice_get ds) (λ i. get_or ranks i 0) p
          ∙ map_under (λ i. slice_get ds (get_or ranks i 0)) (λ i. Some (get_or classes i 0)) (length ranks) p (Under-width 0 (length ranks) p (omega (arith, full, long))) (λ i li. spelled_at classes ranks ds c.spells i li 0)
          ∙ sym (map_map Some (λ i. get_or classes i 0) p);
      grows = r.0;
      reached = r.1 ∙ c.reached;
      differ = c.differ;
    }

pub classed_rgs : (classes ranks ds p : List ℕ) → IsCanon classes ranks ds → Grows 0 p → width 0 p ≡ length classes → classed ranks p ≡ rgs nat_eq (classed classes p)
classed_rgs classes ranks ds p c gp full = (canon_is nat_eq nat_decides (classed classes p) (classed ranks p) ds (classed_canon classes ranks ds p c gp full)).0

-- one more number, that is known or the next
pub grows_more : (xs : List ℕ) (i next now : ℕ) → i < length xs → Grows 0 (take i xs) → width 0 (take i xs) ≡ next → get_or xs i 0 ≤ next → now ≡ max next (suc (get_or xs i 0)) → Grows 0 (take (i + 1) xs) × (width 0 (take (i + 1) xs) ≡ now)
grows_more xs i next now l g w le e =
    let x = get_or xs i 0 in
    let more : take (i + 1) xs ≡ take i xs ++ x ∷ [] = take_more xs i 0 l in (
      subst (λ (v : List ℕ). Grows 0 v) (sym more) (Grows-append 0 (take i xs) (x ∷ []) g (omega (arith, le, w), tt)),
      ap (λ (v : List ℕ). width 0 v) more ∙ width-append 0 (take i xs) (x ∷ []) ∙ ap (λ (n : ℕ). max n (suc x)) w ∙ sym e,
    )

-- equal lists cut at one place
cut : {A : Type 0} (xs ys us vs : List A) → length xs ≡ length us → xs ++ ys ≡ us ++ vs → (xs ≡ us) × (ys ≡ vs)
cut [] ys [] vs h e = (refl, e)
cut [] ys (u ∷ us) vs h e = absurd (omega (arith, h))
cut (x ∷ xs) ys [] vs h e = absurd (omega (arith, h))
cut (x ∷ xs) ys (u ∷ us) vs h e =
    let top : x ≡ u = cc in
    let below : xs ++ ys ≡ us ++ vs = cc in
    let l : length xs ≡ length us = omega (arith, h) in
    let r = cut xs ys us vs l below in
    let r0 : xs ≡ us = r.0 in
    ((let k : x ∷ xs ≡ u ∷ us = cc in k), r.1)

-- numbered rows have the groupings and the lengths of the rows
abbrev frame_row : {A : Type 0} → ℕ × List A → ℕ × ℕ
frame_row r = (r.0, length r.1)

abbrev Shaped : {A : Type 0} → List Connection → List (ℕ × List A) → Type 0
Shaped ns rs = map frame_conn ns ≡ map frame_row rs

shaped_long : {A : Type 0} (ns : List Connection) (rs : List (ℕ × List A)) → Shaped ns rs → length ns ≡ length rs
shaped_long ns rs h = sym (length-map ns frame_conn) ∙ ap length h ∙ length-map rs frame_row

shaped_at : {A : Type 0} (ns : List Connection) (rs : List (ℕ × List A)) → Shaped ns rs → (j : ℕ) → j < length ns → ((connection_at ns j).callee ≡ (get_or rs j (0, [])).0) × (length (connection_at ns j).returns ≡ length (get_or rs j (0, [])).1)
shaped_at [] rs h j lj = absurd (omega (arith, lj))
shaped_at (n ∷ ns) [] h j lj = cc
shaped_at (n ∷ ns) (r ∷ rs) h zero lj =
    let p : frame_conn n ≡ frame_row r = cc in
    (ap (λ q. q.0) p, ap (λ q. q.1) p)
shaped_at (n ∷ ns) (r ∷ rs) h (suc j) lj =
    let rest : Shaped ns rs = cc in
    shaped_at ns rs rest j (omega (arith, lj))

-- each row's labels are told by its numbers
split : {A : Type 0} (ds : List A) (ns : List Connection) (rs : List (ℕ × List A)) → Shaped ns rs → map (slice_get ds) (all_returns ns) ≡ map Some (flat_map (λ r. r.1) rs)
    → (j : ℕ) → j < length ns → map (slice_get ds) (connection_at ns j).returns ≡ map Some (get_or rs j (0, [])).1
split ds [] rs h e j lj = absurd (omega (arith, lj))
split ds (n ∷ ns) [] h e j lj = cc
split ds (n ∷ ns) (r ∷ rs) h e j lj =
    let p : frame_conn n ≡ frame_row r = cc in
    let rest : Shaped ns rs = cc in
    let len : length n.returns ≡ length r.1 = ap (λ q. q.1) p in
    let c = cut (map (slice_get ds) n.returns) (map (slice_get ds) (all_returns ns)) (map Some r.1) (map Some (flat_map (λ r. r.1) rs)) (length-map n.returns (slice_get ds) ∙ len ∙ sym (length-map r.1 Some))
    (sym (map-append (slice_get ds) n.returns (all_returns ns)) ∙ e ∙ map-append Some r.1 (flat_map (λ r. r.1) rs)) in
    by (split ds ns rs rest c.1) c.0 j lj
  where
    by : ((j : ℕ) → j < length ns → map (slice_get ds) (connection_at ns j).returns ≡ map Some (get_or rs j (0, [])).1) → map (slice_get ds) n.returns ≡ map Some r.1 → (j : ℕ) → j < length (n ∷ ns) → map (slice_get ds) (connection_at (n ∷ ns) j).returns ≡ map Some (get_or (r ∷ rs) j (0, [])).1
    by more here zero lj = here
    by more here (suc j) lj = more j (omega (arith, lj))

picked_at : {A : Type 0} (ds xs : List A) (ret : List ℕ) → map (slice_get ds) ret ≡ map Some xs → (i : ℕ) → i < length ret → slice_get ds (get_or ret i 0) ∷ [] ≡ map Some (label_at xs i)
picked_at ds xs [] e i h = absurd (omega (arith, h))
picked_at ds [] (k ∷ ret) e i h = cc
picked_at ds (x ∷ xs) (k ∷ ret) e zero h =
    let top : slice_get ds k ≡ Some x = cc in
    ap (λ (o : Option _). o ∷ []) top
picked_at ds (x ∷ xs) (k ∷ ret) e (suc i) h =
    let rest : map (slice_get ds) ret ≡ map Some xs = cc in
    picked_at ds xs ret rest i (omega (arith, h))

row_spelled : {A : Type 0} (ds xs : List A) (b : Connection) (q : List ℕ) → map (slice_get ds) b.returns ≡ map Some xs → Under (length b.returns) q → map (slice_get ds) (map (exit_at b) q) ≡ map Some (flat_map (label_at xs) q)
row_spelled ds xs b q e u =
    map_map (slice_get ds) (exit_at b) q
    ∙ sym (flat_map_single (λ i. slice_get ds (exit_at b i)) q)
    ∙ flat_map_under (λ i. slice_get ds (exit_at b i) ∷ []) (λ i. map Some (label_at xs i)) (length b.returns) q u (λ i li. picked_at ds xs b.returns e i li)
    ∙ sym (map_words Some (label_at xs) q)

-- a loose_node node gives out what its rows list
pub loose_grows : (c n : ℕ) (e : ℕ → ℕ) (p : ℕ → List ℕ) → GoodLevel c n e p → (d : Node) → IsLooseNode c e d → Grows 0 (spell p d) × (width 0 (spell p d) ≡ width 0 (all_returns d.connections))
loose_grows c n e p u d g =
    carried (λ b. b.returns) no_connection d.connections (λ j. row p (connection_at d.connections j)) 0 (p d.a_callee) g.first_reach
    (λ s k l h. (let b = g.loose_connections s l in read_carries (connection_at d.connections s).returns (p (connection_at d.connections s).callee) k (u.grows (connection_at d.connections s).callee b.callee_exists) (u.reaches (connection_at d.connections s).callee b.callee_exists ∙ sym b.entries) h))
    (u.grows d.a_callee g.callee_exists) (u.reaches d.a_callee g.callee_exists ∙ sym g.middles)

-- the numbered rows spell the canon of the labels
pub numbered_canon : {A : Type 0} (c n : ℕ) (e : ℕ → ℕ) (p : ℕ → List ℕ) → GoodLevel c n e p → (a : ℕ) (ns : List Connection) (rs : List (ℕ × List A)) (ranks : List ℕ) (ds : List A) → IsLooseNode c e (made a ns) → Shaped ns rs → all_returns ns ≡ ranks
    → IsCanon (flat_map (λ r. r.1) rs) ranks ds → IsCanon (labels_over p a rs) (spell p (made a ns)) ds
numbered_canon c n e p u a ns rs ranks ds g shape flat canon =
    let w = loose_grows c n e p u (made a ns) g in
    let parts = split ds ns rs shape (ap (λ (v : List ℕ). map (slice_get ds) v) flat ∙ canon.spells) in
    record {
      spells = map_words (slice_get ds) (λ j. row p (connection_at ns j)) (p a)
          ∙ flat_map_under (λ j. map (slice_get ds) (row p (connection_at ns j))) (λ j. map Some (row_labels p (get_or rs j (0, [])))) (length ns) (p a)
          (Under-width 0 (length ns) (p a) (omega (arith, u.reaches a g.callee_exists, g.middles)))
          (λ j lj. (let b = g.loose_connections j lj in let s = shaped_at ns rs shape j lj in
          row_spelled ds (get_or rs j (0, [])).1 (connection_at ns j) (p (connection_at ns j).callee) (parts j lj) (Under-width 0 (length (connection_at ns j).returns) (p (connection_at ns j).callee) (omega (arith, u.reaches (connection_at ns j).callee b.callee_exists, b.entries)))
          ∙ ap (λ (k : ℕ). map Some (flat_map (label_at (get_or rs j (0, [])).1) (p k))) s.0))
          ∙ sym (map_words Some (λ j. row_labels p (get_or rs j (0, []))) (p a));
      grows = w.0;
      reached = w.1 ∙ ap (λ (v : List ℕ). width 0 v) flat ∙ canon.reached;
      differ = canon.differ;
    }

-- from the rows of `assemble` to connections
pub shaped_rows : {A : Type 0} (rows : List (Gid × List A)) (placed : List Row) (ranks : List ℕ) → map row_frame placed ≡ map frame rows → AreInTurn 0 placed (length ranks) → Shaped (map (row_connection ranks) placed) (map row_of rows)
shaped_rows rows placed ranks h turn =
    framed ranks 0 placed turn ∙ ap (λ (v : List (Gid × ℕ)). map frame_places v) h ∙ map_map frame_places frame rows
    ∙ sym (map_map frame_row row_of rows)

pub placed_levels : {A : Type 0} (t : Levels) (l : ℕ) (rows : List (Gid × List A)) (placed : List Row) → map row_frame placed ≡ map frame rows → All (IsRow t l) rows
    → (k : ℕ) (d : Row) → k < length placed → (get_or placed k d).callee.level ≡ l
placed_levels t l rows [] h all k d lk = absurd (omega (arith, lk))
placed_levels t l [] (n ∷ placed) h all k d lk = cc
placed_levels t l (r ∷ rows) (n ∷ placed) h all zero d lk =
    let p : row_frame n ≡ frame r = cc in
    ap (λ q. q.0.level) p ∙ (all 0 r (omega arith)).level
placed_levels t l (r ∷ rows) (n ∷ placed) h all (suc k) d lk =
    let rest : map row_frame placed ≡ map frame rows = cc in
    placed_levels t l rows placed rest (λ i e li. all (suc i) e (omega (arith, li))) k d (omega (arith, lk))

row_at : {A : Type 0} (t : Levels) (l : ℕ) (rows : List (Gid × List A)) → All (IsRow t l) rows → (j : ℕ) → j < length rows → ((get_or (map row_of rows) j (0, [])).0 < count t l) × (length (get_or (map row_of rows) j (0, [])).1 ≡ exits t l (get_or (map row_of rows) j (0, [])).0)
row_at t l [] all j lj = absurd (omega (arith, lj))
row_at t l (r ∷ rows) all zero lj = let h = all 0 r (omega arith) in (h.owned, h.labelled)
row_at t l (r ∷ rows) all (suc j) lj = row_at t l rows (λ i e li. all (suc i) e (omega (arith, li))) j (omega (arith, lj))

pub placed_loose : {A : Type 0} (t : Levels) (l a : ℕ) (rows : List (Gid × List A)) (placed : List Row) (ranks : List ℕ) → a < count t l → length rows ≡ exits t l a → All (IsRow t l) rows
    → map row_frame placed ≡ map frame rows → AreInTurn 0 placed (length ranks) → Grows 0 ranks → IsLooseNode (count t l) (exits t l) (loose_node a placed ranks)
placed_loose t l a rows placed ranks own middles all shape turn grow =
    let s = shaped_rows rows placed ranks shape turn in
    let ns = map (row_connection ranks) placed in
    let long : length ns ≡ length rows = shaped_long ns (map row_of rows) s ∙ length-map rows row_of in
    record {
      callee_exists = own;
      middles = long ∙ middles;
      loose_connections = λ j lj. (let at = shaped_at ns (map row_of rows) s j lj in
          let r = row_at t l rows all j (omega (arith, lj, long)) in
          record { callee_exists = omega (arith, at.0, r.0); entries = at.1 ∙ r.1 ∙ ap (λ (k : ℕ). exits t l k) (sym at.0) });
      first_reach = subst (λ (v : List ℕ). Grows 0 v) (sym (returns_flat ranks placed turn)) grow;
    }

-- the ranks of the labels of rows that stand in turn
pub numbered : {A : Type 0} (given : List (Gid × List A)) (rows : List Row) (labels : List A) (ranks : List ℕ) (different : List A) → ArePlaced given rows labels → IsCanon labels ranks different → AreNumbered given rows ranks different
numbered {A} given rows labels ranks different p c = record {
  canon = subst (λ (v : List A). IsCanon v ranks different) (sym p.all) c;
  frames = p.frames;
  in_turn = subst (λ (n : ℕ). AreInTurn 0 rows n) (sym (canon_length labels ranks different c)) p.in_turn;
}
