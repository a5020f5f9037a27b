use Rattle.std.proofs.Common.{◌≡◌, ℕ, zero, suc, ◌<◌, List, [], ◌∷◌, ◌++◌, map, length, take, drop, get_or, nat_eq, Some, option_map, refl, sym, ◌∙◌, ap, subst, arith}
use Rattle.std.specs.List.{slice_get, flat_map}
use Rattle.std.proofs.lemmas.List.{length-map, take_at, drop_at}
use Rattle.std.proofs.lemmas.Option.{slice_get-map, slice_get-get_or, slice_get_within, get_or_from_slice_get, same_Some}
use Rattle.cf_model.specs.Renumbering.{width, IsCanon, rgs, distinct}
use Rattle.cf_model.specs.FlatFunctions.{points}
use Rattle.cf_model.specs.Patterns.{Pattern, same_ranks, cut_into, rows, distinct_rows, a_pattern, b_patterns, return_lists, sub}
use Rattle.cf_model.specs.Diagrams.{Levels, Connection, Node, no_connection, exit_at, connection_at, count, node, row, pattern, exits, IsGoodConnection, IsGoodNode, IsGood, HasPatterns}
use Rattle.cf_model.proofs.Growth.{Under, Under-width}
use Rattle.cf_model.proofs.CanonLaws.{map_under, canon_is}
use Rattle.cf_model.proofs.RenumberingLaws.{map_map, nat_decides, rgs_of_grown, reached_at}
use Rattle.cf_model.proofs.PatternLaws.{ranks_decide}
use Rattle.cf_model.proofs.Canonicity.{GoodLevel, level_holds, row_tells, row_points}

-- the pattern of a connection's callee numbers the connection's row, whose labels are the return list
pub row_canon : (c n : ℕ) (e : ℕ → ℕ) (p : ℕ → List ℕ) → GoodLevel c n e p → (b : Connection) → IsGoodConnection c e b → IsCanon (row p b) (p b.callee) b.returns
row_canon c n e p u b g =
    let full : width 0 (p b.callee) ≡ length b.returns = u.reaches b.callee g.callee_exists ∙ sym g.entries in
    record {
      spells = map_under (slice_get b.returns) (λ i. Some (exit_at b i)) (length b.returns) (p b.callee) (Under-width 0 (length b.returns) (p b.callee) (omega (arith, full))) (λ i l. slice_get-get_or b.returns i 0 l) ∙ sym (map_map Some (exit_at b) (p b.callee));
      grows = u.grows b.callee g.callee_exists;
      reached = full;
      differ = λ i j x hi hj. g.once i j (slice_get_within b.returns i x hi) (slice_get_within b.returns j x hj) (get_or_from_slice_get b.returns i x 0 hi ∙ sym (get_or_from_slice_get b.returns j x 0 hj));
    }

read_row : (p : ℕ → List ℕ) (bs : List Connection) (j : ℕ) → j < length bs → slice_get (map (row p) bs) j ≡ Some (row p (connection_at bs j))
read_row p bs j l = slice_get-map (row p) bs j ∙ ap (λ o. option_map (row p) o) (slice_get-get_or bs j no_connection l)

-- the pattern of a node's callee numbers the node's rows
pub rows_canon : (c n : ℕ) (e : ℕ → ℕ) (p : ℕ → List ℕ) → GoodLevel c n e p → (d : Node) → IsGoodNode c e d → IsCanon (map (λ j. row p (connection_at d.connections j)) (p d.a_callee)) (p d.a_callee) (map (row p) d.connections)
rows_canon c n e p u d g =
    let full : width 0 (p d.a_callee) ≡ length d.connections = u.reaches d.a_callee g.callee_exists ∙ sym g.middles in
    let len : length (map (row p) d.connections) ≡ length d.connections = length-map d.connections (row p) in
    record {
      spells = map_under (slice_get (map (row p) d.connections)) (λ j. Some (row p (connection_at d.connections j))) (length d.connections) (p d.a_callee) (Under-width 0 (length d.connections) (p d.a_callee) (omega (arith, full))) (read_row p d.connections)
          ∙ sym (map_map Some (λ j. row p (connection_at d.connections j)) (p d.a_callee));
      grows = u.grows d.a_callee g.callee_exists;
      reached = full ∙ sym len;
      differ = λ i j x hi hj.
          (let li : i < length d.connections = omega (arith, len, slice_get_within (map (row p) d.connections) i x hi) in
          let lj : j < length d.connections = omega (arith, len, slice_get_within (map (row p) d.connections) j x hj) in
          g.differ i j li lj (row_tells c n e p u (connection_at d.connections i) (connection_at d.connections j) (g.good_connections i li) (g.good_connections j lj)
          (same_Some _ _ (sym (read_row p d.connections i li) ∙ hi ∙ sym hj ∙ read_row p d.connections j lj))));
    }

-- the rows are the pieces of the list of all of them
cut_rows : (f : ℕ → List ℕ) (n k : ℕ) (p : List ℕ) → ((i : ℕ) → i < k → length (f i) ≡ n) → Under k p → cut_into (length p) n (flat_map f p) ≡ map f p
unfolding cut_into
cut_rows f n k [] lf u = refl
cut_rows f n k (x ∷ p) lf u =
    let t : take n (f x ++ flat_map f p) ≡ f x = take_at (f x) (flat_map f p) n (lf x u.0) in
    let d : drop n (f x ++ flat_map f p) ≡ flat_map f p = drop_at (f x) (flat_map f p) n (lf x u.0) in
    ap (λ (ys : List ℕ). ys ∷ cut_into (length p) n (drop n (f x ++ flat_map f p))) t ∙ ap (λ (ys : List ℕ). f x ∷ cut_into (length p) n ys) d ∙ ap (λ (ys : List (List ℕ)). f x ∷ ys) (cut_rows f n k p lf u.1)

pub rows_are : (t : Levels) → IsGood t → (l i : ℕ) → i < count t (suc l) → rows l (pattern t (suc l) i) ≡ map (λ j. row (pattern t l) (connection_at (node t (suc l) i).connections j)) (pattern t l (node t (suc l) i).a_callee)
unfolding pattern
rows_are t g l i h =
    let d = node t (suc l) i in
    let good : IsGoodNode (count t l) (exits t l) d = g.good_nodes l i h in
    let u = level_holds t g l in
    let full : width 0 (pattern t l d.a_callee) ≡ length d.connections = u.reaches d.a_callee good.callee_exists ∙ sym good.middles in
    ap (λ (k : ℕ). cut_into k (points l) (pattern t (suc l) i)) (sym (u.points d.a_callee good.callee_exists))
    ∙ cut_rows (λ j. row (pattern t l) (connection_at d.connections j)) (points l) (length d.connections) (pattern t l d.a_callee) (λ j lj. row_points (count t l) (points l) (exits t l) (pattern t l) u (connection_at d.connections j) (good.good_connections j lj)) (Under-width 0 (length d.connections) (pattern t l d.a_callee) (omega (arith, full)))

-- the A-callee has the A-pattern
pub a_law : (t : Levels) → IsGood t → (l i : ℕ) → i < count t (suc l) → pattern t l (node t (suc l) i).a_callee ≡ a_pattern l (pattern t (suc l) i)
a_law t g l i h =
    let c = rows_canon (count t l) (points l) (exits t l) (pattern t l) (level_holds t g l) (node t (suc l) i) (g.good_nodes l i h) in
    (canon_is same_ranks ranks_decide (rows l (pattern t (suc l) i)) (pattern t l (node t (suc l) i).a_callee) (map (row (pattern t l)) (node t (suc l) i).connections)
    (subst (λ (rs : List (List ℕ)). IsCanon rs (pattern t l (node t (suc l) i).a_callee) (map (row (pattern t l)) (node t (suc l) i).connections)) (sym (rows_are t g l i h)) c)).0

-- the different rows are the rows of the middle vertices, in order
pub b_rows : (t : Levels) → IsGood t → (l i : ℕ) → i < count t (suc l) → map (row (pattern t l)) (node t (suc l) i).connections ≡ distinct_rows l (pattern t (suc l) i)
b_rows t g l i h =
    let c = rows_canon (count t l) (points l) (exits t l) (pattern t l) (level_holds t g l) (node t (suc l) i) (g.good_nodes l i h) in
    (canon_is same_ranks ranks_decide (rows l (pattern t (suc l) i)) (pattern t l (node t (suc l) i).a_callee) (map (row (pattern t l)) (node t (suc l) i).connections)
    (subst (λ (rs : List (List ℕ)). IsCanon rs (pattern t l (node t (suc l) i).a_callee) (map (row (pattern t l)) (node t (suc l) i).connections)) (sym (rows_are t g l i h)) c)).1

-- a callee has the `rgs` of its row, and its return list is the row's different exits
pub b_law : (t : Levels) → IsGood t → (l i j : ℕ) → i < count t (suc l) → j < length (node t (suc l) i).connections
    → let b = connection_at (node t (suc l) i).connections j in (pattern t l b.callee ≡ rgs nat_eq (row (pattern t l) b)) × (b.returns ≡ distinct nat_eq (row (pattern t l) b))
b_law t g l i j h hj =
    let b = connection_at (node t (suc l) i).connections j in
    canon_is nat_eq nat_decides (row (pattern t l) b) (pattern t l b.callee) b.returns (row_canon (count t l) (points l) (exits t l) (pattern t l) (level_holds t g l) b ((g.good_nodes l i h).good_connections j hj))

HasPatterns-append : (t : Levels) (xs ys : List Pattern) → HasPatterns t xs → HasPatterns t ys → HasPatterns t (xs ++ ys)
HasPatterns-append t [] ys a b = b
HasPatterns-append t (x ∷ xs) ys a b = (a.0, HasPatterns-append t xs ys a.1 b)

all_callees : (t : Levels) (l : ℕ) (bs : List Connection) → ((j : ℕ) → j < length bs → HasPatterns t (sub l (rgs nat_eq (row (pattern t l) (connection_at bs j))))) → HasPatterns t (flat_map (sub l) (map (rgs nat_eq) (map (row (pattern t l)) bs)))
all_callees t l [] h = tt
all_callees t l (b ∷ bs) h = HasPatterns-append t (sub l (rgs nat_eq (row (pattern t l) b))) (flat_map (sub l) (map (rgs nat_eq) (map (row (pattern t l)) bs))) (h 0 (omega arith)) (all_callees t l bs (λ j lj. h (suc j) (omega (arith, lj))))

-- a good table holds all that its patterns are made of
pub sub_in : (t : Levels) → IsGood t → (l i : ℕ) → i < count t l → HasPatterns t (sub l (pattern t l i))
unfolding sub
sub_in t g zero i h = ((i, h, refl), tt)
sub_in t g (suc l) i h =
    let d = node t (suc l) i in
    let p = pattern t (suc l) i in
    let good : IsGoodNode (count t l) (exits t l) d = g.good_nodes l i h in
    let a : HasPatterns t (sub l (a_pattern l p)) = subst (λ (q : List ℕ). HasPatterns t (sub l q)) (a_law t g l i h) (sub_in t g l d.a_callee good.callee_exists) in
    let b : HasPatterns t (flat_map (sub l) (map (rgs nat_eq) (map (row (pattern t l)) d.connections))) = all_callees t l d.connections
    (λ j lj. subst (λ (q : List ℕ). HasPatterns t (sub l q)) (b_law t g l i j h lj).0 (sub_in t g l (connection_at d.connections j).callee (good.good_connections j lj).callee_exists)) in (
      (i, h, refl),
      HasPatterns-append t (sub l (a_pattern l p)) (flat_map (sub l) (b_patterns l p)) a
          (subst (λ (rs : List (List ℕ)). HasPatterns t (flat_map (sub l) (map (rgs nat_eq) rs))) (b_rows t g l i h) b),
    )

map_at : {A B : Type 0} (f g : A → B) (d : A) (xs : List A) → ((j : ℕ) → j < length xs → f (get_or xs j d) ≡ g (get_or xs j d)) → map f xs ≡ map g xs
map_at f g d [] h = refl
map_at f g d (x ∷ xs) h =
    let top : f x ≡ g x = h 0 (omega arith) in
    let rest : map f xs ≡ map g xs = map_at f g d xs (λ j l. h (suc j) (omega (arith, l))) in
    cc

-- the callees of the middle vertices have the B-patterns, in order
pub callees_law : (t : Levels) → IsGood t → (l i : ℕ) → i < count t (suc l) → map (λ b. pattern t l b.callee) (node t (suc l) i).connections ≡ b_patterns l (pattern t (suc l) i)
callees_law t g l i h =
    map_at (λ b. pattern t l b.callee) (λ b. rgs nat_eq (row (pattern t l) b)) no_connection (node t (suc l) i).connections (λ j lj. (b_law t g l i j h lj).0)
    ∙ sym (map_map (rgs nat_eq) (row (pattern t l)) (node t (suc l) i).connections) ∙ ap (map (rgs nat_eq)) (b_rows t g l i h)

-- the return tuples of the middle vertices are the return lists, in order
pub returns_law : (t : Levels) → IsGood t → (l i : ℕ) → i < count t (suc l) → map (λ b. b.returns) (node t (suc l) i).connections ≡ return_lists l (pattern t (suc l) i)
returns_law t g l i h =
    map_at (λ b. b.returns) (λ b. distinct nat_eq (row (pattern t l) b)) no_connection (node t (suc l) i).connections (λ j lj. (b_law t g l i j h lj).1)
    ∙ sym (map_map (distinct nat_eq) (row (pattern t l)) (node t (suc l) i).connections) ∙ ap (map (distinct nat_eq)) (b_rows t g l i h)

-- a pattern is its own rgs
pub pattern_own : (t : Levels) → IsGood t → (l i : ℕ) → i < count t l → rgs nat_eq (pattern t l i) ≡ pattern t l i
pattern_own t g l i h = rgs_of_grown (pattern t l i) ((level_holds t g l).grows i h)

-- each exit is reached, by an assignment's number
pub exit_reached : (t : Levels) → IsGood t → (l i : ℕ) → i < count t l → (e : ℕ) → e < exits t l i → (n : ℕ) × (n < points l) × (slice_get (pattern t l i) n ≡ Some e)
exit_reached t g l i h e he =
    let u = level_holds t g l in
    let r = reached_at 0 (pattern t l i) (u.grows i h) e (omega arith) (omega (arith, he, u.reaches i h)) in
    (r.0, omega (arith, r.1, u.points i h), slice_get-get_or (pattern t l i) r.0 0 r.1 ∙ ap Some r.2)
