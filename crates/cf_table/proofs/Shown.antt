use Rattle.std.proofs.Common.{◌≡◌, ◌≢◌, ℕ, zero, suc, ◌<◌, List, [], ◌∷◌, ◌++◌, length, map, Some, set, get_or, refl, sym, ◌∙◌, ap, subst, arith, inl, inr}
use Rattle.std.specs.List.{slice_get, All}
use Rattle.std.proofs.lemmas.Bool.{cases_eq}
use Rattle.std.proofs.lemmas.Option.{slice_get-get_or, get_or_from_slice_get, slice_get_within}
use Rattle.std.proofs.lemmas.List.{length-map, length-set, get_or-map, get_or_default, get_or-set_same, get_or-set_other, map-set, map_push, get_or_push, length_push}
use Rattle.std.proofs.lemmas.List.Elements.{All-head, All-tail, All-cons, All-push, All-weaker}
use Rattle.cf_model.specs.Renumbering.{width, AllDiffer, IsNew}
use Rattle.cf_model.specs.Diagrams.{Levels, Node, Connection, no_node, nodes, count, node, exits, all_returns, with_node, IsGood, IsGoodNode}
use Rattle.cf_model.proofs.Growing.{with_node_good}
use Rattle.cf_tuple.specs.Books.{Lengthens}
use Rattle.cf_tuple.proofs.BookLaws.{kept_at}
use Rattle.cf_table.specs.declared.BConn.{BConn}
use Rattle.cf_table.specs.declared.level.PackedConnection.{PackedConnection}
use Rattle.cf_table.specs.Groupings.{connection_of, node_with, LacksNode, IsInterned}
use Rattle.cf_table.specs.Kept.{Kept, ids, packed, shown_connection, node_by, shown_node, shown_level, shown_levels, IsPackedOver, IsKept, Holds, IsAdded}
use Rattle.cf_table.proofs.Told.{same_conn}

abbrev joined : ℕ → List ℕ → Connection
joined t r = record { callee = t; returns = r }

abbrev made : ℕ → List Connection → Node
made a bs = record { a_callee = a; connections = bs }

-- a level as it is shown
pub shown_at : (levels : List (List Kept)) (tuples : List (List ℕ)) (l : ℕ) (v : List Kept) → l < length levels → nodes (shown_levels levels tuples) (suc l) ≡ shown_level tuples (get_or levels l v)
shown_at levels tuples l v h = get_or-map (shown_level tuples) levels l v [] h

-- the node of packed B-connections
pub packed_node : (tuples : List (List ℕ)) (a : ℕ) (bs : List BConn) → node_by tuples a (map packed bs) ≡ node_with tuples a bs
packed_node tuples a bs = ap (λ (cs : List Connection). made a cs) (each bs)
  where
    each : (bs : List BConn) → map (shown_connection tuples) (map packed bs) ≡ map (connection_of tuples) bs
    each [] = refl
    each (b ∷ bs) = ap (λ (cs : List Connection). connection_of tuples b ∷ cs) (each bs)

pub all_packed : (tuples : List (List ℕ)) (bs : List BConn) → All (λ b. b.ret.at < length tuples) bs → All (IsPackedOver tuples) (map packed bs)
all_packed tuples [] h = λ k e l. absurd (omega (arith, l))
all_packed tuples (b ∷ bs) h = All-cons (IsPackedOver tuples) (packed b) (map packed bs) (All-head (λ b. b.ret.at < length tuples) b bs h) (all_packed tuples bs (All-tail (λ b. b.ret.at < length tuples) b bs h))

shown_ids : (tuples : List (List ℕ)) (ks : List Kept) (i : ℕ) (a : ℕ) (bs : List PackedConnection) → slice_get (map ids ks) i ≡ Some (a, bs) → (i < length (map (shown_node tuples) ks)) × (get_or (map (shown_node tuples) ks) i no_node ≡ node_by tuples a bs)
shown_ids tuples [] i a bs h = cc
shown_ids tuples (k ∷ ks) zero a bs h =
    let p : ids k ≡ (a, bs) = cc in
    (omega arith, ap (λ (q : ℕ × List PackedConnection). node_by tuples q.0 q.1) p)
shown_ids tuples (k ∷ ks) (suc i) a bs h =
    let r = shown_ids tuples ks i a bs h in (omega (arith, r.0), r.1)

pub found : (levels : List (List Kept)) (tuples : List (List ℕ)) (l : ℕ) (v : List Kept) → l < length levels → (i a : ℕ) (bs : List PackedConnection) → slice_get (map ids (get_or levels l v)) i ≡ Some (a, bs)
    → (i < count (shown_levels levels tuples) (suc l)) × (node (shown_levels levels tuples) (suc l) i ≡ node_by tuples a bs)
found levels tuples l v h i a bs q =
    let r = shown_ids tuples (get_or levels l v) i a bs q in
    let e = shown_at levels tuples l v h in
    (omega (arith, r.0, ap length e), ap (λ (ns : List Node). get_or ns i no_node) e ∙ r.1)

-- owned connections of one level are told by what they show
pub connection_tells : (tuples : List (List ℕ)) → AllDiffer tuples → (x y : BConn) → x.«to».level ≡ y.«to».level → x.ret.at < length tuples → y.ret.at < length tuples → connection_of tuples x ≡ connection_of tuples y → x ≡ y
connection_tells tuples d x y level hx hy e =
    let ret : x.ret.at ≡ y.ret.at = d x.ret.at y.ret.at (get_or tuples x.ret.at []) (slice_get-get_or tuples x.ret.at [] hx) (slice_get-get_or tuples y.ret.at [] hy ∙ ap Some (ap (λ (c : Connection). c.returns) (sym e))) in
    same_conn x y level (ap (λ (c : Connection). c.callee) e) ret

pub same_packed : (p q : PackedConnection) → p.callee ≡ q.callee → p.returns ≡ q.returns → p ≡ q
same_packed p q a b = ap (λ (x : ℕ). made' x p.returns) a ∙ ap (λ (x : ℕ). made' q.callee x) b
  where
    made' : ℕ → ℕ → PackedConnection
    made' c r = record { callee = c; returns = r }

packed_tells : (tuples : List (List ℕ)) → AllDiffer tuples → (x y : PackedConnection) → x.returns < length tuples → y.returns < length tuples → shown_connection tuples x ≡ shown_connection tuples y → x ≡ y
packed_tells tuples d x y hx hy e =
    same_packed x y (ap (λ (c : Connection). c.callee) e)
    (d x.returns y.returns (get_or tuples x.returns []) (slice_get-get_or tuples x.returns [] hx) (slice_get-get_or tuples y.returns [] hy ∙ ap Some (ap (λ (c : Connection). c.returns) (sym e))))

connections_tell : (tuples : List (List ℕ)) → AllDiffer tuples → (xs ys : List PackedConnection) → All (IsPackedOver tuples) xs → All (IsPackedOver tuples) ys → map (shown_connection tuples) xs ≡ map (shown_connection tuples) ys → xs ≡ ys
connections_tell tuples d [] [] ax ay e = refl
connections_tell tuples d [] (y ∷ ys) ax ay e = cc
connections_tell tuples d (x ∷ xs) [] ax ay e = cc
connections_tell tuples d (x ∷ xs) (y ∷ ys) ax ay e =
    let head : shown_connection tuples x ≡ shown_connection tuples y = cc in
    let rest : map (shown_connection tuples) xs ≡ map (shown_connection tuples) ys = cc in
    let top : x ≡ y = packed_tells tuples d x y (All-head (IsPackedOver tuples) x xs ax) (All-head (IsPackedOver tuples) y ys ay) head in
    let r : xs ≡ ys = connections_tell tuples d xs ys (All-tail (IsPackedOver tuples) x xs ax) (All-tail (IsPackedOver tuples) y ys ay) rest in
    cc

unfound_in : (tuples : List (List ℕ)) → AllDiffer tuples → (ks : List Kept) → All (IsKept tuples) ks → (a : ℕ) (bs : List PackedConnection) → All (IsPackedOver tuples) bs → IsNew (map ids ks) (a, bs)
    → (i : ℕ) → i < length (map (shown_node tuples) ks) → get_or (map (shown_node tuples) ks) i no_node ≢ node_by tuples a bs
unfound_in tuples d [] ak a bs ab new i h q = absurd (omega (arith, h))
unfound_in tuples d (k ∷ ks) ak a bs ab new zero h q =
    let callee : k.a_callee ≡ a = ap (λ (n : Node). n.a_callee) q in
    let same : k.connections ≡ bs = connections_tell tuples d k.connections bs (All-head (IsKept tuples) k ks ak).connections ab (ap (λ (n : Node). n.connections) q) in
    new 0 (ap Some (ap (λ (x : ℕ). (x, k.connections)) callee ∙ ap (λ (x : List PackedConnection). (a, x)) same))
unfound_in tuples d (k ∷ ks) ak a bs ab new (suc i) h q =
    unfound_in tuples d ks (All-tail (IsKept tuples) k ks ak) a bs ab (λ j e. new (suc j) e) i (omega (arith, h)) q

pub unfound : (levels : List (List Kept)) (tuples : List (List ℕ)) → Holds levels tuples → (l : ℕ) (v : List Kept) → l < length levels → (a : ℕ) (bs : List PackedConnection) → All (IsPackedOver tuples) bs
    → IsNew (map ids (get_or levels l v)) (a, bs) → LacksNode (shown_levels levels tuples) (suc l) (node_by tuples a bs)
unfound levels tuples w l v h a bs ab new i hi q =
    let e = shown_at levels tuples l v h in
    unfound_in tuples w.differ (get_or levels l v) (w.kept l v h) a bs ab new i (omega (arith, hi, ap length e)) (ap (λ (ns : List Node). get_or ns i no_node) (sym e) ∙ q)

-- a longer book shows the same nodes
connections_kept : (t u : List (List ℕ)) → Lengthens t u → (xs : List PackedConnection) → All (IsPackedOver t) xs → map (shown_connection u) xs ≡ map (shown_connection t) xs
connections_kept t u w [] ax = refl
connections_kept t u w (x ∷ xs) ax =
    let top : shown_connection u x ≡ shown_connection t x = ap (λ (r : List ℕ). joined x.callee r) (kept_at t u w x.returns [] (All-head (IsPackedOver t) x xs ax)) in
    let r : map (shown_connection u) xs ≡ map (shown_connection t) xs = connections_kept t u w xs (All-tail (IsPackedOver t) x xs ax) in
    cc

node_kept : (t u : List (List ℕ)) → Lengthens t u → (k : Kept) → IsKept t k → shown_node u k ≡ shown_node t k
node_kept t u w k h = ap (λ (c : List Connection). made k.a_callee c) (connections_kept t u w k.connections h.connections)

level_kept : (t u : List (List ℕ)) → Lengthens t u → (ks : List Kept) → All (IsKept t) ks → map (shown_node u) ks ≡ map (shown_node t) ks
level_kept t u w [] ak = refl
level_kept t u w (k ∷ ks) ak =
    let top : shown_node u k ≡ shown_node t k = node_kept t u w k (All-head (IsKept t) k ks ak) in
    let r : map (shown_node u) ks ≡ map (shown_node t) ks = level_kept t u w ks (All-tail (IsKept t) k ks ak) in
    cc

levels_kept : (t u : List (List ℕ)) → Lengthens t u → (levels : List (List Kept)) → ((i : ℕ) (d : List Kept) → i < length levels → All (IsKept t) (get_or levels i d)) → map (shown_level u) levels ≡ map (shown_level t) levels
levels_kept t u w [] k = refl
levels_kept t u w (v ∷ vs) k =
    let top : shown_level u v ≡ shown_level t v = level_kept t u w v (k 0 v (omega arith)) in
    let r : map (shown_level u) vs ≡ map (shown_level t) vs = levels_kept t u w vs (λ i d h. k (suc i) d (omega (arith, h))) in
    cc

pub shown_by_longer : (levels : List (List Kept)) (t u : List (List ℕ)) → Holds levels t → Lengthens t u → shown_levels levels u ≡ shown_levels levels t
shown_by_longer levels t u h w = ap (λ (ns : Levels). (no_node ∷ no_node ∷ []) ∷ ns) (levels_kept t u w levels h.kept)

-- a kept grouping still is with a longer book
longer_kept : (t u : List (List ℕ)) → Lengthens t u → (k : Kept) → IsKept t k → IsKept u k
longer_kept t u w k h = record {
  connections = All-weaker (IsPackedOver t) (IsPackedOver u) (λ b q. omega (arith, q, w.more)) k.connections h.connections;
  counted = h.counted ∙ ap (λ (c : List Connection). width 0 (all_returns c)) (sym (connections_kept t u w k.connections h.connections));
}

pub holds_longer : (levels : List (List Kept)) (t u : List (List ℕ)) → Holds levels t → Lengthens t u → AllDiffer u → Holds levels u
holds_longer levels t u h w d = record {
  seven = h.seven;
  good = subst (λ (n : Levels). IsGood n) (sym (shown_by_longer levels t u h w)) h.good;
  kept = λ l v lt. All-weaker (IsKept t) (IsKept u) (longer_kept t u w) (get_or levels l v) (h.kept l v lt);
  differ = d;
}

-- the levels after a push
pub pushed : (levels : List (List Kept)) (tuples : List (List ℕ)) (l : ℕ) (v w : List Kept) (k : Kept) → l < length levels → v ≡ get_or levels l v → w ≡ v ++ k ∷ []
    → shown_levels (set levels l w) tuples ≡ with_node (shown_levels levels tuples) (suc l) (shown_node tuples k)
pushed levels tuples l v w k h e q =
    ap (λ (ns : Levels). (no_node ∷ no_node ∷ []) ∷ ns) (map-set (shown_level tuples) levels l w
    ∙ ap (λ (ns : List Node). set (map (shown_level tuples) levels) l ns) (ap (λ (ks : List Kept). map (shown_node tuples) ks) q ∙ map_push (shown_node tuples) v k ∙ ap (λ (ns : List Node). ns ++ shown_node tuples k ∷ []) (ap (shown_level tuples) e ∙ sym (shown_at levels tuples l v h))))

pub holds_pushed : (levels : List (List Kept)) (tuples : List (List ℕ)) (l : ℕ) (v w : List Kept) (k : Kept) → l < length levels → v ≡ get_or levels l v → w ≡ v ++ k ∷ []
    → Holds levels tuples → IsGoodNode (count (shown_levels levels tuples) l) (exits (shown_levels levels tuples) l) (shown_node tuples k) → LacksNode (shown_levels levels tuples) (suc l) (shown_node tuples k) → IsKept tuples k
    → Holds (set levels l w) tuples
holds_pushed levels tuples l v w k h e q holds good new kept = record {
  seven = length-set levels l w ∙ holds.seven;
  good = subst (λ (n : Levels). IsGood n) (sym (pushed levels tuples l v w k h e q))
      (with_node_good (shown_levels levels tuples) l (shown_node tuples k) holds.good (omega (arith, h, length-map levels (shown_level tuples))) good new);
  kept = λ m d hm. elim (cases_eq m l) [
    | inl s ↦ subst (λ (n : ℕ). All (IsKept tuples) (get_or (set levels l w) n d)) (sym s)
        (subst (λ (x : List Kept). All (IsKept tuples) x) (sym (get_or-set_same levels l w d h))
        (subst (λ (ks : List Kept). All (IsKept tuples) ks) (sym q)
        (All-push (IsKept tuples) v k (subst (λ (x : List Kept). All (IsKept tuples) x) (sym e) (holds.kept l v h)) kept)))
    | inr o ↦ subst (λ (x : List Kept). All (IsKept tuples) x) (sym (get_or-set_other levels l m w d o)) (holds.kept m d (omega (arith, hm, length-set levels l w)))
  ];
  differ = holds.differ;
}

-- what interning leaves, where no node was equal
pub interned : (before now : List (List Kept)) (tuples : List (List ℕ)) (l : ℕ) (k : Kept) (it : Node) (n : ℕ) → n ≡ suc l → l < 7 → Holds before tuples → shown_node tuples k ≡ it → All (IsPackedOver tuples) k.connections
    → k.exits ≡ width 0 (all_returns it.connections)
    → IsGoodNode (count (shown_levels before tuples) l) (exits (shown_levels before tuples) l) it → LacksNode (shown_levels before tuples) n it
    → IsAdded before now l k
    → Holds now tuples × (shown_levels now tuples ≡ with_node (shown_levels before tuples) n it)
interned before now tuples l k it n e lt holds lk ats counts good new q =
    let w = get_or before l [] ++ k ∷ [] in
    let h : l < length before = omega (arith, lt, holds.seven) in
    let new' : LacksNode (shown_levels before tuples) (suc l) (shown_node tuples k) = subst (λ (m : Node). LacksNode (shown_levels before tuples) (suc l) m) (sym lk) (subst (λ (m : ℕ). LacksNode (shown_levels before tuples) m it) e new) in
    let good' = subst (λ (m : Node). IsGoodNode (count (shown_levels before tuples) l) (exits (shown_levels before tuples) l) m) (sym lk) good in
    let kept : IsKept tuples k = record {
      connections = ats;
      counted = counts ∙ ap (λ (m : Node). width 0 (all_returns m.connections)) (sym lk);
    } in
    let v = get_or before l [] in
    let v_is : v ≡ get_or before l v = get_or_default before l [] v h in (
      subst (λ (ks : List (List Kept)). Holds ks tuples) (sym q) (holds_pushed before tuples l v w k h v_is refl holds good' new' kept),
      ap (λ (ks : List (List Kept)). shown_levels ks tuples) q ∙ pushed before tuples l v w k h v_is refl
          ∙ ap (λ (m : Node). with_node (shown_levels before tuples) (suc l) m) lk ∙ ap (λ (m : ℕ). with_node (shown_levels before tuples) m it) (sym e),
    )

-- the new node stands at the end of its level
pub new_node : (t u : Levels) (l : ℕ) (n : Node) (at : ℕ) → l < length t → u ≡ with_node t l n → LacksNode t l n → at ≡ count t l → IsInterned t u l n at
new_node t u l n at h e new a =
    let q : nodes u l ≡ nodes t l ++ n ∷ [] = ap (λ (x : Levels). nodes x l) e ∙ get_or-set_same t l (nodes t l ++ n ∷ []) [] h in
    record {
      there = omega (arith, a, ap length q, length_push (nodes t l) n);
      is_it = ap (λ (xs : List Node). get_or xs at no_node) q ∙ get_or_push (nodes t l) n no_node at (sym a);
      grown = inr (e, new);
    }

-- a kept grouping, as it is shown
pub shown_read : (ks : List (List Kept)) (book : List (List ℕ)) (l i : ℕ) (k : Kept) → l < length ks → i < count (shown_levels ks book) (suc l) → slice_get (get_or ks l []) i ≡ Some k → shown_node book k ≡ node (shown_levels ks book) (suc l) i
shown_read ks book l i k h hi e =
    let q = shown_at ks book l [] h in
    let r : get_or (get_or ks l []) i k ≡ k = get_or_from_slice_get (get_or ks l []) i k k e in
    ap (shown_node book) (sym r) ∙ sym (get_or-map (shown_node book) (get_or ks l []) i k no_node (slice_get_within (get_or ks l []) i k e)) ∙ ap (λ (ns : List Node). get_or ns i no_node) (sym q)

pub is_kept : (ks : List (List Kept)) (book : List (List ℕ)) → Holds ks book → (l i : ℕ) (k : Kept) → l < length ks → slice_get (get_or ks l []) i ≡ Some k → IsKept book k
is_kept ks book holds l i k h e = subst (λ (x : Kept). IsKept book x) (get_or_from_slice_get (get_or ks l []) i k k e) (holds.kept l [] h i k (slice_get_within (get_or ks l []) i k e))
