use Rattle.std.proofs.Common.{◌≡◌, ◌≢◌, ℕ, zero, suc, ◌<◌, ◌+◌, ◌-◌, List, [], ◌∷◌, map, refl, sym, ◌∙◌, ap, subst, length, get_or, arith, add-one, Some, Bool, true, false, ◌&&◌, nat_eq}
use Rattle.std.specs.List.{slice_get, zip, All}
use Rattle.std.proofs.lemmas.List.{length-map}
use Rattle.std.proofs.lemmas.Option.{same_Some}
use Rattle.std.proofs.lemmas.Bool.{false≢true}
use Rattle.cf_model.proofs.RenumberingLaws.{nat_decides}
use Rattle.cf_model.specs.Patterns.{sub}
use Rattle.cf_model.specs.Renumbering.{AllDiffer, IsApart, IsCanon}
use Rattle.cf_model.specs.FlatFunctions.{points}
use Rattle.cf_model.specs.Diagrams.{Levels, Node, Connection, exit_at, connection_at, count, node, row, spell, pattern, exits, IsGoodConnection, IsGood, Extends}
use Rattle.cf_model.proofs.Growth.{Under, Under-width}
use Rattle.cf_model.proofs.CanonLaws.{canon_none, canon_known, canon_new}
use Rattle.cf_model.proofs.Canonicity.{level_holds, pattern-above, row_tells, row_points}
use Rattle.cf_model.proofs.Growing.{pattern_kept, exits_kept}
use Rattle.cf_table.specs.declared.Gid.{Gid}
use Rattle.cf_table.specs.declared.BConn.{BConn}
use Rattle.cf_table.specs.Groupings.{Groupings, connection_of}
use Rattle.cf_table.specs.Goodness.{IsGoodOver}
use Rattle.cf_table.proofs.Told.{good_node, base_exits}
use Rattle.cf_table.proofs.Differ.{differ_apart}
use Rattle.cf_build.specs.Assembling.{row_of, row_labels, labels_over, HasCanon, AddsOnly}
use Rattle.cf_pair.specs.Products.{returned2, pair_word, Lists, ListEach, AddsOnlyIn}
use Rattle.cf_pair.proofs.Zips.{Both, all_zip, all_labels_of, differ_map, even_under, zip_words, zip_map, zip_tells, length_zip_even}
use Rattle.cf_pair.proofs.Rows.{row_listed, labels_listed, each_row, assembled_added}

-- the pattern of a grouping above level 0
pub spelled_at : (t : Levels) (k l i : ℕ) → l + 1 ≡ k → pattern t k i ≡ spell (pattern t l) (node t k i)
spelled_at t k l i e = subst (λ (m : ℕ). pattern t m i ≡ spell (pattern t l) (node t m i)) (sym (add-one l) ∙ e) (pattern-above t l i)

-- a B-connection that was read in a table that has grown is a good one, and its row is that of the node's
pub read_good : (t s : Groupings) → IsGood s.levels → Extends t.levels s.levels → (k l i j : ℕ) → l + 1 ≡ k → i < count t.levels k → j < length (node t.levels k i).connections
    → (b : BConn) → b.«to».level + 1 ≡ k → connection_of s.tuples b ≡ connection_at (node s.levels k i).connections j → b.ret.at < length s.tuples → IsGoodOver s l b
read_good t s gs x k l i j e hi hj b lev is_it listed =
    let own : i < count s.levels k = omega (arith, hi, x.more k) in
    let n = good_node s.levels gs k l i e own in
    let lj : j < length (node s.levels k i).connections = omega (arith, hj, ap (λ (d : Node). length d.connections) (x.kept k i hi)) in
    record {
      over = record { level = omega (arith, lev, e); tuple = listed };
      good = subst (λ (c : Connection). IsGoodConnection (count s.levels l) (exits s.levels l) c) (sym is_it) (n.good_connections j lj);
    }

pub read_row : (t s : Groupings) → IsGood t.levels → Extends t.levels s.levels → (k l i j : ℕ) → l + 1 ≡ k → i < count t.levels k → j < length (node t.levels k i).connections
    → (b : BConn) → connection_of s.tuples b ≡ connection_at (node s.levels k i).connections j → row (pattern s.levels l) (connection_of s.tuples b) ≡ row (pattern t.levels l) (connection_at (node t.levels k i).connections j)
read_row t s gt x k l i j e hi hj b is_it =
    let c = connection_at (node t.levels k i).connections j in
    let same : connection_of s.tuples b ≡ c = is_it ∙ ap (λ (d : Node). connection_at d.connections j) (x.kept k i hi) in
    let good = (good_node t.levels gt k l i e hi).good_connections j hj in
    ap (row (pattern s.levels l)) same ∙ ap (map (exit_at c)) (pattern_kept t.levels s.levels gt x l c.callee good.callee_exists)

pub callee_under : (t : Levels) → IsGood t → (l : ℕ) (b : Connection) → IsGoodConnection (count t l) (exits t l) b → Under (length b.returns) (pattern t l b.callee)
callee_under t g l b good = Under-width 0 (length b.returns) (pattern t l b.callee) (omega (arith, (level_holds t g l).reaches b.callee good.callee_exists, good.entries))

-- the pairs of two callees' exits are in range of the return tuples
pub pairs_in : (t : Levels) → IsGood t → (l : ℕ) (b c : Connection) → IsGoodConnection (count t l) (exits t l) b → IsGoodConnection (count t l) (exits t l) c → (ranks : List ℕ) (ps : List (ℕ × ℕ)) → IsCanon (zip (pattern t l b.callee) (pattern t l c.callee)) ranks ps
    → All (Both (length b.returns) (length c.returns)) ps
pairs_in t g l b c gb gc ranks ps k =
    all_labels_of (Both (length b.returns) (length c.returns)) (zip (pattern t l b.callee) (pattern t l c.callee)) ranks ps (0, 0) k
    (all_zip (length b.returns) (length c.returns) (pattern t l b.callee) (pattern t l c.callee) (callee_under t g l b gb) (callee_under t g l c gc))

abbrev two : ℕ → ℕ → ℕ × ℕ
two x y = (x, y)

same_pair : (x y : ℕ × ℕ) → x.0 ≡ y.0 → x.1 ≡ y.1 → x ≡ y
same_pair x y a b = ap (λ (u : ℕ). two u x.1) a ∙ ap (λ (u : ℕ). two y.0 u) b

-- the row that is made of two B-connections
pub pair_lists : (t u : Levels) → IsGood t → IsGood u → (l : ℕ) (b c : Connection) → IsGoodConnection (count t l) (exits t l) b → IsGoodConnection (count t l) (exits t l) c → («to» : Gid) (ps : List (ℕ × ℕ)) (labels : List (ℕ × ℕ))
    → HasCanon u «to» l (zip (pattern t l b.callee) (pattern t l c.callee)) ps → labels ≡ map (returned2 b.returns c.returns) ps → Lists u l (zip (row (pattern t l) b) (row (pattern t l) c)) («to», labels)
pair_lists t u gt gu l b c gb gc g ps labels h e =
    let own : g.at < count u l = subst (λ (m : ℕ). g.at < count u m) h.level h.there in
    let canon : IsCanon (zip (pattern t l b.callee) (pattern t l c.callee)) (pattern u l g.at) ps = subst (λ (m : ℕ). IsCanon (zip (pattern t l b.callee) (pattern t l c.callee)) (pattern u m g.at) ps) h.level h.canon in
    record {
      is_row = record { level = h.level; owned = own; labelled = ap length e ∙ length-map ps (returned2 b.returns c.returns) ∙ sym canon.reached ∙ (level_holds u gu l).reaches g.at own };
      labels = row_listed (returned2 b.returns c.returns) (zip (pattern t l b.callee) (pattern t l c.callee)) (pattern u l g.at) ps labels (0, 0) canon e
          ∙ sym (zip_map (exit_at b) (exit_at c) (pattern t l b.callee) (pattern t l c.callee));
      differ = subst (λ (v : List (ℕ × ℕ)). AllDiffer v) (sym e)
          (differ_map (returned2 b.returns c.returns) (Both (length b.returns) (length c.returns)) ps (0, 0) (pairs_in t gt l b c gb gc (pattern u l g.at) ps canon)
          (λ x y hx hy q. same_pair x y (gb.once x.0 y.0 hx.0 hy.0 (ap (λ (v : ℕ × ℕ). v.0) q)) (gc.once x.1 y.1 hx.1 hy.1 (ap (λ (v : ℕ × ℕ). v.1) q)))
          canon.differ);
    }

-- What the product of two groupings knows: `t` at entry, `u` after the A-callees' product, `v` after the rows.
pub record Pairing (t u v : Levels) (k l g h a b c : ℕ) (ms : List (ℕ × ℕ)) (rows : List (Gid × List (ℕ × ℕ))) : Type 0 where
  pub good : IsGood t
  pub below : l + 1 ≡ k
  pub first : g < count t k
  pub second : h < count t k
  pub a_is : a ≡ (node t k g).a_callee
  pub b_is : b ≡ (node t k h).a_callee
  pub good1 : IsGood u
  pub extends1 : Extends t u
  pub callee_exists : c < count u l
  pub canon : IsCanon (zip (pattern t l a) (pattern t l b)) (pattern u l c) ms
  pub good2 : IsGood v
  pub extends2 : Extends u v
  pub listed : ListEach v l (λ i. pair_word (pattern u l) (node u k g).connections (node u k h).connections (get_or ms i (0, 0))) (length ms) rows

pub callee_kept : (t u : Levels) → IsGood t → Extends t u → (k l i a : ℕ) → l + 1 ≡ k → i < count t k → a ≡ (node t k i).a_callee → pattern t l a ≡ pattern u l (node u k i).a_callee
callee_kept t u g x k l i a e hi ae =
    ap (pattern t l) ae ∙ sym (pattern_kept t u g x l (node t k i).a_callee (good_node t g k l i e hi).callee_exists) ∙ ap (λ (n : Node). pattern u l n.a_callee) (sym (x.kept k i hi))

-- the canon of the middle vertices, in the table that the rows are read in
pub middles_canon : (t u : Levels) → IsGood t → Extends t u → (k l g h a b : ℕ) (p : List ℕ) (ms : List (ℕ × ℕ)) → l + 1 ≡ k → g < count t k → h < count t k → a ≡ (node t k g).a_callee → b ≡ (node t k h).a_callee → IsCanon (zip (pattern t l a) (pattern t l b)) p ms
    → IsCanon (zip (pattern u l (node u k g).a_callee) (pattern u l (node u k h).a_callee)) p ms
middles_canon t u gt x k l g h a b p ms e hg hh ae be c =
    subst (λ (y : List ℕ). IsCanon (zip (pattern u l (node u k g).a_callee) y) p ms) (callee_kept t u gt x k l h b e hh be)
    (subst (λ (y : List ℕ). IsCanon (zip y (pattern t l b)) p ms) (callee_kept t u gt x k l g a e hg ae) c)

-- the middle vertices are there
pub middles_in : (u : Levels) → IsGood u → (k l g h : ℕ) (p : List ℕ) (ms : List (ℕ × ℕ)) → l + 1 ≡ k → g < count u k → h < count u k → IsCanon (zip (pattern u l (node u k g).a_callee) (pattern u l (node u k h).a_callee)) p ms
    → All (Both (length (node u k g).connections) (length (node u k h).connections)) ms
middles_in u gu k l g h p ms e hg hh c =
    let ng = good_node u gu k l g e hg in
    let nh = good_node u gu k l h e hh in
    let w = level_holds u gu l in
    let n = length (node u k g).connections in
    let m = length (node u k h).connections in
    let a = pattern u l (node u k g).a_callee in
    let b = pattern u l (node u k h).a_callee in
    all_labels_of (Both n m) (zip a b) p ms (0, 0) c
    (all_zip n m a b (Under-width 0 n a (omega (arith, w.reaches (node u k g).a_callee ng.callee_exists, ng.middles))) (Under-width 0 m b (omega (arith, w.reaches (node u k h).a_callee nh.callee_exists, nh.middles))))

-- the words at two middle vertices, which differ where one of those does
pub pair_words : (u : Levels) → IsGood u → (k l g h : ℕ) (p : List ℕ) (ms : List (ℕ × ℕ)) → l + 1 ≡ k → g < count u k → h < count u k → IsCanon (zip (pattern u l (node u k g).a_callee) (pattern u l (node u k h).a_callee)) p ms
    → ((j : ℕ) → j < length ms → length (pair_word (pattern u l) (node u k g).connections (node u k h).connections (get_or ms j (0, 0))) ≡ points l)
    × IsApart (λ j. pair_word (pattern u l) (node u k g).connections (node u k h).connections (get_or ms j (0, 0))) (length ms)
pair_words u gu k l g h p ms e hg hh c =
    let ng = good_node u gu k l g e hg in
    let nh = good_node u gu k l h e hh in
    let w = level_holds u gu l in
    let bs = (node u k g).connections in
    let cs = (node u k h).connections in
    let range = middles_in u gu k l g h p ms e hg hh c in
    let left : (m : ℕ) → m < length bs → length (row (pattern u l) (connection_at bs m)) ≡ points l = λ m lm. row_points (count u l) (points l) (exits u l) (pattern u l) w (connection_at bs m) (ng.good_connections m lm) in
    let right : (m : ℕ) → m < length cs → length (row (pattern u l) (connection_at cs m)) ≡ points l = λ m lm. row_points (count u l) (points l) (exits u l) (pattern u l) w (connection_at cs m) (nh.good_connections m lm) in (
      λ j lj. (let r = range j (0, 0) lj in length_zip_even (row (pattern u l) (connection_at bs (get_or ms j (0, 0)).0)) (row (pattern u l) (connection_at cs (get_or ms j (0, 0)).1)) (points l) (left (get_or ms j (0, 0)).0 r.0) (right (get_or ms j (0, 0)).1 r.1)),
      λ i j hi hj q.
          (let x = get_or ms i (0, 0) in
          let y = get_or ms j (0, 0) in
          let rx = range i (0, 0) hi in
          let ry = range j (0, 0) hj in
          let s = zip_tells (row (pattern u l) (connection_at bs x.0)) (row (pattern u l) (connection_at bs y.0)) (row (pattern u l) (connection_at cs x.1)) (row (pattern u l) (connection_at cs y.1)) (points l) (left x.0 rx.0) (left y.0 ry.0) (right x.1 rx.1) (right y.1 ry.1) q in
          let m : x.0 ≡ y.0 = ng.differ x.0 y.0 rx.0 ry.0 (row_tells (count u l) (points l) (exits u l) (pattern u l) w (connection_at bs x.0) (connection_at bs y.0) (ng.good_connections x.0 rx.0) (ng.good_connections y.0 ry.0) s.0) in
          let n : x.1 ≡ y.1 = nh.differ x.1 y.1 rx.1 ry.1 (row_tells (count u l) (points l) (exits u l) (pattern u l) w (connection_at cs x.1) (connection_at cs y.1) (nh.good_connections x.1 rx.1) (nh.good_connections y.1 ry.1) s.1) in
          differ_apart (0, 0) ms c.differ i j hi hj (same_pair x y m n)),
    )

-- the rows spell the pairs
pub paired : (t u v : Levels) (k l g h a b c : ℕ) (ms : List (ℕ × ℕ)) (rows : List (Gid × List (ℕ × ℕ))) → Pairing t u v k l g h a b c ms rows → labels_over (pattern v l) c (map row_of rows) ≡ zip (pattern t k g) (pattern t k h)
paired t u v k l g h a b c ms rows w =
    let gu : g < count u k = omega (arith, w.first, w.extends1.more k) in
    let hu : h < count u k = omega (arith, w.second, w.extends1.more k) in
    let ng = good_node u w.good1 k l g w.below gu in
    let nh = good_node u w.good1 k l h w.below hu in
    let p = pattern u l in
    let d = node u k g in
    let f = node u k h in
    let o = level_holds u w.good1 l in
    let n = points l in
    let canon = middles_canon t u w.good w.extends1 k l g h a b (pattern u l c) ms w.below w.first w.second w.a_is w.b_is w.canon in
    let canon_v : IsCanon (zip (p d.a_callee) (p f.a_callee)) (pattern v l c) ms = subst (λ (x : List ℕ). IsCanon (zip (p d.a_callee) (p f.a_callee)) x ms) (sym (pattern_kept u v w.good1 w.extends2 l c w.callee_exists)) canon in
    let ud : Under (length d.connections) (p d.a_callee) = Under-width 0 (length d.connections) (p d.a_callee) (omega (arith, o.reaches d.a_callee ng.callee_exists, ng.middles)) in
    let uf : Under (length f.connections) (p f.a_callee) = Under-width 0 (length f.connections) (p f.a_callee) (omega (arith, o.reaches f.a_callee nh.callee_exists, nh.middles)) in
    labels_listed (pattern v l) c (zip (p d.a_callee) (p f.a_callee)) ms (0, 0) (pair_word p d.connections f.connections) (map row_of rows) canon_v
    (λ i li. each_row (λ r. row_labels (pattern v l) r ≡ pair_word p d.connections f.connections (get_or ms i (0, 0))) rows i (omega (arith, li, w.listed.long)) (λ e. (w.listed.each i e li).labels))
    ∙ sym (zip_words (λ j. row p (connection_at d.connections j)) (λ j. row p (connection_at f.connections j)) n (p d.a_callee) (p f.a_callee)
    (even_under (λ j. row p (connection_at d.connections j)) n (length d.connections) (p d.a_callee) (λ i li. row_points (count u l) n (exits u l) p o (connection_at d.connections i) (ng.good_connections i li)) ud)
    (even_under (λ j. row p (connection_at f.connections j)) n (length f.connections) (p f.a_callee) (λ i li. row_points (count u l) n (exits u l) p o (connection_at f.connections i) (nh.good_connections i li)) uf)
    (o.points d.a_callee ng.callee_exists ∙ sym (o.points f.a_callee nh.callee_exists)))
    ∙ ap (λ (x : List ℕ). zip x (spell p f)) (sym (spelled_at u k l g w.below) ∙ pattern_kept t u w.good w.extends1 k g w.first)
    ∙ ap (λ (x : List ℕ). zip (pattern t k g) x) (sym (spelled_at u k l h w.below) ∙ pattern_kept t u w.good w.extends1 k h w.second)

-- at level 0 bit 0 leads to exit 0, and bit 1 to the last one
pub base_read : (t : Levels) (i : ℕ) → i < 2 → pattern t 0 i ≡ 0 ∷ (exits t 0 i - 1) ∷ []
unfolding pattern
base_read t zero h = refl
base_read t (suc i) h = refl

pub canon_same : {A : Type 0} (x : A) → IsCanon (x ∷ x ∷ []) (0 ∷ 0 ∷ []) (x ∷ [])
canon_same x = canon_known (x ∷ []) (0 ∷ []) (x ∷ []) x 0 (canon_new [] [] [] x canon_none (λ k e. cc)) refl

pub canon_two : {A : Type 0} (x y : A) → x ≢ y → IsCanon (x ∷ y ∷ []) (0 ∷ 1 ∷ []) (x ∷ y ∷ [])
canon_two x y d = canon_new (x ∷ []) (0 ∷ []) (x ∷ []) y (canon_new [] [] [] x canon_none (λ k e. cc)) (new d)
  where
    new : x ≢ y → (k : ℕ) → slice_get (x ∷ []) k ≡ Some y → ⊥
    new d zero e = d (same_Some x y e)
    new d (suc k) e = cc

pub and_true : (p q : Bool) → (p && q) ≡ true → (p ≡ true) × (q ≡ true)
and_true true q h = (refl, h)
and_true false q h = absurd (false≢true h)

pub both_zero : (a b : ℕ) → (nat_eq a 0 && nat_eq b 0) ≡ true → two a b ≡ two 0 0
both_zero a b h = let r = and_true (nat_eq a 0) (nat_eq b 0) h in same_pair (two a b) (two 0 0) ((nat_decides a 0).0 r.0) ((nat_decides b 0).0 r.1)

pub not_both_zero : (a b : ℕ) → (nat_eq a 0 && nat_eq b 0) ≡ false → two 0 0 ≢ two a b
not_both_zero a b h e =
    let x : nat_eq a 0 ≡ true = (nat_decides a 0).1 (sym (ap (λ (p : ℕ × ℕ). p.0) e)) in
    let y : nat_eq b 0 ≡ true = (nat_decides b 0).1 (sym (ap (λ (p : ℕ × ℕ). p.1) e)) in
    false≢true (sym h ∙ ap (λ (p : Bool). p && nat_eq b 0) x ∙ y)

-- the pairs of two groupings of level 0
pub base_pairs : (t : Levels) → IsGood t → (g h : Gid) → g.level ≡ 0 → h.level ≡ 0 → g.at < count t g.level → h.at < count t h.level
    → zip (pattern t g.level g.at) (pattern t h.level h.at) ≡ two 0 0 ∷ two (exits t g.level g.at - 1) (exits t h.level h.at - 1) ∷ []
base_pairs t good g h eg eh hg hh =
    let lg : g.at < 2 = (base_exits t good g.level g.at eg hg).0 in
    let lh : h.at < 2 = (base_exits t good h.level h.at eh hh).0 in
    let pg : pattern t g.level g.at ≡ 0 ∷ (exits t g.level g.at - 1) ∷ [] = subst (λ (m : ℕ). pattern t m g.at ≡ 0 ∷ (exits t m g.at - 1) ∷ []) (sym eg) (base_read t g.at lg) in
    let ph : pattern t h.level h.at ≡ 0 ∷ (exits t h.level h.at - 1) ∷ [] = subst (λ (m : ℕ). pattern t m h.at ≡ 0 ∷ (exits t m h.at - 1) ∷ []) (sym eh) (base_read t h.at lh) in
    ap (λ (v : List ℕ). zip v (pattern t h.level h.at)) pg ∙ ap (λ (v : List ℕ). zip (0 ∷ (exits t g.level g.at - 1) ∷ []) v) ph

-- the middle vertices' canon, at one level
pub level_with : {A : Type 0} (t u : Levels) (e a b : Gid) (l : ℕ) (f : List ℕ → List ℕ → List A) (ms : List A) → HasCanon u e a.level (f (pattern t a.level a.at) (pattern t b.level b.at)) ms → a.level ≡ l → b.level ≡ l → HasCanon u e l (f (pattern t l a.at) (pattern t l b.at)) ms
level_with t u e a b l f ms h p q = subst (λ (m : ℕ). HasCanon u e l (f (pattern t l a.at) (pattern t m b.at)) ms) q (subst (λ (m : ℕ). HasCanon u e m (f (pattern t m a.at) (pattern t b.level b.at)) ms) p h)

-- The same as `Pairing`, as the code has it.
pub record PairCall (t u v : Levels) (g h a b e : Gid) (ms : List (ℕ × ℕ)) (rows : List (Gid × List (ℕ × ℕ))) : Type 0 where
  pub good : IsGood t
  pub positive : g.level ≢ 0
  pub levels : h.level ≡ g.level
  pub first : g.at < count t g.level
  pub second : h.at < count t h.level
  pub a_level : a.level + 1 ≡ g.level
  pub a_is : a.at ≡ (node t g.level g.at).a_callee
  pub b_level : b.level + 1 ≡ h.level
  pub b_is : b.at ≡ (node t h.level h.at).a_callee
  pub good1 : IsGood u
  pub extends1 : Extends t u
  pub canon : HasCanon u e a.level (zip (pattern t a.level a.at) (pattern t b.level b.at)) ms
  pub good2 : IsGood v
  pub extends2 : Extends u v
  pub listed : ListEach v (g.level - 1) (λ i. pair_word (pattern u (g.level - 1)) (node u g.level g.at).connections (node u h.level h.at).connections (get_or ms i (0, 0))) (length ms) rows

pub pairing : (t u v : Levels) (g h a b e : Gid) (ms : List (ℕ × ℕ)) (rows : List (Gid × List (ℕ × ℕ))) → PairCall t u v g h a b e ms rows → Pairing t u v g.level (g.level - 1) g.at h.at a.at b.at e.at ms rows
pairing t u v g h a b e ms rows w =
    let k = g.level in
    let l = k - 1 in
    let canon = level_with t u e a b l zip ms w.canon (omega (arith, w.a_level)) (omega (arith, w.b_level, w.levels)) in
    record {
      good = w.good;
      below = omega (arith, w.positive);
      first = w.first;
      second = subst (λ (m : ℕ). h.at < count t m) w.levels w.second;
      a_is = w.a_is;
      b_is = subst (λ (m : ℕ). b.at ≡ (node t m h.at).a_callee) w.levels w.b_is;
      good1 = w.good1;
      extends1 = w.extends1;
      callee_exists = subst (λ (m : ℕ). e.at < count u m) canon.level canon.there;
      canon = subst (λ (m : ℕ). IsCanon (zip (pattern t l a.at) (pattern t l b.at)) (pattern u m e.at) ms) canon.level canon.canon;
      good2 = w.good2;
      extends2 = w.extends2;
      listed = subst (λ (m : ℕ). ListEach v l (λ i. pair_word (pattern u l) (node u k g.at).connections (node u m h.at).connections (get_or ms i (0, 0))) (length ms) rows) w.levels w.listed;
    }

-- what is known once the pairs' rows were assembled
pub assembly : (t u v w : Levels) (g h a b e : Gid) (ms : List (ℕ × ℕ)) (rows : List (Gid × List (ℕ × ℕ))) (r : Gid) (ds : List (ℕ × ℕ)) → PairCall t u v g h a b e ms rows → IsGood w → Extends v w
    → HasCanon w r (suc e.level) (labels_over (pattern v e.level) e.at (map row_of rows)) ds
    → AddsOnly t u (sub e.level (pattern u e.level e.at)) → AddsOnlyIn u v (g.level - 1) rows → AddsOnly v w (sub r.level (pattern w r.level r.at))
    → HasCanon w r g.level (zip (pattern t g.level g.at) (pattern t h.level h.at)) ds × AddsOnly t w (sub r.level (pattern w r.level r.at))
assembly t u v w g h a b e ms rows r ds c gw x assembled added1 added2 added3 =
    let k = g.level in
    let l = k - 1 in
    let p = pairing t u v g h a b e ms rows c in
    let le : e.level ≡ l = omega (arith, c.canon.level, c.a_level) in
    let s : HasCanon w r (suc l) (labels_over (pattern v l) e.at (map row_of rows)) ds = subst (λ (m : ℕ). HasCanon w r (suc m) (labels_over (pattern v m) e.at (map row_of rows)) ds) le assembled in
    let gu : g.at < count u k = omega (arith, p.first, p.extends1.more k) in
    let hu : h.at < count u k = omega (arith, p.second, p.extends1.more k) in
    let mc = middles_canon t u p.good p.extends1 k l g.at h.at a.at b.at (pattern u l e.at) ms p.below p.first p.second p.a_is p.b_is p.canon in
    let words = pair_words u p.good1 k l g.at h.at (pattern u l e.at) ms p.below gu hu mc in
    let long = p.listed.long in
    let o = level_holds u p.good1 l in
    let whole : labels_over (pattern v l) e.at (map row_of rows) ≡ zip (pattern t k g.at) (pattern t h.level h.at) =
    paired t u v k l g.at h.at a.at b.at e.at ms rows p ∙ ap (λ (m : ℕ). zip (pattern t k g.at) (pattern t m h.at)) (sym c.levels) in (
      record { level = omega (arith, s.level, p.below); there = s.there; canon = subst (λ (v : List (ℕ × ℕ)). IsCanon v (pattern w r.level r.at) ds) whole s.canon },
      assembled_added t u v w l e.at rows (λ i. pair_word (pattern u l) (node u k g.at).connections (node u k h.at).connections (get_or ms i (0, 0))) r ds
          (record {
            good = p.good;
            good1 = p.good1;
            good2 = p.good2;
            good3 = gw;
            extends1 = p.extends1;
            extends2 = p.extends2;
            extends3 = x;
            callee_exists = p.callee_exists;
            middles = long ∙ sym p.canon.reached ∙ o.reaches e.at p.callee_exists ∙ sym (exits_kept u v p.extends2 l e.at p.callee_exists);
            listed = record { long = refl; each = λ i d li. p.listed.each i d (omega (arith, li, long)) };
            full = λ j lj. words.0 j (omega (arith, lj, long));
            apart = λ i j li lj. words.1 i j (omega (arith, li, long)) (omega (arith, lj, long));
            canon = s;
            added1 = subst (λ (m : ℕ). AddsOnly t u (sub m (pattern u m e.at))) le added1;
            added2 = added2;
            added3 = added3;
          }),
    )
