use Rattle.std.proofs.Common.{◌≡◌, ◌≢◌, ℕ, suc, ◌<◌, ◌+◌, ◌-◌, List, [], ◌∷◌, map, refl, sym, ◌∙◌, ap, subst, length, get_or, arith, Bool, true, false, ◌&&◌, nat_eq}
use Rattle.std.specs.List.{All}
use Rattle.std.proofs.lemmas.List.{length-map}
use Rattle.std.proofs.lemmas.Bool.{false≢true}
use Rattle.cf_model.specs.Renumbering.{AllDiffer, IsApart, IsCanon}
use Rattle.cf_model.specs.FlatFunctions.{points}
use Rattle.cf_model.specs.Patterns.{sub}
use Rattle.cf_model.specs.Diagrams.{Levels, Connection, exit_at, connection_at, count, node, row, spell, pattern, exits, IsGoodConnection, IsGood, Extends}
use Rattle.cf_model.proofs.Growth.{Under, Under-width}
use Rattle.cf_model.proofs.RenumberingLaws.{nat_decides}
use Rattle.cf_model.proofs.Canonicity.{level_holds, row_tells, row_points}
use Rattle.cf_model.proofs.Growing.{pattern_kept, exits_kept}
use Rattle.cf_table.specs.declared.Gid.{Gid}
use Rattle.cf_table.proofs.Told.{good_node, base_exits}
use Rattle.cf_table.proofs.Differ.{differ_apart}
use Rattle.cf_build.specs.Assembling.{row_of, row_labels, labels_over, HasCanon, AddsOnly}
use Rattle.cf_table.specs.Triples.{zip3}
use Rattle.cf_pair.specs.Products.{returned3, triple_word, Lists, ListEach, AddsOnlyIn}
use Rattle.cf_pair.proofs.Zips.{Three, all_zip3, all_labels_of, differ_map, even_under, zip3_words, zip3_map, zip3_tells, length_zip3_even}
use Rattle.cf_pair.proofs.Rows.{row_listed, labels_listed, each_row, assembled_added}
use Rattle.cf_pair.proofs.Pairs.{spelled_at, callee_under, callee_kept, base_read, and_true}

abbrev none : ℕ × ℕ × ℕ
none = (0, 0, 0)

abbrev three : ℕ → ℕ → ℕ → ℕ × ℕ × ℕ
three x y z = (x, y, z)

same_triple : (x y : ℕ × ℕ × ℕ) → x.0 ≡ y.0 → x.1 ≡ y.1 → x.2 ≡ y.2 → x ≡ y
same_triple x y a b c = ap (λ (u : ℕ). three u x.1 x.2) a ∙ ap (λ (u : ℕ). three y.0 u x.2) b ∙ ap (λ (u : ℕ). three y.0 y.1 u) c

-- the triples of three callees' exits are in range of the return tuples
pub triples_in : (t : Levels) → IsGood t → (l : ℕ) (b c d : Connection) → IsGoodConnection (count t l) (exits t l) b → IsGoodConnection (count t l) (exits t l) c → IsGoodConnection (count t l) (exits t l) d → (ranks : List ℕ) (ts : List (ℕ × ℕ × ℕ))
    → IsCanon (zip3 (pattern t l b.callee) (pattern t l c.callee) (pattern t l d.callee)) ranks ts → All (Three (length b.returns) (length c.returns) (length d.returns)) ts
triples_in t g l b c d gb gc gd ranks ts k =
    all_labels_of (Three (length b.returns) (length c.returns) (length d.returns)) (zip3 (pattern t l b.callee) (pattern t l c.callee) (pattern t l d.callee)) ranks ts none k
    (all_zip3 (length b.returns) (length c.returns) (length d.returns) (pattern t l b.callee) (pattern t l c.callee) (pattern t l d.callee) (callee_under t g l b gb) (callee_under t g l c gc) (callee_under t g l d gd))

-- the row that is made of three B-connections
pub triple_lists : (t u : Levels) → IsGood t → IsGood u → (l : ℕ) (b c d : Connection) → IsGoodConnection (count t l) (exits t l) b → IsGoodConnection (count t l) (exits t l) c → IsGoodConnection (count t l) (exits t l) d
    → («to» : Gid) (ts : List (ℕ × ℕ × ℕ)) (labels : List (ℕ × ℕ × ℕ)) → HasCanon u «to» l (zip3 (pattern t l b.callee) (pattern t l c.callee) (pattern t l d.callee)) ts → labels ≡ map (returned3 b.returns c.returns d.returns) ts
    → Lists u l (zip3 (row (pattern t l) b) (row (pattern t l) c) (row (pattern t l) d)) («to», labels)
triple_lists t u gt gu l b c d gb gc gd g ts labels h e =
    let all = zip3 (pattern t l b.callee) (pattern t l c.callee) (pattern t l d.callee) in
    let f = returned3 b.returns c.returns d.returns in
    let own : g.at < count u l = subst (λ (m : ℕ). g.at < count u m) h.level h.there in
    let canon : IsCanon all (pattern u l g.at) ts = subst (λ (m : ℕ). IsCanon all (pattern u m g.at) ts) h.level h.canon in
    record {
      is_row = record { level = h.level; owned = own; labelled = ap length e ∙ length-map ts f ∙ sym canon.reached ∙ (level_holds u gu l).reaches g.at own };
      labels = row_listed f all (pattern u l g.at) ts labels none canon e ∙ sym (zip3_map (exit_at b) (exit_at c) (exit_at d) (pattern t l b.callee) (pattern t l c.callee) (pattern t l d.callee));
      differ = subst (λ (v : List (ℕ × ℕ × ℕ)). AllDiffer v) (sym e)
          (differ_map f (Three (length b.returns) (length c.returns) (length d.returns)) ts none (triples_in t gt l b c d gb gc gd (pattern u l g.at) ts canon)
          (λ x y hx hy q. same_triple x y (gb.once x.0 y.0 hx.0 hy.0 (ap (λ (v : ℕ × ℕ × ℕ). v.0) q)) (gc.once x.1 y.1 hx.1 hy.1 (ap (λ (v : ℕ × ℕ × ℕ). v.1) q)) (gd.once x.2 y.2 hx.2 hy.2 (ap (λ (v : ℕ × ℕ × ℕ). v.2) q)))
          canon.differ);
    }

-- the triples of the A-callees' exits, of three groupings of level k
abbrev a_triples : Levels → ℕ → ℕ → ℕ → ℕ → ℕ → List (ℕ × ℕ × ℕ)
a_triples t k l f g h = zip3 (pattern t l (node t k f).a_callee) (pattern t l (node t k g).a_callee) (pattern t l (node t k h).a_callee)

-- the words at their middle vertices
abbrev words_at : Levels → ℕ → ℕ → ℕ → ℕ → ℕ → List (ℕ × ℕ × ℕ) → ℕ → List (ℕ × ℕ × ℕ)
words_at t k l f g h ms i = triple_word (pattern t l) (node t k f).connections (node t k g).connections (node t k h).connections (get_or ms i none)

-- What the product of three groupings knows: `t` at entry, `u` after the A-callees' product, `v` after the rows.
pub record Tripling (t u v : Levels) (k l f g h c : ℕ) (ms : List (ℕ × ℕ × ℕ)) (rows : List (Gid × List (ℕ × ℕ × ℕ))) : Type 0 where
  pub good : IsGood t
  pub below : l + 1 ≡ k
  pub first : f < count t k
  pub second : g < count t k
  pub third : h < count t k
  pub good1 : IsGood u
  pub extends1 : Extends t u
  pub callee_exists : c < count u l
  pub canon : IsCanon (a_triples u k l f g h) (pattern u l c) ms
  pub good2 : IsGood v
  pub extends2 : Extends u v
  pub listed : ListEach v l (words_at u k l f g h ms) (length ms) rows

-- the canon of the middle vertices, in the table that the rows are read in
pub middles_canon3 : (t u : Levels) → IsGood t → Extends t u → (k l f g h a b c : ℕ) (p : List ℕ) (ms : List (ℕ × ℕ × ℕ)) → l + 1 ≡ k → f < count t k → g < count t k → h < count t k
    → a ≡ (node t k f).a_callee → b ≡ (node t k g).a_callee → c ≡ (node t k h).a_callee → IsCanon (zip3 (pattern t l a) (pattern t l b) (pattern t l c)) p ms → IsCanon (a_triples u k l f g h) p ms
middles_canon3 t u gt x k l f g h a b c p ms e hf hg hh ae be ce w =
    subst (λ (y : List ℕ). IsCanon (zip3 (pattern u l (node u k f).a_callee) (pattern u l (node u k g).a_callee) y) p ms) (callee_kept t u gt x k l h c e hh ce)
    (subst (λ (y : List ℕ). IsCanon (zip3 (pattern u l (node u k f).a_callee) y (pattern t l c)) p ms) (callee_kept t u gt x k l g b e hg be)
    (subst (λ (y : List ℕ). IsCanon (zip3 y (pattern t l b) (pattern t l c)) p ms) (callee_kept t u gt x k l f a e hf ae) w))

a_under : (u : Levels) → IsGood u → (k l i : ℕ) → l + 1 ≡ k → i < count u k → Under (length (node u k i).connections) (pattern u l (node u k i).a_callee)
a_under u gu k l i e hi =
    let n = good_node u gu k l i e hi in
    Under-width 0 (length (node u k i).connections) (pattern u l (node u k i).a_callee) (omega (arith, (level_holds u gu l).reaches (node u k i).a_callee n.callee_exists, n.middles))

-- the middle vertices are there
pub middles_in3 : (u : Levels) → IsGood u → (k l f g h : ℕ) (p : List ℕ) (ms : List (ℕ × ℕ × ℕ)) → l + 1 ≡ k → f < count u k → g < count u k → h < count u k → IsCanon (a_triples u k l f g h) p ms
    → All (Three (length (node u k f).connections) (length (node u k g).connections) (length (node u k h).connections)) ms
middles_in3 u gu k l f g h p ms e hf hg hh c =
    let n = length (node u k f).connections in
    let m = length (node u k g).connections in
    let o = length (node u k h).connections in
    all_labels_of (Three n m o) (a_triples u k l f g h) p ms none c
    (all_zip3 n m o (pattern u l (node u k f).a_callee) (pattern u l (node u k g).a_callee) (pattern u l (node u k h).a_callee) (a_under u gu k l f e hf) (a_under u gu k l g e hg) (a_under u gu k l h e hh))

row_full : (u : Levels) → IsGood u → (k l i : ℕ) → l + 1 ≡ k → i < count u k → (m : ℕ) → m < length (node u k i).connections → length (row (pattern u l) (connection_at (node u k i).connections m)) ≡ points l
row_full u gu k l i e hi m lm = row_points (count u l) (points l) (exits u l) (pattern u l) (level_holds u gu l) (connection_at (node u k i).connections m) ((good_node u gu k l i e hi).good_connections m lm)

-- middle vertices with one row are one
row_apart : (u : Levels) → IsGood u → (k l i : ℕ) → l + 1 ≡ k → i < count u k → (m n : ℕ) → m < length (node u k i).connections → n < length (node u k i).connections
    → row (pattern u l) (connection_at (node u k i).connections m) ≡ row (pattern u l) (connection_at (node u k i).connections n) → m ≡ n
row_apart u gu k l i e hi m n lm ln q =
    let d = good_node u gu k l i e hi in
    let cs = (node u k i).connections in
    d.differ m n lm ln (row_tells (count u l) (points l) (exits u l) (pattern u l) (level_holds u gu l) (connection_at cs m) (connection_at cs n) (d.good_connections m lm) (d.good_connections n ln) q)

-- the words at three middle vertices, which differ where one of those does
pub triple_words : (u : Levels) → IsGood u → (k l f g h : ℕ) (p : List ℕ) (ms : List (ℕ × ℕ × ℕ)) → l + 1 ≡ k → f < count u k → g < count u k → h < count u k → IsCanon (a_triples u k l f g h) p ms
    → ((j : ℕ) → j < length ms → length (words_at u k l f g h ms j) ≡ points l) × IsApart (words_at u k l f g h ms) (length ms)
triple_words u gu k l f g h p ms e hf hg hh c =
    let range = middles_in3 u gu k l f g h p ms e hf hg hh c in
    let one : ℕ → List ℕ = λ m. row (pattern u l) (connection_at (node u k f).connections m) in
    let two : ℕ → List ℕ = λ m. row (pattern u l) (connection_at (node u k g).connections m) in
    let six : ℕ → List ℕ = λ m. row (pattern u l) (connection_at (node u k h).connections m) in
    let lf = row_full u gu k l f e hf in
    let lg = row_full u gu k l g e hg in
    let lh = row_full u gu k l h e hh in (
      λ j lj. (let r = range j none lj in
          let m = get_or ms j none in
          length_zip3_even (one m.0) (two m.1) (six m.2) (points l) (lf m.0 r.0) (lg m.1 r.1) (lh m.2 r.2)),
      λ i j hi hj q.
          (let x = get_or ms i none in
          let y = get_or ms j none in
          let rx = range i none hi in
          let ry = range j none hj in
          let s = zip3_tells (one x.0) (one y.0) (two x.1) (two y.1) (six x.2) (six y.2) (points l) (lf x.0 rx.0) (lf y.0 ry.0) (lg x.1 rx.1) (lg y.1 ry.1) (lh x.2 rx.2) (lh y.2 ry.2) q in
          differ_apart none ms c.differ i j hi hj (same_triple x y (row_apart u gu k l f e hf x.0 y.0 rx.0 ry.0 s.0) (row_apart u gu k l g e hg x.1 y.1 rx.1 ry.1 s.1) (row_apart u gu k l h e hh x.2 y.2 rx.2 ry.2 s.2))),
    )

-- the rows spell the triples
pub tripled : (t u v : Levels) (k l f g h c : ℕ) (ms : List (ℕ × ℕ × ℕ)) (rows : List (Gid × List (ℕ × ℕ × ℕ))) → Tripling t u v k l f g h c ms rows → labels_over (pattern v l) c (map row_of rows) ≡ zip3 (pattern t k f) (pattern t k g) (pattern t k h)
tripled t u v k l f g h c ms rows w =
    let fu : f < count u k = omega (arith, w.first, w.extends1.more k) in
    let gu : g < count u k = omega (arith, w.second, w.extends1.more k) in
    let hu : h < count u k = omega (arith, w.third, w.extends1.more k) in
    let nf = good_node u w.good1 k l f w.below fu in
    let ng = good_node u w.good1 k l g w.below gu in
    let nh = good_node u w.good1 k l h w.below hu in
    let p = pattern u l in
    let d = node u k f in
    let e = node u k g in
    let y = node u k h in
    let o = level_holds u w.good1 l in
    let n = points l in
    let all = a_triples u k l f g h in
    let word = triple_word p d.connections e.connections y.connections in
    let canon_v : IsCanon all (pattern v l c) ms = subst (λ (x : List ℕ). IsCanon all x ms) (sym (pattern_kept u v w.good1 w.extends2 l c w.callee_exists)) w.canon in
    labels_listed (pattern v l) c all ms none word (map row_of rows) canon_v
    (λ i li. each_row (λ r. row_labels (pattern v l) r ≡ word (get_or ms i none)) rows i (omega (arith, li, w.listed.long)) (λ x. (w.listed.each i x li).labels))
    ∙ sym (zip3_words (λ j. row p (connection_at d.connections j)) (λ j. row p (connection_at e.connections j)) (λ j. row p (connection_at y.connections j)) n (p d.a_callee) (p e.a_callee) (p y.a_callee)
    (even_under (λ j. row p (connection_at d.connections j)) n (length d.connections) (p d.a_callee) (row_full u w.good1 k l f w.below fu) (a_under u w.good1 k l f w.below fu))
    (even_under (λ j. row p (connection_at e.connections j)) n (length e.connections) (p e.a_callee) (row_full u w.good1 k l g w.below gu) (a_under u w.good1 k l g w.below gu))
    (even_under (λ j. row p (connection_at y.connections j)) n (length y.connections) (p y.a_callee) (row_full u w.good1 k l h w.below hu) (a_under u w.good1 k l h w.below hu))
    (o.points d.a_callee nf.callee_exists ∙ sym (o.points e.a_callee ng.callee_exists)) (o.points e.a_callee ng.callee_exists ∙ sym (o.points y.a_callee nh.callee_exists)))
    ∙ ap (λ (x : List ℕ). zip3 x (spell p e) (spell p y)) (sym (spelled_at u k l f w.below) ∙ pattern_kept t u w.good w.extends1 k f w.first)
    ∙ ap (λ (x : List ℕ). zip3 (pattern t k f) x (spell p y)) (sym (spelled_at u k l g w.below) ∙ pattern_kept t u w.good w.extends1 k g w.second)
    ∙ ap (λ (x : List ℕ). zip3 (pattern t k f) (pattern t k g) x) (sym (spelled_at u k l h w.below) ∙ pattern_kept t u w.good w.extends1 k h w.third)

pub all_zero : (a b c : ℕ) → ((nat_eq a 0 && nat_eq b 0) && nat_eq c 0) ≡ true → three a b c ≡ none
all_zero a b c h =
    let r = and_true (nat_eq a 0 && nat_eq b 0) (nat_eq c 0) h in
    let s = and_true (nat_eq a 0) (nat_eq b 0) r.0 in
    same_triple (three a b c) none ((nat_decides a 0).0 s.0) ((nat_decides b 0).0 s.1) ((nat_decides c 0).0 r.1)

pub not_all_zero : (a b c : ℕ) → ((nat_eq a 0 && nat_eq b 0) && nat_eq c 0) ≡ false → none ≢ three a b c
not_all_zero a b c h e =
    let x : nat_eq a 0 ≡ true = (nat_decides a 0).1 (sym (ap (λ (p : ℕ × ℕ × ℕ). p.0) e)) in
    let y : nat_eq b 0 ≡ true = (nat_decides b 0).1 (sym (ap (λ (p : ℕ × ℕ × ℕ). p.1) e)) in
    let z : nat_eq c 0 ≡ true = (nat_decides c 0).1 (sym (ap (λ (p : ℕ × ℕ × ℕ). p.2) e)) in
    false≢true (sym h ∙ ap (λ (p : Bool). (p && nat_eq b 0) && nat_eq c 0) x ∙ ap (λ (p : Bool). p && nat_eq c 0) y ∙ z)

base_at : (t : Levels) → IsGood t → (g : Gid) → g.level ≡ 0 → g.at < count t g.level → pattern t g.level g.at ≡ 0 ∷ (exits t g.level g.at - 1) ∷ []
base_at t good g e h = subst (λ (m : ℕ). pattern t m g.at ≡ 0 ∷ (exits t m g.at - 1) ∷ []) (sym e) (base_read t g.at (base_exits t good g.level g.at e h).0)

-- the triples of three groupings of level 0
pub base_triples : (t : Levels) → IsGood t → (f g h : Gid) → f.level ≡ 0 → g.level ≡ 0 → h.level ≡ 0 → f.at < count t f.level → g.at < count t g.level → h.at < count t h.level
    → zip3 (pattern t f.level f.at) (pattern t g.level g.at) (pattern t h.level h.at) ≡ none ∷ three (exits t f.level f.at - 1) (exits t g.level g.at - 1) (exits t h.level h.at - 1) ∷ []
base_triples t good f g h ef eg eh hf hg hh =
    ap (λ (v : List ℕ). zip3 v (pattern t g.level g.at) (pattern t h.level h.at)) (base_at t good f ef hf)
    ∙ ap (λ (v : List ℕ). zip3 (0 ∷ (exits t f.level f.at - 1) ∷ []) v (pattern t h.level h.at)) (base_at t good g eg hg)
    ∙ ap (λ (v : List ℕ). zip3 (0 ∷ (exits t f.level f.at - 1) ∷ []) (0 ∷ (exits t g.level g.at - 1) ∷ []) v) (base_at t good h eh hh)

-- the middle vertices' canon, at one level
pub level_with3 : (t u : Levels) (e a b c : Gid) (l : ℕ) (ms : List (ℕ × ℕ × ℕ)) → HasCanon u e a.level (zip3 (pattern t a.level a.at) (pattern t b.level b.at) (pattern t c.level c.at)) ms → a.level ≡ l → b.level ≡ l → c.level ≡ l
    → HasCanon u e l (zip3 (pattern t l a.at) (pattern t l b.at) (pattern t l c.at)) ms
level_with3 t u e a b c l ms h p q r =
    subst (λ (m : ℕ). HasCanon u e l (zip3 (pattern t l a.at) (pattern t l b.at) (pattern t m c.at)) ms) r
    (subst (λ (m : ℕ). HasCanon u e l (zip3 (pattern t l a.at) (pattern t m b.at) (pattern t c.level c.at)) ms) q
    (subst (λ (m : ℕ). HasCanon u e m (zip3 (pattern t m a.at) (pattern t b.level b.at) (pattern t c.level c.at)) ms) p h))

-- What is known before the rows are made, as the code has it.
pub record TripleCall (t u : Levels) (f g h a b c e : Gid) (ms : List (ℕ × ℕ × ℕ)) : Type 0 where
  pub good : IsGood t
  pub positive : f.level ≢ 0
  pub second_level : g.level ≡ f.level
  pub third_level : h.level ≡ f.level
  pub first : f.at < count t f.level
  pub second : g.at < count t g.level
  pub third : h.at < count t h.level
  pub a_level : a.level + 1 ≡ f.level
  pub a_is : a.at ≡ (node t f.level f.at).a_callee
  pub b_level : b.level + 1 ≡ g.level
  pub b_is : b.at ≡ (node t g.level g.at).a_callee
  pub c_level : c.level + 1 ≡ h.level
  pub c_is : c.at ≡ (node t h.level h.at).a_callee
  pub good1 : IsGood u
  pub extends1 : Extends t u
  pub canon : HasCanon u e a.level (zip3 (pattern t a.level a.at) (pattern t b.level b.at) (pattern t c.level c.at)) ms

-- the middle vertices' canon, and that the middle vertices are there
pub call_canon : (t u : Levels) (f g h a b c e : Gid) (ms : List (ℕ × ℕ × ℕ)) → TripleCall t u f g h a b c e ms → HasCanon u e (f.level - 1) (a_triples u f.level (f.level - 1) f.at g.at h.at) ms
call_canon t u f g h a b c e ms w =
    let k = f.level in
    let l = k - 1 in
    let x = level_with3 t u e a b c l ms w.canon (omega (arith, w.a_level)) (omega (arith, w.b_level, w.second_level)) (omega (arith, w.c_level, w.third_level)) in
    record {
      level = x.level;
      there = x.there;
      canon = middles_canon3 t u w.good w.extends1 k l f.at g.at h.at a.at b.at c.at (pattern u e.level e.at) ms (omega (arith, w.positive)) w.first (subst (λ (m : ℕ). g.at < count t m) w.second_level w.second) (subst (λ (m : ℕ). h.at < count t m) w.third_level w.third)
          w.a_is (subst (λ (m : ℕ). b.at ≡ (node t m g.at).a_callee) w.second_level w.b_is) (subst (λ (m : ℕ). c.at ≡ (node t m h.at).a_callee) w.third_level w.c_is) x.canon;
    }

pub call_range : (t u : Levels) (f g h a b c e : Gid) (ms : List (ℕ × ℕ × ℕ)) → TripleCall t u f g h a b c e ms
    → All (λ m. (m.0 < length (node u f.level f.at).connections) × (m.1 < length (node u g.level g.at).connections) × (m.2 < length (node u h.level h.at).connections)) ms
call_range t u f g h a b c e ms w =
    let k = f.level in
    let l = k - 1 in
    let x = call_canon t u f g h a b c e ms w in
    let g0 : g.at < count u k = omega (arith, subst (λ (m : ℕ). g.at < count t m) w.second_level w.second, w.extends1.more k) in
    let h0 : h.at < count u k = omega (arith, subst (λ (m : ℕ). h.at < count t m) w.third_level w.third, w.extends1.more k) in
    let r = middles_in3 u w.good1 k l f.at g.at h.at (pattern u e.level e.at) ms (omega (arith, w.positive)) (omega (arith, w.first, w.extends1.more k)) g0 h0 x.canon in
    subst (λ (i : ℕ). All (Three (length (node u k f.at).connections) (length (node u i g.at).connections) (length (node u h.level h.at).connections)) ms) (sym w.second_level)
    (subst (λ (i : ℕ). All (Three (length (node u k f.at).connections) (length (node u k g.at).connections) (length (node u i h.at).connections)) ms) (sym w.third_level) r)

-- what is known once the triples' rows were assembled
pub assembly3 : (t u v w : Levels) (f g h a b c e : Gid) (ms : List (ℕ × ℕ × ℕ)) (rows : List (Gid × List (ℕ × ℕ × ℕ))) (r : Gid) (ds : List (ℕ × ℕ × ℕ)) → TripleCall t u f g h a b c e ms → IsGood v → Extends u v
    → ListEach v (f.level - 1) (λ i. triple_word (pattern u (f.level - 1)) (node u f.level f.at).connections (node u g.level g.at).connections (node u h.level h.at).connections (get_or ms i none)) (length ms) rows
    → IsGood w → Extends v w → HasCanon w r (suc e.level) (labels_over (pattern v e.level) e.at (map row_of rows)) ds
    → AddsOnly t u (sub e.level (pattern u e.level e.at)) → AddsOnlyIn u v (f.level - 1) rows → AddsOnly v w (sub r.level (pattern w r.level r.at))
    → HasCanon w r f.level (zip3 (pattern t f.level f.at) (pattern t g.level g.at) (pattern t h.level h.at)) ds × AddsOnly t w (sub r.level (pattern w r.level r.at))
assembly3 t u v w f g h a b c e ms rows r ds q gv y rows_are gw x assembled added1 added2 added3 =
    let k = f.level in
    let l = k - 1 in
    let below : l + 1 ≡ k = omega (arith, q.positive) in
    let mc = call_canon t u f g h a b c e ms q in
    let le : e.level ≡ l = mc.level in
    let g0 : g.at < count t k = subst (λ (m : ℕ). g.at < count t m) q.second_level q.second in
    let h0 : h.at < count t k = subst (λ (m : ℕ). h.at < count t m) q.third_level q.third in
    let canon : IsCanon (a_triples u k l f.at g.at h.at) (pattern u l e.at) ms = subst (λ (m : ℕ). IsCanon (a_triples u k l f.at g.at h.at) (pattern u m e.at) ms) le mc.canon in
    let listed : ListEach v l (words_at u k l f.at g.at h.at ms) (length ms) rows =
    subst (λ (m : ℕ). ListEach v l (λ i. triple_word (pattern u l) (node u k f.at).connections (node u k g.at).connections (node u m h.at).connections (get_or ms i none)) (length ms) rows) q.third_level
    (subst (λ (m : ℕ). ListEach v l (λ i. triple_word (pattern u l) (node u k f.at).connections (node u m g.at).connections (node u h.level h.at).connections (get_or ms i none)) (length ms) rows) q.second_level rows_are) in
    let p : Tripling t u v k l f.at g.at h.at e.at ms rows = record {
      good = q.good;
      below = below;
      first = q.first;
      second = g0;
      third = h0;
      good1 = q.good1;
      extends1 = q.extends1;
      callee_exists = subst (λ (m : ℕ). e.at < count u m) le mc.there;
      canon = canon;
      good2 = gv;
      extends2 = y;
      listed = listed;
    } in
    let s : HasCanon w r (suc l) (labels_over (pattern v l) e.at (map row_of rows)) ds = subst (λ (m : ℕ). HasCanon w r (suc m) (labels_over (pattern v m) e.at (map row_of rows)) ds) le assembled in
    let words = triple_words u p.good1 k l f.at g.at h.at (pattern u l e.at) ms below (omega (arith, p.first, p.extends1.more k)) (omega (arith, g0, p.extends1.more k)) (omega (arith, h0, p.extends1.more k)) canon in
    let long = listed.long in
    let o = level_holds u p.good1 l in
    let whole : labels_over (pattern v l) e.at (map row_of rows) ≡ zip3 (pattern t k f.at) (pattern t g.level g.at) (pattern t h.level h.at) =
    tripled t u v k l f.at g.at h.at e.at ms rows p ∙ ap (λ (m : ℕ). zip3 (pattern t k f.at) (pattern t m g.at) (pattern t k h.at)) (sym q.second_level) ∙ ap (λ (m : ℕ). zip3 (pattern t k f.at) (pattern t g.level g.at) (pattern t m h.at)) (sym q.third_level) in (
      record { level = omega (arith, s.level, below); there = s.there; canon = subst (λ (v : List (ℕ × ℕ × ℕ)). IsCanon v (pattern w r.level r.at) ds) whole s.canon },
      assembled_added t u v w l e.at rows (words_at u k l f.at g.at h.at ms) r ds
          (record {
            good = p.good;
            good1 = p.good1;
            good2 = p.good2;
            good3 = gw;
            extends1 = p.extends1;
            extends2 = p.extends2;
            extends3 = x;
            callee_exists = p.callee_exists;
            middles = long ∙ sym canon.reached ∙ o.reaches e.at p.callee_exists ∙ sym (exits_kept u v p.extends2 l e.at p.callee_exists);
            listed = record { long = refl; each = λ i d li. listed.each i d (omega (arith, li, long)) };
            full = λ j lj. words.0 j (omega (arith, lj, long));
            apart = λ i j li lj. words.1 i j (omega (arith, li, long)) (omega (arith, lj, long));
            canon = s;
            added1 = subst (λ (m : ℕ). AddsOnly t u (sub m (pattern u m e.at))) le added1;
            added2 = added2;
            added3 = added3;
          }),
    )
