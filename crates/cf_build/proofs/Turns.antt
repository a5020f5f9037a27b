use Rattle.std.proofs.Common.{◌≡◌, ℕ, suc, ◌<◌, ◌≤◌, ◌+◌, List, [], ◌∷◌, map, refl, sym, ◌∙◌, ap, subst, length, get_or, arith, Some, Result, Ok, Err, IfOk, add-one}
use Rattle.std.proofs.lemmas.List.{length-map, get_or-map, get_or_default}
use Rattle.std.proofs.lemmas.Option.{slice_get-get_or, slice_get_within, get_or_from_slice_get}
use Rattle.cf_model.specs.Renumbering.{width, Grows, IsApart, IsCanon, AllDiffer}
use Rattle.cf_model.proofs.RenumberingLaws.{canon_length, map_map}
use Rattle.cf_model.specs.Diagrams.{Levels, Node, Connection, no_connection, exit_at, connection_at, count, node, row, spell, pattern, exits, IsGoodConnection, IsGoodNode, IsGood, Extends}
use Rattle.cf_model.specs.FlatFunctions.{points}
use Rattle.cf_model.proofs.Growth.{Under, Under-width}
use Rattle.cf_model.proofs.Canonicity.{level_holds}
use Rattle.cf_model.proofs.Growing.{pattern_kept, exits_kept}
use Rattle.cf_tuple.specs.Books.{Lengthens, IsInterned as IsInternedTuple}
use Rattle.cf_tuple.proofs.BookLaws.{kept_at}
use Rattle.cf_table.specs.declared.Gid.{Gid}
use Rattle.cf_table.specs.declared.BConn.{BConn}
use Rattle.cf_table.specs.Groupings.{Groupings, connection_of, node_with, IsInterned, IsInternable}
use Rattle.cf_table.proofs.Told.{same_conn}
use Rattle.cf_build.specs.Assembling.{classed, Stands}
use Rattle.cf_build.specs.Joining.{IsLooseNode, returning, classed_connection, IsThin, AreThin, blank}
use Rattle.cf_build.proofs.Words.{canon_reads}
use Rattle.cf_build.proofs.Joins.{all_reached, classed_node, spell_classed, loose_classed, thin_entries, differ_apart, thin_row, thin_order, Ready, made, ready_good, ready_spell, spell_kept}

pub if_ok : {T E : Type 0} (r : Result T E) (P Q : T → Type 0) → IfOk r P → ((x : T) → P x → Q x) → IfOk r Q
if_ok (Ok x) P Q h f = f x h
if_ok (Err e) P Q h f = tt

pub if_ok2 : {T E : Type 0} (r : Result T E) (P Q S : T → Type 0) → IfOk r P → IfOk r Q → ((x : T) → P x → Q x → S x) → IfOk r S
if_ok2 (Ok x) P Q S h k f = f x h k
if_ok2 (Err e) P Q S h k f = tt

-- a connection says the same over a longer book
conn_kept : (t u : List (List ℕ)) (b : BConn) → Lengthens t u → b.ret.at < length t → connection_of u b ≡ connection_of t b
conn_kept t u b x h = ap (λ (r : List ℕ). returning b.«to».at r) (kept_at t u x b.ret.at [] h)

pub IsThin-kept : (t u : Groupings) (l : ℕ) (r w : List ℕ) (b : BConn) → IsGood t.levels → Extends t.levels u.levels → Lengthens t.tuples u.tuples → IsThin t l r w b → IsThin u l r w b
IsThin-kept t u l r w b g x y h =
    let e : connection_of u.tuples b ≡ connection_of t.tuples b = conn_kept t.tuples u.tuples b y h.listed in
    let i : b.«to».at < count t.levels l = h.good.callee_exists in
    record {
      level = h.level;
      listed = omega (arith, h.listed, y.more);
      good = subst (λ (c : Connection). IsGoodConnection (count u.levels l) (exits u.levels l) c) (sym e) (record { callee_exists = omega (arith, i, x.more l); entries = h.good.entries ∙ sym (exits_kept t.levels u.levels x l b.«to».at i); once = h.good.once });
      row_is = ap (λ (c : Connection). row (pattern u.levels l) c) e ∙ ap (λ (p : List ℕ). map (exit_at (connection_of t.tuples b)) p) (pattern_kept t.levels u.levels g x l b.«to».at i) ∙ h.row_is;
      carries = subst (λ (c : Connection). (m : ℕ) → Grows m w → Grows m c.returns × (width m c.returns ≡ width m w)) (sym e) h.carries;
    }

pub AreThin-kept : (t u : Groupings) (l : ℕ) (p : ℕ → List ℕ) (ns : List Connection) (bs : List BConn) → IsGood t.levels → Extends t.levels u.levels → Lengthens t.tuples u.tuples → AreThin t l p ns bs → AreThin u l p ns bs
AreThin-kept t u l p ns bs g x y h = record { long = h.long; each = λ j lj. IsThin-kept t u l _ _ _ g x y (h.each j lj) }

-- what is asked of a connection of a node
pub record Fit (t : Groupings) (l : ℕ) (b : BConn) : Type 0 where
  pub level : b.«to».level ≡ l
  pub listed : b.ret.at < length t.tuples
  pub good : IsGoodConnection (count t.levels l) (exits t.levels l) (connection_of t.tuples b)

pub all_fit : (t : Groupings) (l : ℕ) (p : ℕ → List ℕ) (ns : List Connection) (all bs : List BConn) (classes : List ℕ) → AreThin t l p ns all → IsCanon all classes bs → (j : ℕ) → j < length bs → Fit t l (get_or bs j blank)
all_fit t l p ns all bs classes h c j lj =
    let reads : all ≡ map (λ i. get_or bs i blank) classes = canon_reads all classes bs blank c.spells in
    all_reached (λ i. Fit t l (get_or bs i blank)) classes 0 c.grows
    (λ i li. (let k : i < length ns = omega (arith, li, canon_length all classes bs c, h.long) in
    let w = h.each i k in
    subst (λ (b : BConn). Fit t l b) (ap (λ (v : List BConn). get_or v i blank) reads ∙ get_or-map (λ i. get_or bs i blank) classes i 0 blank li)
    (record { level = w.level; listed = w.listed; good = w.good })))
    j (omega arith) (omega (arith, lj, c.reached))

-- connections that differ show different ones
pub shown_apart : (t : Groupings) (l : ℕ) (bs : List BConn) → AllDiffer t.tuples → AllDiffer bs → ((j : ℕ) → j < length bs → Fit t l (get_or bs j blank)) → IsApart (connection_at (map (connection_of t.tuples) bs)) (length (map (connection_of t.tuples) bs))
shown_apart t l bs dt db fit i j hi hj e =
    let li : i < length bs = omega (arith, hi, length-map bs (connection_of t.tuples)) in
    let lj : j < length bs = omega (arith, hj, length-map bs (connection_of t.tuples)) in
    let x = get_or bs i blank in
    let y = get_or bs j blank in
    let fx = fit i li in
    let fy = fit j lj in
    let q : connection_of t.tuples x ≡ connection_of t.tuples y = sym (get_or-map (connection_of t.tuples) bs i blank no_connection li) ∙ e ∙ get_or-map (connection_of t.tuples) bs j blank no_connection lj in
    let ret : x.ret.at ≡ y.ret.at = dt x.ret.at y.ret.at (get_or t.tuples x.ret.at []) (slice_get-get_or t.tuples x.ret.at [] fx.listed) (slice_get-get_or t.tuples y.ret.at [] fy.listed ∙ ap Some (ap (λ (c : Connection). c.returns) (sym q))) in
    let same : x ≡ y = same_conn x y (fx.level ∙ sym fy.level) (ap (λ (c : Connection). c.callee) q) ret in
    db i j x (slice_get-get_or bs i blank li) (slice_get-get_or bs j blank lj ∙ ap Some (sym same))

-- what `join` knows after the callee was merged: `t` at entry, `s` after the rows, `u` after the callee
pub record Joining (t s u : Groupings) (l : ℕ) (d : Node) (all bs : List BConn) (classes : List ℕ) (a : ℕ) : Type 0 where
  pub good : IsGood t.levels
  pub is_loose : IsLooseNode (count t.levels l) (exits t.levels l) d
  pub good1 : IsGood s.levels
  pub extends1 : Extends t.levels s.levels
  pub thin : AreThin s l (pattern t.levels l) d.connections all
  pub canon : IsCanon all classes bs
  pub good2 : IsGood u.levels
  pub extends2 : Extends s.levels u.levels
  pub longer2 : Lengthens s.tuples u.tuples
  pub differ : AllDiffer u.tuples
  pub callee_exists : a < count u.levels l
  pub a_callee : pattern u.levels l a ≡ classed classes (pattern s.levels l d.a_callee)

pub joining_fit : (t s u : Groupings) (l : ℕ) (d : Node) (all bs : List BConn) (classes : List ℕ) (a : ℕ) → Joining t s u l d all bs classes a → (j : ℕ) → j < length bs → Fit u l (get_or bs j blank)
joining_fit t s u l d all bs classes a h = all_fit u l (pattern t.levels l) d.connections all bs classes (AreThin-kept s u l (pattern t.levels l) d.connections all h.good1 h.extends2 h.longer2 h.thin) h.canon

joining : (t s u : Groupings) (l : ℕ) (d : Node) (all bs : List BConn) (classes : List ℕ) (a : ℕ) → Joining t s u l d all bs classes a
    → Ready (count t.levels l) (count u.levels l) (points l) (exits t.levels l) (exits u.levels l) (pattern t.levels l) (pattern u.levels l) d (map (connection_of u.tuples) all) (map (connection_of u.tuples) bs) classes a
joining t s u l d all bs classes a h =
    let f = connection_of u.tuples in
    let thin = AreThin-kept s u l (pattern t.levels l) d.connections all h.good1 h.extends2 h.longer2 h.thin in
    let fit = all_fit u l (pattern t.levels l) d.connections all bs classes thin h.canon in
    let at : (j : ℕ) → j < length d.connections → connection_at (map f all) j ≡ f (get_or all j blank) = λ j lj. get_or-map f all j blank no_connection (omega (arith, lj, thin.long)) in
    let lbs : length (map f bs) ≡ length bs = length-map bs f in
    let reads : all ≡ map (λ i. get_or bs i blank) classes = canon_reads all classes bs blank h.canon.spells in
    record {
      below = level_holds t.levels h.good l;
      above = level_holds u.levels h.good2 l;
      is_loose = h.is_loose;
      long = length-map all f ∙ thin.long;
      rows = λ j lj. ap (λ (c : Connection). row (pattern u.levels l) c) (at j lj) ∙ (thin.each j lj).row_is;
      carry = λ j lj. subst (λ (c : Connection). (m : ℕ) → Grows m (connection_at d.connections j).returns → Grows m c.returns × (width m c.returns ≡ width m (connection_at d.connections j).returns)) (sym (at j lj)) (thin.each j lj).carries;
      reads = ap (λ (v : List BConn). map f v) reads ∙ map_map f (λ i. get_or bs i blank) classes ∙ shown_each f bs classes (length bs) (Under-width 0 (length bs) classes (omega (arith, h.canon.reached))) refl;
      grows = h.canon.grows;
      reached = h.canon.reached ∙ sym lbs;
      good_connections = λ j lj. (let k : j < length bs = omega (arith, lj, lbs) in subst (λ (c : Connection). IsGoodConnection (count u.levels l) (exits u.levels l) c) (sym (get_or-map f bs j blank no_connection k)) (fit j k).good);
      apart = shown_apart u l bs h.differ h.canon.differ fit;
      callee_exists = h.callee_exists;
      a_callee = h.a_callee ∙ ap (λ (v : List ℕ). classed classes v) (pattern_kept t.levels s.levels h.good h.extends1 l d.a_callee h.is_loose.callee_exists);
    }
  where
    shown_each : (f : BConn → Connection) (bs : List BConn) (p : List ℕ) (k : ℕ) → Under k p → k ≡ length bs → map (λ i. f (get_or bs i blank)) p ≡ map (connection_at (map f bs)) p
    shown_each f bs [] k w q = refl
    shown_each f bs (i ∷ p) k w q =
        let top : f (get_or bs i blank) ≡ connection_at (map f bs) i = sym (get_or-map f bs i blank no_connection (omega (arith, w.0, q))) in
        let r : map (λ i. f (get_or bs i blank)) p ≡ map (connection_at (map f bs)) p = shown_each f bs p k w.1 q in
        cc

pub joining_good : (t s u : Groupings) (l : ℕ) (d : Node) (all bs : List BConn) (classes : List ℕ) (a : ℕ) → Joining t s u l d all bs classes a → IsGoodNode (count u.levels l) (exits u.levels l) (node_with u.tuples a bs)
joining_good t s u l d all bs classes a h =
    ready_good (count t.levels l) (count u.levels l) (points l) (exits t.levels l) (exits u.levels l) (pattern t.levels l) (pattern u.levels l) d (map (connection_of u.tuples) all) (map (connection_of u.tuples) bs) classes a (joining t s u l d all bs classes a h)

pub joining_spell : (t s u : Groupings) (l : ℕ) (d : Node) (all bs : List BConn) (classes : List ℕ) (a : ℕ) → Joining t s u l d all bs classes a → spell (pattern u.levels l) (node_with u.tuples a bs) ≡ spell (pattern t.levels l) d
joining_spell t s u l d all bs classes a h =
    ready_spell (count t.levels l) (count u.levels l) (points l) (exits t.levels l) (exits u.levels l) (pattern t.levels l) (pattern u.levels l) d (map (connection_of u.tuples) all) (map (connection_of u.tuples) bs) classes a (joining t s u l d all bs classes a h)

-- so the node may be interned
pub internable : (t s u : Groupings) (l : ℕ) (d : Node) (all bs : List BConn) (classes : List ℕ) (a : Gid) → Joining t s u l d all bs classes a.at → a.level ≡ l → l ≤ 6 → IsInternable u a bs
internable t s u l d all bs classes a h e six = record {
  level = omega (arith, e, six);
  connections = λ k b lk.
      (let f = joining_fit t s u l d all bs classes a.at h k lk in
      let at = get_or_default bs k b blank lk in
      record { level = ap (λ (b : BConn). b.«to».level) at ∙ f.level ∙ sym e; tuple = omega (arith, ap (λ (b : BConn). b.ret.at) at, f.listed) });
  good = subst (λ (m : ℕ). IsGoodNode (count u.levels m) (exits u.levels m) (node_with u.tuples a.at bs)) (sym e) (joining_good t s u l d all bs classes a.at h);
}

-- the grouping that was interned spells the loose_node node
pub joined : (t s u v : Groupings) (l : ℕ) (d : Node) (all bs : List BConn) (classes : List ℕ) (a : ℕ) → Joining t s u l d all bs classes a → Extends u.levels v.levels
    → (g : Gid) → g.level ≡ suc l → IsInterned u.levels v.levels g.level (node_with u.tuples a bs) g.at → Stands v.levels g (suc l) (spell (pattern t.levels l) d)
unfolding pattern
joined t s u v l d all bs classes a h x g e i =
    let is_it : node v.levels (suc l) g.at ≡ node_with u.tuples a bs = subst (λ (m : ℕ). node v.levels m g.at ≡ node_with u.tuples a bs) e i.is_it in
    record {
      level = e;
      there = i.there;
      is_it = ap (λ (m : ℕ). pattern v.levels m g.at) e ∙ ap (λ (n : Node). spell (pattern v.levels l) n) is_it
          ∙ spell_kept u.levels v.levels h.good2 x l (node_with u.tuples a bs) (joining_good t s u l d all bs classes a h)
          ∙ joining_spell t s u l d all bs classes a h;
    }

-- what `merge` asks of `join`
pub merging : (t : Levels) → IsGood t → (k l i a : ℕ) (cs : List ℕ) (d : Node) → l + 1 ≡ k → i < count t k → a ≡ (node t k i).a_callee → d ≡ record { a_callee = a; connections = map (classed_connection cs) (node t k i).connections } → length cs ≡ exits t k i → Grows 0 cs
    → IsLooseNode (count t l) (exits t l) d × (spell (pattern t l) d ≡ classed cs (pattern t k i))
unfolding pattern
merging t g k l i a cs d e h ea ed long grow = at k (sym (add-one l) ∙ e) h ea ed long
  where
    at_suc : (h : i < count t (suc l)) → a ≡ (node t (suc l) i).a_callee → d ≡ record { a_callee = a; connections = map (classed_connection cs) (node t (suc l) i).connections } → length cs ≡ exits t (suc l) i → IsLooseNode (count t l) (exits t l) d × (spell (pattern t l) d ≡ classed cs (pattern t (suc l) i))
    at_suc h ea ed long =
        let n = node t (suc l) i in
        let good : IsGoodNode (count t l) (exits t l) n = g.good_nodes l i h in
        let d_is : d ≡ classed_node cs n = ed ∙ ap (λ (x : ℕ). made x (map (classed_connection cs) n.connections)) ea in (
          subst (λ (m : Node). IsLooseNode (count t l) (exits t l) m) (sym d_is) (loose_classed (count t l) (exits t l) n good cs grow long),
          ap (λ (m : Node). spell (pattern t l) m) d_is ∙ sym (spell_classed (count t l) (points l) (exits t l) (pattern t l) (level_holds t g l) n good cs),
        )

    at : (k : ℕ) → suc l ≡ k → i < count t k → a ≡ (node t k i).a_callee → d ≡ record { a_callee = a; connections = map (classed_connection cs) (node t k i).connections } → length cs ≡ exits t k i → IsLooseNode (count t l) (exits t l) d × (spell (pattern t l) d ≡ classed cs (pattern t k i))
    at k q = subst (λ (k : ℕ). i < count t k → a ≡ (node t k i).a_callee → d ≡ record { a_callee = a; connections = map (classed_connection cs) (node t k i).connections } → length cs ≡ exits t k i → IsLooseNode (count t l) (exits t l) d × (spell (pattern t l) d ≡ classed cs (pattern t k i))) q at_suc

-- what `thin` answers: `t` at entry, `s` after the callee was merged, `u` after the tuple was interned
pub thinned : (t s u : Groupings) (l at : ℕ) (labels ranks ds : List ℕ) (to : Gid) (ret : ℕ) (b : BConn) → IsGood t.levels → IsGood s.levels → u.levels ≡ s.levels → at < count t.levels l → length labels ≡ exits t.levels l at
    → IsCanon labels ranks ds → Stands s.levels to l (classed ranks (pattern t.levels l at)) → IsInternedTuple s.tuples u.tuples ds ret → b.«to» ≡ to → b.ret.at ≡ ret
    → IsThin u l (row (pattern t.levels l) (returning at labels)) labels b
thinned t s u l at labels ranks ds to ret b gt gs e own long c h i eb er =
    let lev : b.«to».level ≡ l = ap (λ (g : Gid). g.level) eb ∙ h.level in
    let at_is : b.«to».at ≡ to.at = ap (λ (g : Gid). g.at) eb in
    let there : to.at < count s.levels l = subst (λ (m : ℕ). to.at < count s.levels m) h.level h.there in
    let is_it : pattern s.levels l to.at ≡ classed ranks (pattern t.levels l at) = subst (λ (m : ℕ). pattern s.levels m to.at ≡ classed ranks (pattern t.levels l at)) h.level h.is_it in
    let got : get_or u.tuples ret [] ≡ ds = get_or_from_slice_get u.tuples ret ds [] i.is_there in
    let shown : connection_of u.tuples b ≡ returning to.at ds = ap (λ (x : ℕ). returning x (get_or u.tuples b.ret.at [])) at_is ∙ ap (λ (r : ℕ). returning to.at (get_or u.tuples r [])) er ∙ ap (λ (r : List ℕ). returning to.at r) got in
    let below = level_holds t.levels gt l in
    let above = level_holds s.levels gs l in
    let full : width 0 (pattern t.levels l at) ≡ length labels = below.reaches at own ∙ sym long in
    let entries : width 0 (pattern s.levels l to.at) ≡ length ds = thin_entries (pattern s.levels l to.at) (pattern t.levels l at) ranks (length ds) (below.grows at own) (full ∙ sym (canon_length labels ranks ds c)) c.grows is_it c.reached in
    record {
      level = lev;
      listed = omega (arith, slice_get_within u.tuples ret ds i.is_there, er);
      good = subst (λ (n : Connection). IsGoodConnection (count u.levels l) (exits u.levels l) n) (sym shown) (subst (λ (v : Levels). IsGoodConnection (count v l) (exits v l) (returning to.at ds)) (sym e)
          (record { callee_exists = there; entries = sym entries ∙ above.reaches to.at there; once = differ_apart ds to.at c.differ }));
      row_is = ap (λ (n : Connection). row (pattern u.levels l) n) shown ∙ ap (λ (v : Levels). map (exit_at (returning to.at ds)) (pattern v l to.at)) e ∙ thin_row (pattern s.levels l to.at) (pattern t.levels l at) labels ranks ds full c is_it;
      carries = subst (λ (n : Connection). (m : ℕ) → Grows m labels → Grows m n.returns × (width m n.returns ≡ width m labels)) (sym shown) (thin_order labels ranks ds c);
    }
