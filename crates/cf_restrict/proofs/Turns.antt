use Rattle.std.proofs.Common.{◌≡◌, ℕ, zero, suc, ◌<◌, ◌≤◌, ◌+◌, ◌-◌, ◌^◌, Bool, true, false, List, [], ◌∷◌, ◌++◌, map, refl, sym, ◌∙◌, ap, subst, length, get_or, arith, inl, inr, Some}
use Rattle.std.specs.Prelude.{if◌then◌else◌}
use Rattle.std.specs.List.{flat_map, All, Contains, slice_get}
use Rattle.std.proofs.lemmas.Bool.{cases_lt}
use Rattle.std.proofs.lemmas.List.{length-map, length-set, get_or-map, get_or_default}
use Rattle.cf_model.specs.Assignments.{number_of, with_bit, all_bits}
use Rattle.cf_model.specs.Pointwise.{restricted}
use Rattle.cf_model.specs.Renumbering.{AllDiffer, IsCanon}
use Rattle.cf_model.specs.FlatFunctions.{points}
use Rattle.cf_model.specs.Patterns.{Pattern, sub}
use Rattle.cf_model.specs.Diagrams.{Levels, Connection, exit_at, connection_at, count, node, row, pattern, exits, IsGoodConnection, IsGood, Extends}
use Rattle.cf_model.proofs.AssignmentLaws.{length-all_bits}
use Rattle.cf_model.proofs.FlatFunctionLaws.{points-is}
use Rattle.cf_model.proofs.Growth.{Under, Under-width}
use Rattle.cf_model.proofs.Entries.{Under-get_or}
use Rattle.cf_model.proofs.Canonicity.{level_holds, row_tells, row_points, pattern-dont_care}
use Rattle.cf_model.proofs.Growing.{pattern_kept, exits_kept, Extends-refl}
use Rattle.cf_table.specs.declared.Gid.{Gid}
use Rattle.cf_table.proofs.Told.{good_node, base_exits}
use Rattle.cf_table.proofs.Differ.{differ_apart}
use Rattle.cf_build.specs.Assembling.{row_of, label_at, row_labels, labels_over, HasCanon, AddsOnly}
use Rattle.cf_build.proofs.Joins.{flat_map_under}
use Rattle.cf_build.proofs.PartLaws.{sub_of_b}
use Rattle.cf_pair.specs.Products.{Lists, ListEach, AddsOnlyIn, HasListed}
use Rattle.cf_pair.proofs.Zips.{all_labels_of, differ_map}
use Rattle.cf_pair.proofs.Rows.{row_listed, labels_listed, Lists-kept, listed_more, each_row, assembled_added}
use Rattle.cf_model.proofs.Callees.{row_canon}
use Rattle.cf_tuple.proofs.BookLaws.{Lengthens-same}
use Rattle.cf_build.proofs.Words.{map_same}
use Rattle.cf_table.specs.Groupings.{Groupings}
use Rattle.cf_pair.proofs.Constants.{own_canon}
use Rattle.cf_model.proofs.CanonLaws.{same_lists}
use Rattle.std.proofs.lemmas.Option.{slice_get-get_or}
use Rattle.cf_pair.proofs.Pairs.{callee_kept, callee_under, base_read, canon_same}
use Rattle.cf_restrict.specs.Restrictions.{exit_in, restricted_exits, returned_exits}
use Rattle.cf_restrict.proofs.BitTables.{all_bits-long, within_bits}
use Rattle.cf_restrict.proofs.HalfWords.{first_words, second_words, row_words}
use Rattle.cf_restrict.proofs.Covered.{Reads, covered}

base_set : (x y i : ℕ) (b : Bool) → i < 1 → restricted_exits 0 (x ∷ y ∷ []) i b ≡ (if b then y else x) ∷ (if b then y else x) ∷ []
unfolding all_bits
base_set x y zero true h = refl
base_set x y zero false h = refl
base_set x y (suc i) b h = absurd (omega (arith, h))

-- the one exit that is left of a grouping of level 0
pub base_made : (t : Levels) → IsGood t → (g : Gid) → g.level ≡ 0 → g.at < count t g.level → (i : ℕ) → i < 1 → (b : Bool) → (es : List ℕ) → es ≡ (if b then g.at else 0) ∷ []
    → HasCanon t (record { level = 0; at = 0 }) 0 (restricted_exits 0 (pattern t g.level g.at) i b) es
base_made t good g e own i hi b es ee =
    let r = base_exits t good g.level g.at e own in
    let last : exits t 0 g.at - 1 ≡ g.at = omega (arith, r.1, ap (λ (m : ℕ). exits t m g.at) e) in
    let p : pattern t g.level g.at ≡ 0 ∷ g.at ∷ [] = ap (λ (m : ℕ). pattern t m g.at) e ∙ base_read t g.at r.0 ∙ ap (λ (x : ℕ). 0 ∷ x ∷ []) last in
    let x : ℕ = if b then g.at else 0 in
    let all : restricted_exits 0 (pattern t g.level g.at) i b ≡ x ∷ x ∷ [] = ap (λ (q : List ℕ). restricted_exits 0 q i b) p ∙ base_set 0 g.at i b hi in
    record {
      level = refl;
      there = omega (arith, good.base);
      canon = subst (λ (v : List ℕ). IsCanon v (pattern t 0 0) es) (sym all)
          (subst (λ (v : List ℕ). IsCanon (x ∷ x ∷ []) (pattern t 0 0) v) (sym ee) (subst (λ (v : List ℕ). IsCanon (x ∷ x ∷ []) v (x ∷ [])) (sym (pattern-dont_care t)) (canon_same x)));
    }

-- exits with a bit set are exits
restricted_in : (n m i : ℕ) (b : Bool) (p : List ℕ) → Under m p → length p ≡ 2 ^ n → All (λ e. e < m) (map (restricted (exit_in p) i b) (all_bits n))
restricted_in n m i b p under full j d lj =
    let lb : j < length (all_bits n) = omega (arith, lj, length-map (all_bits n) (restricted (exit_in p) i b)) in
    let bits = get_or (all_bits n) j [] in
    let long : length (with_bit bits i b) ≡ n = length-set bits i b ∙ all_bits-long n j [] lb in
    subst (λ (e : ℕ). e < m) (sym (get_or-map (restricted (exit_in p) i b) (all_bits n) j [] d lb)) (Under-get_or m p (number_of (with_bit bits i b)) under (within_bits n p (with_bit bits i b) long full))

-- the different ones of them too
pub labels_in : (n m i : ℕ) (b : Bool) (p ranks es : List ℕ) → Under m p → length p ≡ 2 ^ n → IsCanon (map (restricted (exit_in p) i b) (all_bits n)) ranks es → All (λ e. e < m) es
labels_in n m i b p ranks es under full c = all_labels_of (λ e. e < m) (map (restricted (exit_in p) i b) (all_bits n)) ranks es 0 c (restricted_in n m i b p under full)

zeros_at : (xs : List ℕ) (k : ℕ) → All (λ e. e < 1) xs → k < length xs → slice_get xs k ≡ Some 0
zeros_at xs k h lk =
    let zero_there : get_or xs k 0 ≡ 0 = (let e = h k 0 lk in omega (arith, e)) in
    slice_get-get_or xs k 0 lk ∙ ap Some zero_there

-- a grouping with one exit has it with any bit set
pub constant_made : (t : Levels) → IsGood t → (g : Gid) → g.at < count t g.level → exits t g.level g.at ≡ 1 → (i : ℕ) (b : Bool) (es : List ℕ) → es ≡ 0 ∷ []
    → HasCanon t g g.level (restricted_exits g.level (pattern t g.level g.at) i b) es
constant_made t good g own one i b es e =
    let l = g.level in
    let p = pattern t l g.at in
    let o = level_holds t good l in
    let full : length p ≡ 2 ^ (2 ^ l) = o.points g.at own ∙ points-is l in
    let under : Under 1 p = Under-width 0 1 p (omega (arith, o.reaches g.at own, one)) in
    let all = restricted_exits l p i b in
    let long : length all ≡ length p = length-map (all_bits (2 ^ l)) (restricted (exit_in p) i b) ∙ length-all_bits (2 ^ l) ∙ sym full in
    let low : All (λ x. x < 1) p = λ k d lk. subst (λ (x : ℕ). x < 1) (get_or_default p k 0 d lk) (Under-get_or 1 p k under lk) in
    let same : all ≡ p = same_lists all p long (λ k lk. zeros_at all k (restricted_in (2 ^ l) 1 i b p under full) lk ∙ sym (zeros_at p k low (omega (arith, lk, long)))) in
    record {
      level = refl;
      there = own;
      canon = subst (λ (v : List ℕ). IsCanon v p es) (sym same) (subst (λ (v : List ℕ). IsCanon p p v) (sym e) (own_canon 1 p (o.grows g.at own) (o.reaches g.at own ∙ one)));
    }

-- the exits of a restricted callee have a place in the return tuple
pub exits_in : (t : Levels) → IsGood t → (l i : ℕ) (b : Bool) (c : Connection) → IsGoodConnection (count t l) (exits t l) c → (ranks es : List ℕ) → IsCanon (restricted_exits l (pattern t l c.callee) i b) ranks es → All (λ e. e < length c.returns) es
exits_in t good l i b c gc ranks es k =
    labels_in (2 ^ l) (length c.returns) i b (pattern t l c.callee) ranks es (callee_under t good l c gc) ((level_holds t good l).points c.callee gc.callee_exists ∙ points-is l) k

-- the row that is made of a B-connection
pub row_made : (t u : Levels) → IsGood t → IsGood u → (l i : ℕ) (b : Bool) (c : Connection) → IsGoodConnection (count t l) (exits t l) c → (g : Gid) (es : List ℕ) (labels : List ℕ)
    → HasCanon u g l (restricted_exits l (pattern t l c.callee) i b) es → labels ≡ returned_exits c.returns es → Lists u l (restricted_exits l (row (pattern t l) c) i b) (g, labels)
row_made t u gt gu l i b c gc g es labels h e =
    let all = restricted_exits l (pattern t l c.callee) i b in
    let own : g.at < count u l = subst (λ (m : ℕ). g.at < count u m) h.level h.there in
    let canon : IsCanon all (pattern u l g.at) es = subst (λ (m : ℕ). IsCanon all (pattern u m g.at) es) h.level h.canon in
    record {
      is_row = record { level = h.level; owned = own; labelled = ap length e ∙ length-map es (exit_at c) ∙ sym canon.reached ∙ (level_holds u gu l).reaches g.at own };
      labels = row_listed (exit_at c) all (pattern u l g.at) es labels 0 canon e ∙ sym (row_words t gt l i b c gc);
      differ = subst (λ (v : List ℕ). AllDiffer v) (sym e)
          (differ_map (exit_at c) (λ x. x < length c.returns) es 0 (exits_in t gt l i b c gc (pattern u l g.at) es canon) (λ x y hx hy q. gc.once x y hx hy q) canon.differ);
    }

-- the row of a B-connection as it is
pub row_as_it_is : (t : Levels) → IsGood t → (l : ℕ) (c : Connection) → IsGoodConnection (count t l) (exits t l) c → (g : Gid) → g.level ≡ l → g.at ≡ c.callee → (labels : List ℕ) → labels ≡ c.returns → Lists t l (row (pattern t l) c) (g, labels)
row_as_it_is t good l c gc g lev at labels e =
    let canon = row_canon (count t l) (points l) (exits t l) (pattern t l) (level_holds t good l) c gc in
    record {
      is_row = record { level = lev; owned = omega (arith, gc.callee_exists, at); labelled = ap length e ∙ gc.entries ∙ ap (exits t l) (sym at) };
      labels = ap (λ (m : ℕ). flat_map (label_at labels) (pattern t l m)) at
          ∙ row_listed (λ (x : ℕ). x) (row (pattern t l) c) (pattern t l c.callee) c.returns labels 0 canon (e ∙ sym (map_same c.returns))
          ∙ map_same (row (pattern t l) c);
      differ = subst (λ (v : List ℕ). AllDiffer v) (sym e) canon.differ;
    }

-- one more row, in a table that stays as it is
pub each_more : (t : Groupings) → IsGood t.levels → (l : ℕ) (wanted : ℕ → List ℕ) (i : ℕ) (rows after : List (Gid × List ℕ)) (r : Gid × List ℕ) → ListEach t.levels l wanted i rows → Lists t.levels l (wanted i) r → after ≡ rows ++ r ∷ []
    → ListEach t.levels l wanted (i + 1) after
each_more t good l wanted i rows after r each new e =
    let same = Lengthens-same t.tuples t.tuples refl in
    let known : HasListed t t l wanted i rows = record { good = good; extends = Extends-refl t.levels; longer = same; listed = each; added = λ k j ge lt. absurd (omega (arith, ge, lt)) } in
    (listed_more t t t l wanted i rows after r known new (λ k j ge lt. absurd (omega (arith, ge, lt))) good (Extends-refl t.levels) same e).listed

-- What is known once the A-callee was restricted, to grouping e: `t` at entry, `u` after that.
pub record FirstCall (t u : Levels) (g a e : Gid) (i : ℕ) (b : Bool) (ms : List ℕ) (rows : List (Gid × List ℕ)) : Type 0 where
  pub good : IsGood t
  pub positive : 1 ≤ g.level
  pub bit : i < 2 ^ (g.level - 1)
  pub owned : g.at < count t g.level
  pub a_level : a.level + 1 ≡ g.level
  pub a_is : a.at ≡ (node t g.level g.at).a_callee
  pub good1 : IsGood u
  pub extends1 : Extends t u
  pub canon : HasCanon u e a.level (restricted_exits a.level (pattern t a.level a.at) i b) ms
  pub listed : ListEach u (g.level - 1) (λ j. row (pattern u (g.level - 1)) (connection_at (node u g.level g.at).connections (get_or ms j 0))) (length ms) rows

-- the canon of the middle vertices, in the table that the rows are read in
pub middles_canon : (t u : Levels) → IsGood t → Extends t u → (k l g a i : ℕ) (b : Bool) (p ms : List ℕ) → l + 1 ≡ k → g < count t k → a ≡ (node t k g).a_callee → IsCanon (restricted_exits l (pattern t l a) i b) p ms
    → IsCanon (restricted_exits l (pattern u l (node u k g).a_callee) i b) p ms
middles_canon t u good x k l g a i b p ms e hg ae c = subst (λ (q : List ℕ). IsCanon (restricted_exits l q i b) p ms) (callee_kept t u good x k l g a e hg ae) c

pub middles_in : (u : Levels) → IsGood u → (k l g i : ℕ) (b : Bool) (p ms : List ℕ) → l + 1 ≡ k → g < count u k → IsCanon (restricted_exits l (pattern u l (node u k g).a_callee) i b) p ms → All (λ j. j < length (node u k g).connections) ms
middles_in u good k l g i b p ms e hg c =
    let n = good_node u good k l g e hg in
    let w = level_holds u good l in
    let a = (node u k g).a_callee in
    labels_in (2 ^ l) (length (node u k g).connections) i b (pattern u l a) p ms (Under-width 0 (length (node u k g).connections) (pattern u l a) (omega (arith, w.reaches a n.callee_exists, n.middles))) (w.points a n.callee_exists ∙ points-is l) c

-- what is known once the rows that are left were assembled
pub first_made : (t u w : Levels) (g a e : Gid) (i : ℕ) (b : Bool) (ms : List ℕ) (rows : List (Gid × List ℕ)) (r : Gid) (ds : List ℕ) → FirstCall t u g a e i b ms rows → IsGood w → Extends u w
    → HasCanon w r (suc e.level) (labels_over (pattern u e.level) e.at (map row_of rows)) ds
    → AddsOnly t u (sub e.level (pattern u e.level e.at)) → AddsOnly u w (sub r.level (pattern w r.level r.at))
    → HasCanon w r g.level (restricted_exits g.level (pattern t g.level g.at) i b) ds × AddsOnly t w (sub r.level (pattern w r.level r.at))
first_made t u w g a e i b ms rows r ds c gw x assembled added1 added3 =
    let k = g.level in
    let l = k - 1 in
    let below : l + 1 ≡ k = omega (arith, c.positive) in
    let la : a.level ≡ l = omega (arith, c.a_level) in
    let le : e.level ≡ l = c.canon.level ∙ la in
    let canon : HasCanon u e l (restricted_exits l (pattern t l a.at) i b) ms = subst (λ (m : ℕ). HasCanon u e m (restricted_exits m (pattern t m a.at) i b) ms) la c.canon in
    let callee_exists : e.at < count u l = subst (λ (m : ℕ). e.at < count u m) le canon.there in
    let told : IsCanon (restricted_exits l (pattern t l a.at) i b) (pattern u l e.at) ms = subst (λ (m : ℕ). IsCanon (restricted_exits l (pattern t l a.at) i b) (pattern u m e.at) ms) le canon.canon in
    let gu : g.at < count u k = omega (arith, c.owned, c.extends1.more k) in
    let mc = middles_canon t u c.good c.extends1 k l g.at a.at i b (pattern u l e.at) ms below c.owned c.a_is told in
    let inside = middles_in u c.good1 k l g.at i b (pattern u l e.at) ms below gu mc in
    let n = good_node u c.good1 k l g.at below gu in
    let o = level_holds u c.good1 l in
    let bs = (node u k g.at).connections in
    let word : ℕ → List ℕ = λ j. row (pattern u l) (connection_at bs j) in
    let s : HasCanon w r (suc l) (labels_over (pattern u l) e.at (map row_of rows)) ds = subst (λ (m : ℕ). HasCanon w r (suc m) (labels_over (pattern u m) e.at (map row_of rows)) ds) le assembled in
    let long = c.listed.long in
    let whole : labels_over (pattern u l) e.at (map row_of rows) ≡ restricted_exits k (pattern t k g.at) i b =
    labels_listed (pattern u l) e.at (restricted_exits l (pattern u l (node u k g.at).a_callee) i b) ms 0 word (map row_of rows) mc
    (λ j lj. each_row (λ y. row_labels (pattern u l) y ≡ word (get_or ms j 0)) rows j (omega (arith, lj, long)) (λ d. (c.listed.each j d lj).labels))
    ∙ sym (first_words u c.good1 k l g.at i b below gu c.bit)
    ∙ ap (λ (q : List ℕ). restricted_exits k q i b) (pattern_kept t u c.good c.extends1 k g.at c.owned) in (
      record { level = omega (arith, s.level, below); there = s.there; canon = subst (λ (v : List ℕ). IsCanon v (pattern w r.level r.at) ds) whole s.canon },
      assembled_added t u u w l e.at rows (λ j. word (get_or ms j 0)) r ds
          (record {
            good = c.good;
            good1 = c.good1;
            good2 = c.good1;
            good3 = gw;
            extends1 = c.extends1;
            extends2 = Extends-refl u;
            extends3 = x;
            callee_exists = callee_exists;
            middles = long ∙ sym told.reached ∙ o.reaches e.at callee_exists;
            listed = record { long = refl; each = λ j d lj. c.listed.each j d (omega (arith, lj, long)) };
            full = λ j lj. row_points (count u l) (points l) (exits u l) (pattern u l) o (connection_at bs (get_or ms j 0)) (n.good_connections (get_or ms j 0) (inside j 0 (omega (arith, lj, long))));
            apart = λ y z ly lz q.
                (let hy : y < length ms = omega (arith, ly, long) in
                let hz : z < length ms = omega (arith, lz, long) in
                let iy = inside y 0 hy in
                let iz = inside z 0 hz in
                differ_apart 0 ms told.differ y z hy hz
                (n.differ (get_or ms y 0) (get_or ms z 0) iy iz (row_tells (count u l) (points l) (exits u l) (pattern u l) o (connection_at bs (get_or ms y 0)) (connection_at bs (get_or ms z 0)) (n.good_connections (get_or ms y 0) iy) (n.good_connections (get_or ms z 0) iz) q)));
            canon = s;
            added1 = subst (λ (m : ℕ). AddsOnly t u (sub m (pattern u m e.at))) le added1;
            added2 = λ y z ge lt. absurd (omega (arith, ge, lt));
            added3 = added3;
          }),
    )

-- What is known once each row was restricted: `t` at entry, `v` after that.
pub record SecondCall (t v : Levels) (g a : Gid) (i : ℕ) (b : Bool) (rows : List (Gid × List ℕ)) : Type 0 where
  pub good : IsGood t
  pub positive : 1 ≤ g.level
  pub owned : g.at < count t g.level
  pub a_level : a.level + 1 ≡ g.level
  pub a_is : a.at ≡ (node t g.level g.at).a_callee
  pub good2 : IsGood v
  pub extends2 : Extends t v
  pub listed : ListEach v (g.level - 1) (λ j. restricted_exits (g.level - 1) (row (pattern t (g.level - 1)) (connection_at (node t g.level g.at).connections j)) i b) (length (node t g.level g.at).connections) rows

abbrev pattern_at : Levels → ℕ → ℕ → Pattern
pattern_at t k j = record { level = k; ranks = pattern t k j }

-- what is known once the restricted rows were assembled
pub second_made : (t v w : Levels) (g a : Gid) (i : ℕ) (b : Bool) (rows : List (Gid × List ℕ)) (r : Gid) (ds : List ℕ) → SecondCall t v g a i b rows → IsGood w → Extends v w
    → HasCanon w r (suc a.level) (labels_over (pattern v a.level) a.at (map row_of rows)) ds
    → AddsOnlyIn t v (g.level - 1) rows → AddsOnly v w (sub r.level (pattern w r.level r.at))
    → HasCanon w r g.level (restricted_exits g.level (pattern t g.level g.at) (2 ^ (g.level - 1) + i) b) ds × AddsOnly t w (sub r.level (pattern w r.level r.at))
second_made t v w g a i b rows r ds c gw x assembled added2 added3 =
    let k = g.level in
    let l = k - 1 in
    let below : l + 1 ≡ k = omega (arith, c.positive) in
    let la : a.level ≡ l = omega (arith, c.a_level) in
    let n = good_node t c.good k l g.at below c.owned in
    let bs = (node t k g.at).connections in
    let words : ℕ → List ℕ = λ j. restricted_exits l (row (pattern t l) (connection_at bs j)) i b in
    let long = c.listed.long in
    let lr : length (map row_of rows) ≡ length rows = length-map rows row_of in
    let own : a.at < count t l = omega (arith, n.callee_exists, c.a_is) in
    let own_v : a.at < count v l = omega (arith, own, c.extends2.more l) in
    let own_w : a.at < count w l = omega (arith, own_v, x.more l) in
    let same_v : pattern v l a.at ≡ pattern t l a.at = pattern_kept t v c.good c.extends2 l a.at own in
    let same_w : pattern w l a.at ≡ pattern t l a.at = pattern_kept v w c.good2 x l a.at own_v ∙ same_v in
    let exits_v : exits v l a.at ≡ exits t l a.at = exits_kept t v c.extends2 l a.at own in
    let middles : length rows ≡ exits t l a.at = long ∙ n.middles ∙ ap (exits t l) (sym c.a_is) in
    let s : HasCanon w r (suc l) (labels_over (pattern v l) a.at (map row_of rows)) ds = subst (λ (m : ℕ). HasCanon w r (suc m) (labels_over (pattern v m) a.at (map row_of rows)) ds) la assembled in
    let under : Under (length rows) (pattern v l a.at) = Under-width 0 (length rows) (pattern v l a.at) (omega (arith, (level_holds v c.good2 l).reaches a.at own_v, exits_v, middles)) in
    let read : labels_over (pattern v l) a.at (map row_of rows) ≡ flat_map words (pattern t l a.at) =
    flat_map_under (λ j. row_labels (pattern v l) (get_or (map row_of rows) j (0, []))) words (length rows) (pattern v l a.at) under
    (λ j lj. each_row (λ y. row_labels (pattern v l) y ≡ words j) rows j lj (λ d. (c.listed.each j d (omega (arith, lj, long))).labels))
    ∙ ap (flat_map words) same_v in
    let whole : flat_map words (pattern t l a.at) ≡ restricted_exits k (pattern t k g.at) (2 ^ l + i) b =
    ap (λ (m : ℕ). flat_map words (pattern t l m)) c.a_is ∙ sym (second_words t c.good k l g.at i b below c.owned) in
    let exists : r.at < count w (suc l) = subst (λ (m : ℕ). r.at < count w m) s.level s.there in
    let kept : (j : ℕ) (d : _) → j < length rows → Lists w l (words j) (get_or rows j d) = λ j d lj. Lists-kept v w l (words j) (get_or rows j d) c.good2 x (c.listed.each j d (omega (arith, lj, long))) in
    let here : (j : ℕ) → j < length (map row_of rows) → j < length rows = λ j lj. omega (arith, lj, lr) in
    let o : Reads w l a.at r.at (map row_of rows) words ds = record {
      good = gw;
      callee_exists = own_w;
      middles = lr ∙ middles ∙ sym exits_v ∙ sym (exits_kept v w x l a.at own_v);
      exists = exists;
      canon = subst (λ (p : List ℕ). IsCanon (flat_map words p) (pattern w (suc l) r.at) ds) (sym same_w)
          (subst (λ (m : ℕ). IsCanon (flat_map words (pattern t l a.at)) (pattern w m r.at) ds) s.level (subst (λ (y : List ℕ). IsCanon y (pattern w r.level r.at) ds) read s.canon));
      owned = λ j lj. each_row (λ y. y.0 < count w l) rows j (here j lj) (λ d. (kept j d (here j lj)).is_row.owned);
      labelled = λ j lj. each_row (λ y. length y.1 ≡ exits w l y.0) rows j (here j lj) (λ d. (kept j d (here j lj)).is_row.labelled);
      words_are = λ j lj. each_row (λ y. row_labels (pattern w l) y ≡ words j) rows j (here j lj) (λ d. (kept j d (here j lj)).labels);
      full = λ j lj. length-map (all_bits (2 ^ l)) (restricted (exit_in (row (pattern t l) (connection_at bs j))) i b) ∙ length-all_bits (2 ^ l) ∙ sym (points-is l);
      differ = λ j lj. each_row (λ y. AllDiffer y.1) rows j (here j lj) (λ d. (kept j d (here j lj)).differ);
    } in
    let up : (y : Pattern) → Contains (sub (suc l) (pattern w (suc l) r.at)) y → Contains (sub r.level (pattern w r.level r.at)) y = λ y. subst (λ (m : ℕ). Contains (sub m (pattern w m r.at)) y) (sym s.level) in (
      record { level = omega (arith, s.level, below); there = s.there; canon = subst (λ (y : List ℕ). IsCanon y (pattern w r.level r.at) ds) (read ∙ whole) s.canon },
      λ y z ge lt. elim (cases_lt z (count v y)) [
        | inr hi ↦ added3 y z hi lt
        | inl lo ↦
            let q = added2 y z ge lo in
            let m = q.0 in
            let lm : m < length (map row_of rows) = omega (arith, q.1, lr) in
            let at = (get_or (map row_of rows) m (0, [])).0 in
            let f = covered w l a.at r.at (map row_of rows) words ds o m lm in
            let there : at < count v l = each_row (λ d. d.0 < count v l) rows m q.1 (λ d. (c.listed.each m d (omega (arith, q.1, long))).is_row.owned) in
            let same : pattern v y z ≡ pattern w y z = sym (pattern_kept v w c.good2 x y z lo) in
            let callee : pattern v l at ≡ pattern w l (connection_at (node w (suc l) r.at).connections f.0).callee = sym (f.2 ∙ pattern_kept v w c.good2 x l at there) in
            up (pattern_at w y z) (sub_of_b w gw l r.at f.0 exists f.1 (pattern_at w y z)
            (subst (λ (p : List ℕ). Contains (sub l p) (pattern_at w y z)) callee (subst (λ (p : List ℕ). Contains (sub l (pattern v l at)) (record { level = y; ranks = p })) same q.2)))
      ],
    )
