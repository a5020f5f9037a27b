use Rattle.std.proofs.Common.{◌≡◌, ℕ, zero, suc, ◌<◌, ◌+◌, max, List, [], ◌∷◌, map, refl, sym, ◌∙◌, ap, subst, length, arith, Some, Option}
use Rattle.std.specs.List.{slice_get}
use Rattle.std.proofs.lemmas.Option.{get_or_from_slice_get}
use Rattle.cf_model.specs.Renumbering.{width, Grows, IsCanon, AllDiffer}
use Rattle.cf_model.specs.Diagrams.{Levels, Node, count, row, pattern, exits, IsGood, Extends}
use Rattle.cf_model.proofs.RenumberingLaws.{numbers_from, length-numbers_from, read_numbers}
use Rattle.cf_model.proofs.Growth.{Under-width}
use Rattle.cf_model.proofs.Growing.{Extends-refl, exits_kept}
use Rattle.cf_model.proofs.Canonicity.{level_holds}
use Rattle.cf_tuple.specs.Books.{IsInterned as IsInternedTuple}
use Rattle.cf_table.specs.declared.Gid.{Gid}
use Rattle.cf_table.specs.declared.BConn.{BConn}
use Rattle.cf_table.specs.Groupings.{Groupings}
use Rattle.cf_build.specs.Assembling.{classed}
use Rattle.cf_build.specs.Joining.{IsLooseNode, returning, IsThin, AreThin}
use Rattle.cf_build.proofs.Words.{classed_same}
use Rattle.cf_build.proofs.Turns.{Joining, thinned}

-- the numbers in their order grow
numbers_grow : (n k : ℕ) → Grows n (numbers_from n k) × (width n (numbers_from n k) ≡ n + k)
numbers_grow n zero = (tt, omega arith)
numbers_grow n (suc k) =
    let e : max n (suc n) ≡ suc n = omega arith in
    let r = numbers_grow (suc n) k in
    let s : suc n + k ≡ n + suc k = omega arith in
    ((omega arith, subst (λ (m : ℕ). Grows m (numbers_from (suc n) k)) (sym e) r.0), ap (λ (m : ℕ). width m (numbers_from (suc n) k)) e ∙ r.1 ∙ s)

read_from : {A : Type 0} (xs : List A) (f : ℕ → Option A) (n : ℕ) → ((i : ℕ) → i < length xs → f (n + i) ≡ slice_get xs i) → map f (numbers_from n (length xs)) ≡ map Some xs
read_from [] f n h = refl
read_from (x ∷ xs) f n h =
    let top : f n ≡ Some x = ap f (let e : n ≡ n + 0 = omega arith in e) ∙ h 0 (omega arith) in
    let rest : map f (numbers_from (suc n) (length xs)) ≡ map Some xs = read_from xs f (suc n) (λ i l. ap f (let e : suc n + i ≡ n + suc i = omega arith in e) ∙ h (suc i) (omega (arith, l))) in
    cc

-- the ranks of labels that differ are their places
pub differ_canon : {A : Type 0} (xs : List A) → AllDiffer xs → IsCanon xs (numbers_from 0 (length xs)) xs
differ_canon xs d =
    let g = numbers_grow 0 (length xs) in
    record {
      spells = read_from xs (slice_get xs) 0 (λ i l. ap (slice_get xs) (let e : 0 + i ≡ i = omega arith in e));
      grows = g.0;
      reached = omega (arith, g.1);
      differ = d;
    }

-- a grouping stays what it is where each exit is its own class
own_classes : (t : Levels) → IsGood t → (l i k : ℕ) → i < count t l → k ≡ exits t l i → pattern t l i ≡ classed (numbers_from 0 k) (pattern t l i)
own_classes t g l i k own long =
    let cs = numbers_from 0 k in
    let len : length cs ≡ k = length-numbers_from 0 k in
    sym (classed_same cs (pattern t l i) (Under-width 0 (length cs) (pattern t l i) (omega (arith, (level_holds t g l).reaches i own, long, len)))
    (λ j lj. (let e : 0 + j ≡ j = omega arith in get_or_from_slice_get cs j (0 + j) 0 (read_numbers 0 k j (omega (arith, lj, len))) ∙ e)))

-- what `thin` answers where the labels differ
pub differing : (t u : Groupings) (labels : List ℕ) (g : Gid) (ret : ℕ) (b : BConn) → IsGood t.levels → u.levels ≡ t.levels → g.at < count t.levels g.level → length labels ≡ exits t.levels g.level g.at
    → AllDiffer labels → IsInternedTuple t.tuples u.tuples labels ret → b.«to» ≡ g → b.ret.at ≡ ret → IsThin u g.level (row (pattern t.levels g.level) (returning g.at labels)) labels b
differing t u labels g ret b gt e own long d i eb er =
    thinned t t u g.level g.at labels (numbers_from 0 (length labels)) labels g ret b gt gt e own long (differ_canon labels d)
    (record { level = refl; there = own; is_it = own_classes t.levels gt g.level g.at (length labels) own long }) i eb er

-- what `join` knows where the thinned rows differ, which were lent twice
pub joining_differing : (t s : Groupings) (l : ℕ) (d : Node) (conns tested all : List BConn) → tested ≡ conns → all ≡ conns → IsGood t.levels → IsLooseNode (count t.levels l) (exits t.levels l) d → IsGood s.levels → Extends t.levels s.levels
    → AreThin s l (pattern t.levels l) d.connections conns → AllDiffer s.tuples → AllDiffer tested → Joining t s s l d all all (numbers_from 0 (length all)) d.a_callee
joining_differing t s l d conns tested all same lent gt loose gs x thin dt da =
    let there : d.a_callee < count s.levels l = omega (arith, loose.callee_exists, x.more l) in
    let are : AreThin s l (pattern t.levels l) d.connections all = subst (λ (v : List BConn). AreThin s l (pattern t.levels l) d.connections v) (sym lent) thin in
    let long : length all ≡ exits s.levels l d.a_callee = are.long ∙ loose.middles ∙ sym (exits_kept t.levels s.levels x l d.a_callee loose.callee_exists) in
    record {
      good = gt;
      is_loose = loose;
      good1 = gs;
      extends1 = x;
      thin = are;
      canon = differ_canon all (subst (λ (v : List BConn). AllDiffer v) (same ∙ sym lent) da);
      good2 = gs;
      extends2 = Extends-refl s.levels;
      longer2 = record { more = omega arith; kept = λ i h. refl };
      differ = dt;
      callee_exists = there;
      a_callee = own_classes s.levels gs l d.a_callee (length all) there long;
    }
