use Rattle.std.proofs.Common.{◌≡◌, ℕ, ◌<◌, ◌^◌, ℤ, pos, Bool, List, [], ◌∷◌, map, length, get_or, Option, Some, None, option_map, sym, ◌∙◌, ap, subst, arith}
use Rattle.std.specs.List.{slice_get, All}
use Rattle.std.specs.Ordering.{int_eq}
use Rattle.std.proofs.lemmas.Bool.Decides.{Decides-int_eq}
use Rattle.std.proofs.lemmas.List.{length-map, length-set, get_or-map, append-nil}
use Rattle.std.proofs.lemmas.Option.{slice_get-map, slice_get-get_or, get_or_from_slice_get}
use Rattle.cf_model.specs.Assignments.{number_of, bits_of, with_bit, all_bits}
use Rattle.cf_model.specs.Pointwise.{restricted}
use Rattle.cf_model.specs.Renumbering.{AllDiffer, IsCanon, rgs}
use Rattle.cf_model.specs.FlatFunctions.{IsAssignment, tabulated}
use Rattle.cf_model.specs.Patterns.{Pattern, sub, subs, pattern_of as flat_pattern}
use Rattle.cf_model.specs.Diagrams.{Levels, pattern, IsGood}
use Rattle.cf_model.specs.Functions.{IsFunction}
use Rattle.cf_model.proofs.FunctionLaws.{function_pattern}
use Rattle.cf_model.proofs.AssignmentLaws.{length-all_bits, all_bits-place, all_bits-order, bits_of-number_of, number_of-below}
use Rattle.cf_model.proofs.FlatFunctionLaws.{points-is}
use Rattle.cf_model.proofs.Growth.{Under, Under-width}
use Rattle.cf_model.proofs.CanonLaws.{canon_is, same_lists}
use Rattle.cf_model.proofs.RenumberingLaws.{map_each, map_map, canon_read}
use Rattle.cf_model.proofs.Canonicity.{level_holds, pattern_full}
use Rattle.cf_table.specs.declared.Gid.{Gid}
use Rattle.cf_build.specs.Assembling.{HasCanon, AddsOnly}
use Rattle.cf_pair.proofs.Zips.{differ_map}
use Rattle.cf_pkg.specs.declared.Func.{Func}
use Rattle.cf_pkg.specs.Packages.{Package, OwnsFunction, values_of, meaning, function_parts}
use Rattle.cf_pkg.specs.Jobs.{value_in, HasValues, Gives, IsLeastWithout}
use Rattle.cf_pkg.proofs.Valued.{read_at}
use Rattle.cf_restrict.specs.Restrictions.{exit_in, restricted_exits, values_at}
use Rattle.cf_restrict.proofs.BitTables.{map_same, all_bits-long, within_bits}
use Rattle.cf_restrict.proofs.Turns.{labels_in}

-- what is tabulated, read at an assignment
table_read : {A : Type 0} (n : ℕ) (f : List Bool → A) (bits : List Bool) → length bits ≡ n → slice_get (map f (all_bits n)) (number_of bits) ≡ Some (f bits)
table_read n f bits h =
    let below : number_of bits < 2 ^ n = subst (λ (k : ℕ). number_of bits < 2 ^ k) h (number_of-below bits) in
    let same : get_or (all_bits n) (number_of bits) [] ≡ bits = all_bits-order n (number_of bits) below ∙ ap (λ (k : ℕ). bits_of k (number_of bits)) (sym h) ∙ bits_of-number_of bits in
    slice_get-map f (all_bits n) (number_of bits) ∙ ap (option_map f) (slice_get-get_or (all_bits n) (number_of bits) [] (omega (arith, below, length-all_bits n)) ∙ ap Some same)

-- the value of an exit
abbrev pub value_of : List ℤ → ℕ → ℤ
value_of vs e = get_or vs e (pos 0)

-- different values of exits are the canon of the values where the exits are that of the exits
values_canon : (n i : ℕ) (b : Bool) (p ranks es : List ℕ) (vs : List ℤ) → Under (length vs) p → length p ≡ 2 ^ n → AllDiffer vs → IsCanon (map (restricted (exit_in p) i b) (all_bits n)) ranks es
    → IsCanon (map (λ bits. value_of vs (restricted (exit_in p) i b bits)) (all_bits n)) ranks (values_at vs es)
values_canon n i b p ranks es vs under full differ c =
    let h : ℕ → ℤ = value_of vs in
    let f : List Bool → ℕ = restricted (exit_in p) i b in
    record {
      spells = map_each (λ r. slice_get (map h es) r) (λ r. option_map h (slice_get es r)) (λ r. slice_get-map h es r) ranks
          ∙ sym (map_map (option_map h) (slice_get es) ranks) ∙ ap (map (option_map h)) c.spells ∙ map_map (option_map h) Some (map f (all_bits n))
          ∙ map_map (λ x. Some (h x)) f (all_bits n) ∙ sym (map_map Some (λ bits. h (f bits)) (all_bits n));
      grows = c.grows;
      reached = c.reached ∙ sym (length-map es h);
      differ = differ_map h (λ e. e < length vs) es 0 (labels_in n (length vs) i b p ranks es under full c)
          (λ x y hx hy q. differ x y (h x) (slice_get-get_or vs x (pos 0) hx) (slice_get-get_or vs y (pos 0) hy ∙ ap Some (sym q))) c.differ;
    }

-- What a recipe of restrictions knows of a function and of its restricted grouping g.
pub record Restriction (p : Package) (u : Levels) (f : Func) (i : ℕ) (b : Bool) (vs : List ℤ) (g : Gid) (es : List ℕ) : Type 0 where
  pub good : IsGood p.groupings.levels
  pub owned : OwnsFunction p f
  pub listed : slice_get p.lists f.vals.at ≡ Some vs
  pub differ : AllDiffer vs
  pub good1 : IsGood u
  pub canon : HasCanon u g f.head.level (restricted_exits f.head.level (pattern p.groupings.levels f.head.level f.head.at) i b) es

values_are : (p : Package) (u : Levels) (f : Func) (i : ℕ) (b : Bool) (vs : List ℤ) (g : Gid) (es : List ℕ) → Restriction p u f i b vs g es → values_of p f ≡ vs
values_are p u f i b vs g es r = get_or_from_slice_get p.lists f.vals.at vs [] r.listed

under_values : (p : Package) (u : Levels) (f : Func) (i : ℕ) (b : Bool) (vs : List ℤ) (g : Gid) (es : List ℕ) → Restriction p u f i b vs g es → Under (length vs) (pattern p.groupings.levels f.head.level f.head.at)
under_values p u f i b vs g es r =
    let t = p.groupings.levels in
    Under-width 0 (length vs) (pattern t f.head.level f.head.at)
    (omega (arith, (level_holds t r.good f.head.level).reaches f.head.at r.owned.head, r.owned.valued, ap length (values_are p u f i b vs g es r)))

pattern_long : (p : Package) (u : Levels) (f : Func) (i : ℕ) (b : Bool) (vs : List ℤ) (g : Gid) (es : List ℕ) → Restriction p u f i b vs g es → length (pattern p.groupings.levels f.head.level f.head.at) ≡ 2 ^ (2 ^ f.head.level)
pattern_long p u f i b vs g es r = pattern_full p.groupings.levels r.good f.head.level f.head.at r.owned.head ∙ points-is f.head.level

-- the exits are in range of the values
pub exits_valued : (p : Package) (u : Levels) (f : Func) (i : ℕ) (b : Bool) (vs : List ℤ) (g : Gid) (es : List ℕ) → Restriction p u f i b vs g es → All (λ e. e < length vs) es
exits_valued p u f i b vs g es r =
    labels_in (2 ^ f.head.level) (length vs) i b (pattern p.groupings.levels f.head.level f.head.at) (pattern u g.level g.at) es (under_values p u f i b vs g es r) (pattern_long p u f i b vs g es r) r.canon.canon

-- the value of a function with a bit set, by its exit
value_set : (p : Package) (u : Levels) (f : Func) (i : ℕ) (b : Bool) (vs : List ℤ) (g : Gid) (es : List ℕ) → Restriction p u f i b vs g es → (bits : List Bool) → IsAssignment f.head.level bits
    → value_of vs (restricted (exit_in (pattern p.groupings.levels f.head.level f.head.at)) i b bits) ≡ restricted (value_in p f) i b bits
value_set p u f i b vs g es r bits a =
    let q = pattern p.groupings.levels f.head.level f.head.at in
    let z = with_bit bits i b in
    let inside : number_of z < length q = within_bits (2 ^ f.head.level) q z (length-set bits i b ∙ a) (pattern_long p u f i b vs g es r) in
    sym (ap (λ (ws : List ℤ). get_or (map (λ exit. get_or ws exit (pos 0)) q) (number_of z) (pos 0)) (values_are p u f i b vs g es r) ∙ get_or-map (value_of vs) q (number_of z) 0 (pos 0) inside)

canon_values : (p : Package) (u : Levels) (f : Func) (i : ℕ) (b : Bool) (vs : List ℤ) (g : Gid) (es : List ℕ) → Restriction p u f i b vs g es
    → IsCanon (map (restricted (value_in p f) i b) (all_bits (2 ^ f.head.level))) (pattern u g.level g.at) (values_at vs es)
canon_values p u f i b vs g es r =
    let n = 2 ^ f.head.level in
    let q = pattern p.groupings.levels f.head.level f.head.at in
    subst (λ (all : List ℤ). IsCanon all (pattern u g.level g.at) (values_at vs es))
    (map_same (λ y. length y ≡ n) (λ bits. value_of vs (restricted (exit_in q) i b bits)) (restricted (value_in p f) i b) (all_bits n) (all_bits-long n) (λ bits a. value_set p u f i b vs g es r bits a))
    (values_canon n i b q (pattern u g.level g.at) es vs (under_values p u f i b vs g es r) (pattern_long p u f i b vs g es r) r.differ r.canon.canon)

-- the grouping with the values of its exits gives the restricted function
pub restriction_gives : (p : Package) (u : Levels) (f : Func) (i : ℕ) (b : Bool) (vs : List ℤ) (g : Gid) (es : List ℕ) → Restriction p u f i b vs g es
    → Gives u g (values_at vs es) f.head.level (λ bits. Some (restricted (value_in p f) i b bits))
restriction_gives p u f i b vs g es r =
    let l = f.head.level in
    let c = r.canon in
    let ws = values_at vs es in
    let k = canon_values p u f i b vs g es r in
    let all = map (restricted (value_in p f) i b) (all_bits (2 ^ l)) in
    record {
      level = c.level;
      there = c.there;
      valued = sym k.reached ∙ (level_holds u r.good1 g.level).reaches g.at c.there;
      values = λ bits a.
          (let x = get_or (pattern u g.level g.at) (number_of bits) 0 in
          let below : number_of bits < 2 ^ (2 ^ l) = subst (λ (m : ℕ). number_of bits < 2 ^ m) a (number_of-below bits) in
          let inside : number_of bits < length all = omega (arith, below, length-map (all_bits (2 ^ l)) (restricted (value_in p f) i b), length-all_bits (2 ^ l)) in
          let told : slice_get ws x ≡ Some (restricted (value_in p f) i b bits) = canon_read all (pattern u g.level g.at) ws k (number_of bits) inside ∙ table_read (2 ^ l) (restricted (value_in p f) i b) bits a in
          read_at u r.good1 g l c.level c.there ws bits a ∙ ap Some (get_or_from_slice_get ws x (restricted (value_in p f) i b bits) (pos 0) told));
    }

-- and what was added is a part of its pattern
pub restriction_added : (p : Package) (u : Levels) (f : Func) (i : ℕ) (b : Bool) (vs : List ℤ) (g : Gid) (es : List ℕ) → Restriction p u f i b vs g es
    → AddsOnly p.groupings.levels u (sub g.level (pattern u g.level g.at)) → AddsOnly p.groupings.levels u (subs (flat_pattern (tabulated f.head.level (restricted (value_in p f) i b)) ∷ []))
restriction_added p u f i b vs g es r a =
    let l = f.head.level in
    let all = map (restricted (value_in p f) i b) (all_bits (2 ^ l)) in
    let same : pattern u g.level g.at ≡ rgs int_eq all = (canon_is int_eq Decides-int_eq all (pattern u g.level g.at) (values_at vs es) (canon_values p u f i b vs g es r)).0 in
    subst (λ (ps : List Pattern). AddsOnly p.groupings.levels u ps)
    (ap (λ (m : ℕ). sub m (pattern u g.level g.at)) r.canon.level ∙ ap (sub l) same ∙ sym (append-nil (sub l (rgs int_eq all)))) a

-- a function's values are those that it has, one assignment after another
listed : (q : Package) → IsGood q.groupings.levels → (f : Func) (l : ℕ) (x : List Bool → ℤ) → HasValues q f l (λ bits. Some (x bits)) → (meaning q f).values ≡ map x (all_bits (2 ^ l))
listed q good f l x h =
    let ws = (meaning q f).values in
    let all = all_bits (2 ^ l) in
    let p = pattern q.groupings.levels f.head.level f.head.at in
    let long : length ws ≡ 2 ^ (2 ^ l) = length-map p (value_of (values_of q f)) ∙ pattern_full q.groupings.levels good f.head.level f.head.at h.owned.head ∙ points-is f.head.level ∙ ap (λ (k : ℕ). 2 ^ (2 ^ k)) h.level in
    same_lists ws (map x all) (long ∙ sym (length-map all x ∙ length-all_bits (2 ^ l)))
    (λ n ln.
    (let within : n < 2 ^ (2 ^ l) = omega (arith, ln, long) in
    let place = all_bits-place (2 ^ l) n within in
    let bits = get_or all n [] in
    ap (slice_get ws) (sym place.1) ∙ h.values bits place.0 ∙ sym (slice_get-map x all n ∙ ap (option_map x) (slice_get-get_or all n [] (omega (arith, within, length-all_bits (2 ^ l)))))))

-- what a function's grouping is made of, by its values
pub parts_are : (q : Package) → IsGood q.groupings.levels → (f : Func) → IsFunction q.groupings.levels f.head.level f.head.at (values_of q f) → (l : ℕ) (x : List Bool → ℤ) → HasValues q f l (λ bits. Some (x bits))
    → subs (flat_pattern (tabulated l x) ∷ []) ≡ function_parts q f
parts_are q good f is l x h =
    let p = pattern q.groupings.levels f.head.level f.head.at in
    let all = map x (all_bits (2 ^ l)) in
    let ranks : p ≡ rgs int_eq all = (function_pattern q.groupings.levels good f.head.level f.head.at (values_of q f) is).0 ∙ ap (rgs int_eq) (listed q good f l x h) in
    append-nil (sub l (rgs int_eq all)) ∙ ap (sub l) (sym ranks) ∙ ap (λ (k : ℕ). sub k p) (sym h.level)

pub none_some : (x : Option ℤ) (z : ℤ) → Some z ≡ x → x ≡ None → ⊥
none_some x z e n = cc

-- what has values everywhere has no least assignment without one
pub never : (l m : ℕ) (v : List Bool → Option ℤ) (x : List Bool → ℤ) (at : List Bool) → IsLeastWithout l v at → l ≡ m → ((bits : List Bool) → IsAssignment m bits → v bits ≡ Some (x bits)) → ⊥
never l m v x at h e same = none_some (v at) (x at) (sym (same at (subst (λ (k : ℕ). IsAssignment k at) e h.assigns))) h.has
