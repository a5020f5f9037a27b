use Rattle.std.proofs.Common.{◌≡◌, ℕ, ◌<◌, ◌^◌, Bool, ℤ, pos, List, [], ◌∷◌, ◌++◌, map, length, get_or, nat_eq, Option, Some, None, Err, option_map, refl, sym, ◌∙◌, ap, subst, arith, inl, inr}
use Rattle.std.specs.Prelude.{Contains}
use Rattle.std.specs.List.{slice_get}
use Rattle.std.proofs.lemmas.Bool.{cases_lt}
use Rattle.std.proofs.lemmas.Nat.{pow_pos}
use Rattle.std.proofs.lemmas.List.Elements.{Contains-append_left, Contains-append_right}
use Rattle.std.proofs.lemmas.List.{length-map}
use Rattle.std.proofs.lemmas.Option.{slice_get-map, slice_get-get_or, slice_get_within, get_or_from_slice_get}
use Rattle.cf_model.specs.Assignments.{Assignment, bits, number_of, bits_of}
use Rattle.cf_model.specs.Renumbering.{width, Grows, IsCanon, rgs}
use Rattle.cf_model.specs.FlatFunctions.{FlatFunction, points, IsAssignment, value_at, IsLeast}
use Rattle.cf_model.specs.Patterns.{Pattern}
use Rattle.cf_model.specs.Diagrams.{Levels, count, pattern, exits, IsGood, Extends}
use Rattle.cf_model.specs.Functions.{function_of}
use Rattle.cf_model.proofs.Growth.{Under-width}
use Rattle.cf_model.proofs.CanonLaws.{map_under}
use Rattle.cf_model.proofs.RenumberingLaws.{canon_length, canon_read, map_map, rgs_of_grown}
use Rattle.cf_model.proofs.FlatFunctionLaws.{number_in, place_assigns, points-is}
use Rattle.cf_model.proofs.Canonicity.{level_holds, pattern_full}
use Rattle.cf_model.proofs.Growing.{pattern_kept, Extends-refl, Extends-trans}
use Rattle.cf_tuple.proofs.BookLaws.{Lengthens-same as TuplesStay, Lengthens-trans as TuplesGrow}
use Rattle.cf_values.proofs.BookLaws.{Lengthens-same, Lengthens-trans}
use Rattle.cf_model.proofs.Entries.{entry_below}
use Rattle.cf_table.specs.declared.Gid.{Gid}
use Rattle.cf_build.specs.Assembling.{classed, Stands, AddsOnly}
use Rattle.cf_build.proofs.Words.{read_carries, canon_reads}
use Rattle.cf_pkg.specs.declared.Func.{Func}
use Rattle.cf_pkg.specs.Packages.{Package, Means, Keeps, values_of}
use Rattle.cf_pkg.specs.declared.jobs.OpFault.{OpFault}
use Rattle.cf_pkg.specs.declared.exits.ExitFault.{ExitFault}
use Rattle.cf_pkg.specs.declared.exits.ExitFault.TheVariants.{NoMemory, NoValue}
use Rattle.cf_pkg.specs.Faults.{IsFirstNone, IfNoValue, IsFaultOf, IsExitFault}
use Rattle.std.specs.declared.result.Result.{Result}
use Rattle.cf_pkg.specs.Jobs.{HasValues, Gives, IsLeastWithout}
use Rattle.cf_pkg.proofs.Keeping.{means}
use Rattle.cf_pkg.proofs.Firsts.{before_first}

-- the values of a pattern's exits are numbered by their ranks
valued_canon : {A : Type 0} (raw : List A) (ranks p : List ℕ) (ds : List A) (d : A) → IsCanon raw ranks ds → Grows 0 p → width 0 p ≡ length raw → IsCanon (map (λ i. get_or raw i d) p) (classed ranks p) ds
valued_canon raw ranks p ds d c gp full =
    let long : length ranks ≡ length raw = canon_length raw ranks ds c in
    let r = read_carries ranks p 0 gp (full ∙ sym long) c.grows in
    record {
      spells = map_map (slice_get ds) (λ i. get_or ranks i 0) p
          ∙ map_under (λ i. slice_get ds (get_or ranks i 0)) (λ i. Some (get_or raw i d)) (length raw) p (Under-width 0 (length raw) p (omega (arith, full)))
          (λ i li. canon_read raw ranks ds c i li ∙ slice_get-get_or raw i d li)
          ∙ sym (map_map Some (λ i. get_or raw i d) p);
      grows = r.0;
      reached = r.1 ∙ c.reached;
      differ = c.differ;
    }

pub points_some : (l : ℕ) → 0 < points l
points_some l = subst (λ (n : ℕ). 0 < n) (sym (points-is l)) (pow_pos (2 ^ l))

pub exits_some : (t : Levels) → IsGood t → (l i : ℕ) → i < count t l → 0 < points l → 0 < exits t l i
exits_some t good l i own some = omega (arith, entry_below t good l i 0 own some)

-- a list that isn't empty has a first label
pub labels_some : {A : Type 0} (raw : List A) (ranks : List ℕ) (ds : List A) → IsCanon raw ranks ds → 0 < length raw → 0 < length ds
labels_some [] ranks ds c h = absurd (omega (arith, h))
labels_some (x ∷ raw) ranks ds c h = omega (arith, slice_get_within ds (get_or ranks 0 0) x (canon_read (x ∷ raw) ranks ds c 0 h))

-- what the merged grouping and the different values mean
pub valued_means : (t : Levels) → IsGood t → (q : Package) → IsGood q.groupings.levels → (g head : Gid) (at : ℕ) (raw ds : List ℤ) (ranks : List ℕ)
    → g.at < count t g.level → length raw ≡ exits t g.level g.at → IsCanon raw ranks ds
    → Stands q.groupings.levels head g.level (rgs nat_eq (classed ranks (pattern t g.level g.at))) → slice_get q.lists at ≡ Some ds
    → Means q (record { head = head; vals = record { at = at } }) (function_of t g.level g.at raw)
valued_means t good q good_q g head at raw ds ranks own long canon s h =
    let p = pattern t g.level g.at in
    let holds = level_holds t good g.level in
    let c = valued_canon raw ranks p ds (pos 0) canon (holds.grows g.at own) (holds.reaches g.at own ∙ sym long) in
    let same : rgs nat_eq (classed ranks p) ≡ classed ranks p = rgs_of_grown (classed ranks p) c.grows in
    let full : exits q.groupings.levels head.level head.at ≡ width 0 (classed ranks p) = sym ((level_holds q.groupings.levels good_q head.level).reaches head.at s.there) ∙ ap (width 0) (s.is_it ∙ same) in
    means q head at g.level (rgs nat_eq (classed ranks p)) ds (map (λ exit. get_or raw exit (pos 0)) p) s h (sym c.reached ∙ sym full)
    (ap (map (λ exit. get_or ds exit (pos 0))) same ∙ sym (canon_reads (map (λ exit. get_or raw exit (pos 0)) p) (classed ranks p) ds (pos 0) c.spells))

-- A grouping with a word for each exit, which is a value or none, tells the value at each assignment.
pub record Worked (t : Levels) (g : Gid) (l : ℕ) (words : List (Option ℤ)) (value : List Bool → Option ℤ) : Type 0 where
  pub good : IsGood t
  pub level : g.level ≡ l
  pub there : g.at < count t g.level
  pub long : length words ≡ exits t g.level g.at
  pub each : (bits : List Bool) → IsAssignment l bits → slice_get words (get_or (pattern t g.level g.at) (number_of bits) 0) ≡ Some (value bits)

in_pattern : (t : Levels) → IsGood t → (g : Gid) (level : ℕ) → g.level ≡ level → g.at < count t g.level → (bits : List Bool) → IsAssignment level bits → number_of bits < length (pattern t g.level g.at)
in_pattern t good g level e own bits a = omega (arith, pattern_full t good g.level g.at own, number_in g.level bits (subst (λ (l : ℕ). IsAssignment l bits) (sym e) a))

-- the value of a list of values at an assignment, by its exit
pub read_at : (t : Levels) → IsGood t → (g : Gid) (level : ℕ) → g.level ≡ level → g.at < count t g.level → (raw : List ℤ) (bits : List Bool) → IsAssignment level bits
    → value_at (function_of t g.level g.at raw) bits ≡ Some (get_or raw (get_or (pattern t g.level g.at) (number_of bits) 0) (pos 0))
read_at t good g level e own raw bits a =
    let p = pattern t g.level g.at in
    slice_get-map (λ exit. get_or raw exit (pos 0)) p (number_of bits) ∙ ap (option_map (λ exit. get_or raw exit (pos 0))) (slice_get-get_or p (number_of bits) 0 (in_pattern t good g level e own bits a))

some_same : {A : Type 0} (x y : A) → ◌≡◌ {A = Option A} (Some x) (Some y) → x ≡ y
some_same x y e = cc

-- all words being values, the list of them gives the value at each assignment
pub worked_gives : (t : Levels) (g : Gid) (level : ℕ) (words : List (Option ℤ)) (value : List Bool → Option ℤ) → Worked t g level words value → (raw : List ℤ) → map Some raw ≡ words → Gives t g raw level value
worked_gives t g level words value w raw e =
    let p = pattern t g.level g.at in
    let long : length raw ≡ exits t g.level g.at = sym (length-map raw Some) ∙ ap length e ∙ w.long in
    record {
      level = w.level;
      there = w.there;
      valued = long;
      values = λ bits a.
          (let n = number_of bits in
          let exit = get_or p n 0 in
          let below : exit < length raw = omega (arith, entry_below t w.good g.level g.at n w.there (number_in g.level bits (subst (λ (l : ℕ). IsAssignment l bits) (sym w.level) a)), long) in
          read_at t w.good g level w.level w.there raw bits a
          ∙ some_same (Some (get_or raw exit (pos 0))) (value bits)
          (ap (option_map Some) (sym (slice_get-get_or raw exit (pos 0) below)) ∙ sym (slice_get-map Some raw exit) ∙ ap (λ (l : List (Option ℤ)). slice_get l exit) e ∙ w.each bits a));
    }

-- the first word without a value is an exit
pub worked_exit : (t : Levels) (g : Gid) (level : ℕ) (words : List (Option ℤ)) (value : List Bool → Option ℤ) → Worked t g level words value → (e : ℕ) → IsFirstNone words e → e < exits t g.level g.at
worked_exit t g level words value w e f = omega (arith, slice_get_within words e None f.none, w.long)

-- and the least assignment that leads to it is the least one without a value
pub worked_least : (t : Levels) (g : Gid) (level : ℕ) (words : List (Option ℤ)) (value : List Bool → Option ℤ) → Worked t g level words value → (e : ℕ) → IsFirstNone words e
    → (bits : List Bool) → IsLeast g.level (λ a. slice_get (pattern t g.level g.at) (number_of a) ≡ Some e) bits → IsLeastWithout level value bits
worked_least t g level words value w e f bits least =
    let p = pattern t g.level g.at in
    let assigns : IsAssignment level bits = subst (λ (l : ℕ). IsAssignment l bits) w.level least.assigns in
    let exit : (a : List Bool) → ℕ = λ a. get_or p (number_of a) 0 in
    let leads : exit bits ≡ e = get_or_from_slice_get p (number_of bits) e 0 least.has in
    let within : number_of bits < length p = slice_get_within p (number_of bits) e least.has in
    record {
      assigns = assigns;
      has = some_same (value bits) None (sym (w.each bits assigns) ∙ ap (slice_get words) leads ∙ f.none);
      none_below = λ other a lt none.
          (let at_level : IsAssignment g.level other = subst (λ (l : ℕ). IsAssignment l other) (sym w.level) a in
          let inside : number_of other < length p = in_pattern t w.good g level w.level w.there other a in
          let place : (m : ℕ) → m < number_of bits → IsAssignment g.level (bits_of (2 ^ g.level) m) × (number_of (bits_of (2 ^ g.level) m) ≡ m)
          = λ m lm. place_assigns g.level m (omega (arith, lm, within, pattern_full t w.good g.level g.at w.there)) in
          let before : (m : ℕ) → m < number_of bits → get_or p m 0 ≡ e → ⊥
          = λ m lm em. least.none_below (bits_of (2 ^ g.level) m) (place m lm).0 (omega (arith, (place m lm).1, lm))
          (ap (slice_get p) (place m lm).1 ∙ slice_get-get_or p m 0 (omega (arith, lm, within)) ∙ ap Some em) in
          let low : exit other < e = before_first 0 p (number_of bits) e ((level_holds t w.good g.level).grows g.at w.there) (omega arith) within before (number_of other) lt in
          f.none_before (exit other) low (w.each other a ∙ ap Some none));
    }

-- what means a function that has the values has them
pub has_values : (t : Levels) (q : Package) (g : Gid) (f : Func) (raw : List ℤ) (l : ℕ) (value : List Bool → Option ℤ) → Gives t g raw l value → Means q f (function_of t g.level g.at raw) → HasValues q f l value
has_values t q g f raw l value gives m = record {
  owned = m.owned;
  level = ap (λ (h : FlatFunction). h.level) m.is_it ∙ gives.level;
  values = λ bits a. ap (λ (h : FlatFunction). value_at h bits) m.is_it ∙ gives.values bits a;
}

-- nothing changed
pub Keeps-same : (p : Package) → Keeps p p
Keeps-same p = record {
  groupings = Extends-refl p.groupings.levels;
  tuples = TuplesStay p.groupings.tuples p.groupings.tuples refl;
  lists = Lengthens-same p.lists p.lists refl;
  functions = λ f o. record { owned = o; is_it = refl };
  jobs = λ t f h. h;
}

pub Keeps-trans : (p q r : Package) → Keeps p q → Keeps q r → Keeps p r
Keeps-trans p q r a b = record {
  groupings = Extends-trans p.groupings.levels q.groupings.levels r.groupings.levels a.groupings b.groupings;
  tuples = TuplesGrow p.groupings.tuples q.groupings.tuples r.groupings.tuples a.tuples b.tuples;
  lists = Lengthens-trans p.lists q.lists r.lists a.lists b.lists;
  functions = λ f o.
      (let m = a.functions f o in
      let n = b.functions f m.owned in
      record { owned = n.owned; is_it = n.is_it ∙ m.is_it });
  jobs = λ t f h. b.jobs t f (a.jobs t f h);
}

-- what was added first, and what was added to that
pub adds_both : (t u v : Levels) → IsGood u → Extends u v → (ps qs : List Pattern) → AddsOnly t u ps → AddsOnly u v qs → AddsOnly t v (ps ++ qs)
adds_both t u v good x ps qs a b l i hi hv = elim (cases_lt i (count u l)) [
  | inl lt ↦ Contains-append_left ps qs (record { level = l; ranks = pattern v l i }) (subst (λ (r : List ℕ). Contains ps (record { level = l; ranks = r })) (sym (pattern_kept u v good x l i lt)) (a l i hi lt))
  | inr ge ↦ Contains-append_right ps qs (record { level = l; ranks = pattern v l i }) (b l i (omega (arith, ge)) hv)
]

overflow_at : (a b : Assignment) → ◌≡◌ {A = OpFault} (OpFault.Overflow a) (OpFault.Overflow b) → a ≡ b
overflow_at a b e = cc

-- a fault's exit is one of the grouping's
pub fault_exit : (t : Levels) (g : Gid) (l : ℕ) (words : List (Option ℤ)) (value : List Bool → Option ℤ) → Worked t g l words value → (fault : ExitFault) → ((e : ℕ) → fault ≡ ExitFault.NoValue e → IsFirstNone words e) → IsExitFault t g fault
fault_exit t g l words value w NoMemory first = tt
fault_exit t g l words value w (NoValue e) first = worked_exit t g l words value w e (first e refl)

-- and its overflow is at the least assignment without a value
pub fault_least : (t : Levels) (g : Gid) (l : ℕ) (words : List (Option ℤ)) (value : List Bool → Option ℤ) → Worked t g l words value → (fault : ExitFault) → ((e : ℕ) → fault ≡ ExitFault.NoValue e → IsFirstNone words e)
    → (result : OpFault) → IsFaultOf t g fault result → (at : Assignment) → result ≡ OpFault.Overflow at → IsLeastWithout l value (bits at)
fault_least t g l words value w NoMemory first result is at e = cc
fault_least t g l words value w (NoValue exit) first result is at e =
    let same : is.0 ≡ at = overflow_at is.0 at (sym is.1 ∙ e) in
    subst (λ (a : Assignment). IsLeastWithout l value (bits a)) same (worked_least t g l words value w exit (first exit refl) (bits is.0) is.2)

-- the first word without a value, as the answer says it
pub first_of : {T : Type 0} (answer : Result T ExitFault) (words : List (Option ℤ)) (fault : ExitFault) → answer ≡ Err fault → IfNoValue answer words → (e : ℕ) → fault ≡ ExitFault.NoValue e → IsFirstNone words e
first_of {T = T} answer words fault is first e same = (subst (λ (r : Result T ExitFault). IfNoValue r words) is first) e (ap Err same)

pub err_same : {T E : Type 0} (a b : E) → ◌≡◌ {A = Result T E} (Err a) (Err b) → a ≡ b
err_same a b e = cc

-- all words being values, there is one for each exit
pub worked_long : (t : Levels) (g : Gid) (l : ℕ) (words : List (Option ℤ)) (value : List Bool → Option ℤ) → Worked t g l words value → (raw : List ℤ) → map Some raw ≡ words → length raw ≡ exits t g.level g.at
worked_long t g l words value w raw e = sym (length-map raw Some) ∙ ap length e ∙ w.long

-- the list that was read is the function's
pub values_read : (p inside : Package) (f : Func) (vs : List ℤ) → inside ≡ p → slice_get inside.lists f.vals.at ≡ Some vs → values_of p f ≡ vs
values_read p inside f vs e h = ap (λ (q : Package). values_of q f) (sym e) ∙ get_or_from_slice_get inside.lists f.vals.at vs [] h
