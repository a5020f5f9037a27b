use Rattle.std.proofs.Common.{◌≡◌, ℕ, ◌<◌, ◌^◌, ℤ, pos, List, [], Bool, false, length, map, filter, get_or, Option, Some, None, option_map, refl, sym, subst, ap, ◌∙◌, arith}
use Rattle.std.specs.List.{slice_get}
use Rattle.std.specs.Ordering.{int_eq}
use Rattle.std.proofs.lemmas.List.{get_or-map}
use Rattle.std.proofs.lemmas.Option.{slice_get-get_or, slice_get-map, slice_get_within, get_or_from_slice_get, same_Some, none-some}
use Rattle.cf_model.specs.Renumbering.{AllDiffer}
use Rattle.cf_model.specs.Assignments.{number_of, all_bits}
use Rattle.cf_model.specs.FlatFunctions.{points, IsLeast, value_at}
use Rattle.cf_model.specs.Diagrams.{exits}
use Rattle.cf_model.proofs.FlatFunctionLaws.{points-is}
use Rattle.cf_model.proofs.AssignmentLaws.{number_of-bits_of, all_bits-order, length-all_bits}
use Rattle.cf_model.proofs.Canonicity.{pattern_full}
use Rattle.cf_model.proofs.Entries.{entry_below, entry_is_exit}
use Rattle.cf_table.specs.Groupings.{pattern_of}
use Rattle.cf_pkg.specs.declared.Func.{Func}
use Rattle.cf_pkg.specs.Packages.{Package, OwnsFunction, values_of, meaning}
use Rattle.cf_pkg.proofs.Meanings.{Known}
use Rattle.cf_witness.proofs.Lists.{filter_same}
use Rattle.cf_witness.specs.Nexts.{leads}
use Rattle.cf_witness.specs.Witnesses.{is_value, assignments_of}

-- the values that were read are the function's
pub values_read : (p : Package) (f : Func) (lists : List (List ℤ)) (values : List ℤ) → lists ≡ p.lists → slice_get lists f.vals.at ≡ Some values → values_of p f ≡ values
values_read p f lists values e h = ap (λ (v : List (List ℤ)). get_or v f.vals.at []) (sym e) ∙ get_or_from_slice_get lists f.vals.at values [] h

abbrev value_of : List ℤ → ℕ → ℤ
value_of values e = get_or values e (pos 0)

-- the value at an assignment is that of the exit there
pub value_there : (p : Package) (f : Func) (values : List ℤ) (e : ℕ) (at : List Bool) (v : ℤ) → values_of p f ≡ values → slice_get values e ≡ Some v → slice_get (pattern_of p.groupings f.head) (number_of at) ≡ Some e → value_at (meaning p f) at ≡ Some v
value_there p f values e at v is h k =
    slice_get-map (value_of (values_of p f)) (pattern_of p.groupings f.head) (number_of at) ∙ ap (option_map (value_of (values_of p f))) k
    ∙ ap (λ (vs : List ℤ). Some (value_of vs e)) is ∙ ap Some (get_or_from_slice_get values e v (pos 0) h)

-- and where there is a value, there is an exit that has it
pub exit_there : (p : Package) (f : Func) (values : List ℤ) (at : List Bool) (v : ℤ) → Known p f → values_of p f ≡ values → value_at (meaning p f) at ≡ Some v → (e : ℕ) × (slice_get (pattern_of p.groupings f.head) (number_of at) ≡ Some e) × (slice_get values e ≡ Some v)
exit_there p f values at v k is h = by (slice_get pat n) refl
  where
    pat : List ℕ
    pat = pattern_of p.groupings f.head

    n : ℕ
    n = number_of at

    told : slice_get (map (value_of (values_of p f)) pat) n ≡ Some v
    told = h

    by : (o : Option ℕ) → slice_get pat n ≡ o → (e : ℕ) × (slice_get pat n ≡ Some e) × (slice_get values e ≡ Some v)
    by None q = absurd (none-some v (sym (slice_get-map (value_of (values_of p f)) pat n ∙ ap (option_map (value_of (values_of p f))) q) ∙ told))
    by (Some e) q =
        let valued = k.owned.valued in
        let exit : e < exits p.groupings.levels f.head.level f.head.at = entry_is_exit p.groupings.levels k.good f.head.level f.head.at k.owned.head n e q in
        let inside : e < length values = omega (arith, exit, valued, ap length is) in
        let value : value_of (values_of p f) e ≡ v = same_Some (value_of (values_of p f) e) v (sym (slice_get-map (value_of (values_of p f)) pat n ∙ ap (option_map (value_of (values_of p f))) q) ∙ told) in
        (e, q, slice_get-get_or values e (pos 0) inside ∙ ap Some (ap (λ (vs : List ℤ). value_of vs e) (sym is) ∙ value))

-- the least assignment of the exit that has a value is that of the value
pub least_value : (p : Package) (f : Func) (values : List ℤ) (e : ℕ) (v : ℤ) (bits : List Bool) → Known p f → values_of p f ≡ values → slice_get values e ≡ Some v
    → IsLeast f.head.level (λ at. slice_get (pattern_of p.groupings f.head) (number_of at) ≡ Some e) bits → IsLeast f.head.level (λ at. value_at (meaning p f) at ≡ Some v) bits
least_value p f values e v bits k is h least = record {
  assigns = least.assigns;
  has = value_there p f values e bits v is h least.has;
  none_below = λ other ho lt has.
      (let x = exit_there p f values other v k is has in
      let differ : AllDiffer values = subst (λ (vs : List ℤ). AllDiffer vs) is k.function.differ in
      let same : x.0 ≡ e = differ x.0 e v x.2 h in
      least.none_below other ho lt (x.1 ∙ ap Some same));
}

-- where no exit has the value, no assignment does
pub no_value : (p : Package) (f : Func) (values : List ℤ) (v : ℤ) → Known p f → values_of p f ≡ values → ((i : ℕ) → slice_get values i ≡ Some v → ⊥) → (at : List Bool) → value_at (meaning p f) at ≡ Some v → ⊥
no_value p f values v k is none at has = let x = exit_there p f values at v k is has in none x.0 x.2

-- an exit that was found has a place
pub exit_in : (p : Package) (f : Func) (values : List ℤ) (e : ℕ) (v : ℤ) → OwnsFunction p f → values_of p f ≡ values → slice_get values e ≡ Some v → e < exits p.groupings.levels f.head.level f.head.at
exit_in p f values e v k is h = let valued = k.valued in omega (arith, slice_get_within values e v h, valued, ap length is)

-- a value's marks, at the exit of an assignment
value_marked : (p : Package) (f : Func) (values : List ℤ) (v : ℤ) (at : List Bool) → Known p f → values_of p f ≡ values → number_of at < points f.head.level
    → leads (pattern_of p.groupings f.head) (map (λ w. int_eq w v) values) at ≡ is_value v (value_at (meaning p f) at)
value_marked p f values v at k is h =
    let pat = pattern_of p.groupings f.head in
    let n = number_of at in
    let e = get_or pat n 0 in
    let valued = k.owned.valued in
    let full = pattern_full p.groupings.levels k.good f.head.level f.head.at k.owned.head in
    let exit : e < length values = omega (arith, entry_below p.groupings.levels k.good f.head.level f.head.at n k.owned.head h, valued, ap length is) in
    let here : value_at (meaning p f) at ≡ Some (value_of (values_of p f) e)
    = slice_get-map (value_of (values_of p f)) pat n ∙ ap (option_map (value_of (values_of p f))) (slice_get-get_or pat n 0 (omega (arith, h, full))) in
    get_or-map (λ (w : ℤ). int_eq w v) values e (pos 0) false exit
    ∙ ap (λ (vs : List ℤ). int_eq (value_of vs e) v) (sym is)
    ∙ ap (is_value v) (sym here)

-- the marked assignments are those of the value
pub marked_are : (p : Package) (f : Func) (values : List ℤ) (v : ℤ) → Known p f → values_of p f ≡ values
    → filter (leads (pattern_of p.groupings f.head) (map (λ w. int_eq w v) values)) (all_bits (2 ^ f.head.level)) ≡ assignments_of (meaning p f) v
marked_are p f values v k is =
    let l = 2 ^ f.head.level in
    filter_same (leads (pattern_of p.groupings f.head) (map (λ w. int_eq w v) values)) (λ at. is_value v (value_at (meaning p f) at)) (all_bits l) []
    (λ i h.
    (let below : i < 2 ^ l = omega (arith, h, length-all_bits l) in
    let number : number_of (get_or (all_bits l) i []) ≡ i = ap number_of (all_bits-order l i below) ∙ number_of-bits_of l i below in
    value_marked p f values v (get_or (all_bits l) i []) k is (subst (λ (n : ℕ). n < points f.head.level) (sym number) (subst (λ (n : ℕ). i < n) (sym (points-is f.head.level)) below))))
