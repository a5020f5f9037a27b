use Rattle.std.proofs.Common.{◌≡◌, ◌↔◌, ℕ, ℤ, pos, Bool, true, false, List, length, get_or, Some, refl, sym, subst, ap, ◌∙◌, arith}
use Rattle.std.specs.Prelude.{◌≢◌}
use Rattle.std.specs.Ordering.{int_eq}
use Rattle.std.proofs.lemmas.Bool.{false≢true}
use Rattle.std.proofs.lemmas.Bool.Decides.{Decides-int_eq}
use Rattle.std.proofs.lemmas.List.{length-map}
use Rattle.std.proofs.lemmas.Option.{slice_get-get_or, same_Some, none-some}
use Rattle.cf_model.specs.Assignments.{number_of}
use Rattle.cf_model.specs.Terms.{truth}
use Rattle.cf_model.specs.declared.terms.Word2.TheVariants.{Eq}
use Rattle.cf_model.specs.FlatFunctions.{IsAssignment, value_at}
use Rattle.cf_model.specs.Diagrams.{IsGood}
use Rattle.cf_model.proofs.AssignmentLaws.{length-bits_of}
use Rattle.cf_model.proofs.FlatFunctionLaws.{number_in}
use Rattle.cf_model.proofs.Canonicity.{pattern_full}
use Rattle.cf_ops.specs.Operations.{of_two}
use Rattle.cf_ops.proofs.TermFacts.{term-of_two}
use Rattle.cf_table.specs.Groupings.{pattern_of}
use Rattle.cf_pkg.specs.declared.Func.{Func}
use Rattle.cf_pkg.specs.Packages.{Package, OwnsFunction, values_of, meaning}
use Rattle.cf_pkg.specs.Jobs.{AreLevel, HasValues, IsLeastWithout, value_in, apply_value}
use Rattle.cf_witness.specs.Separating.{Differ}

-- the test for equal values has a value everywhere
eq_there : (p : Package) (f g : Func) (at : List Bool) → apply_value p (of_two Eq) f g at ≡ Some (truth (int_eq (value_in p f at) (value_in p g at)))
eq_there p f g at = term-of_two Eq (value_in p f at) (value_in p g at) (pos 0)

pub never_without : (p : Package) (f g : Func) (level : ℕ) (at : List Bool) → IsLeastWithout level (apply_value p (of_two Eq) f g) at → ⊥
never_without p f g level at h = none-some (truth (int_eq (value_in p f at) (value_in p g at))) (sym h.has ∙ eq_there p f g at)

-- it is 0 for different numbers, and only for them
truth_is_0 : (x y : ℤ) → (Some (truth (int_eq x y)) ≡ Some (pos 0)) ↔ (Some x ≢ Some y)
truth_is_0 x y = (λ zero same. different zero (same_Some x y same), λ differ. by differ (int_eq x y) refl)
  where
    different : Some (truth (int_eq x y)) ≡ Some (pos 0) → x ≡ y → ⊥
    different zero same =
        let one : truth (int_eq x y) ≡ pos 1 = ap truth ((Decides-int_eq x y).1 same) in
        false≢true (ap (λ z. int_eq z (pos 0)) (sym one ∙ same_Some (truth (int_eq x y)) (pos 0) zero))

    by : Some x ≢ Some y → (b : Bool) → int_eq x y ≡ b → Some (truth (int_eq x y)) ≡ Some (pos 0)
    by differ true e = absurd (differ (ap Some ((Decides-int_eq x y).0 e)))
    by differ false e = ap (λ (t : Bool). Some (truth t)) e

-- an owned function has a value at each assignment of its level
valued_at : (p : Package) → IsGood p.groupings.levels → (f : Func) → OwnsFunction p f → (at : List Bool) → IsAssignment f.head.level at → value_at (meaning p f) at ≡ Some (value_in p f at)
valued_at p good f o at a =
    let long : length (meaning p f).values ≡ length (pattern_of p.groupings f.head) = length-map (pattern_of p.groupings f.head) (λ exit. get_or (values_of p f) exit (pos 0)) in
    slice_get-get_or (meaning p f).values (number_of at) (pos 0) (omega (arith, number_in f.head.level at a, pattern_full p.groupings.levels good f.head.level f.head.at o.head, long))

-- an assignment of one function's level is one of the other's
on_second : (p : Package) (f g : Func) → AreLevel p f g → (at : List Bool) → IsAssignment f.head.level at → IsAssignment g.head.level at
on_second p f g o at a = subst (λ (l : ℕ). IsAssignment l at) o.level a

-- the function of the test is 0 where the two functions differ, and only there
pub zero_there : (p q : Package) (f g r : Func) → IsGood p.groupings.levels → AreLevel p f g → HasValues q r f.head.level (apply_value p (of_two Eq) f g) → (at : List Bool) → IsAssignment f.head.level at
    → (value_at (meaning q r) at ≡ Some (pos 0)) ↔ Differ p f g at
zero_there p q f g r good o h at a =
    let x = value_in p f at in
    let y = value_in p g at in
    let left : value_at (meaning p f) at ≡ Some x = valued_at p good f o.first at a in
    let right : value_at (meaning p g) at ≡ Some y = valued_at p good g o.second at (on_second p f g o at a) in
    let value : value_at (meaning q r) at ≡ Some (truth (int_eq x y)) = h.values at a ∙ eq_there p f g at in
    let told = truth_is_0 x y in
    (λ zero same. told.0 (sym value ∙ zero) (sym left ∙ same ∙ right), λ differ. value ∙ told.1 (λ same. differ (left ∙ same ∙ sym right)))

-- how many bits an assignment has, by its length
pub ruleset length_laws = (length-bits_of)
