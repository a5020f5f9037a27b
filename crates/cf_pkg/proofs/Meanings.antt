use Rattle.std.proofs.Common.{◌≡◌, ℕ, ◌<◌, ◌≤◌, ◌^◌, ℤ, pos, List, [], Bool, true, false, refl, length, map, get_or, Some, option_map, sym, subst, ap, ◌∙◌, arith}
use Rattle.std.specs.List.{slice_get}
use Rattle.std.specs.Prelude.{nat_le}
use Rattle.std.proofs.lemmas.Bool.Decides.{nat_tests}
use Rattle.std.proofs.lemmas.List.{get_or_past}
use mir.Syntax.{w128}
use mir.Val.{to_z, of_z}
use Rattle.std.proofs.lemmas.Int.{to_z-of_z}
use Rattle.std.proofs.lemmas.Option.{slice_get-get_or, slice_get-map}
use Rattle.cf_model.specs.Renumbering.{AllDiffer}
use Rattle.cf_model.specs.Assignments.{Assignment, bits, number_of}
use Rattle.cf_model.specs.Values.{Fits}
use Rattle.cf_model.specs.FlatFunctions.{IsAssignment, value_at}
use Rattle.cf_model.specs.Diagrams.{IsGood, Levels, count}
use Rattle.cf_model.specs.Functions.{IsFunction, function_of}
use Rattle.cf_model.proofs.FlatFunctionLaws.{values_agree}
use Rattle.cf_model.proofs.FunctionLaws.{function_flat, function_unique}
use Rattle.cf_model.proofs.AssignmentLaws.{number_of-bits_of}
use Rattle.cf_model.proofs.Canonicity.{pattern_full}
use Rattle.cf_model.proofs.Entries.{entry_below}
use Rattle.cf_table.specs.Groupings.{pattern_of}
use Rattle.cf_pkg.specs.declared.Func.{Func}
use Rattle.cf_pkg.proofs.Turn.{in_range}
use Rattle.cf_pkg.specs.Packages.{Package, OwnsFunction, values_of, meaning}

abbrev made : ℕ → ℕ → ℕ → Func
made l i v = record { head = record { level = l; at = i }; vals = record { at = v } }

-- a table of eight levels has groupings on the levels 0 to 7 alone
pub low : (t : Levels) (l i : ℕ) → length t ≡ 8 → i < count t l → l ≤ 7
low t l i eight inside = by (nat_le l 7) refl
  where
    by : (b : Bool) → nat_le l 7 ≡ b → l ≤ 7
    by true e = grind (arith, nat_tests)
    by false e =
        let past : length t ≤ l = grind (arith, nat_tests) in
        let none : count t l ≡ 0 = ap length (get_or_past t l [] past) in
        omega (arith, none, inside)

-- what is known of an owned function
pub record Known (p : Package) (f : Func) : Type 0 where
  pub owned : OwnsFunction p f
  pub good : IsGood p.groupings.levels
  pub level : f.head.level ≤ 7
  pub once : AllDiffer p.lists
  pub function : IsFunction p.groupings.levels f.head.level f.head.at (values_of p f)

-- functions that agree on every assignment are one
pub agreeing : (p : Package) (f g : Func) → Known p f → Known p g → f.head.level ≡ g.head.level
    → ((bits : List Bool) → IsAssignment f.head.level bits → value_at (meaning p f) bits ≡ value_at (meaning p g) bits) → f ≡ g
agreeing p f g kf kg level agree =
    let t = p.groupings.levels in
    let vs = values_of p f in
    let ws = values_of p g in
    let same : (meaning p f).values ≡ (meaning p g).values
    = values_agree (meaning p f) (meaning p g) (function_flat t kf.good f.head.level f.head.at vs kf.level kf.function) (function_flat t kg.good g.head.level g.head.at ws kg.level kg.function) level agree in
    let r = function_unique t kf.good f.head.level f.head.at g.head.at vs ws kf.function (subst (λ (l : ℕ). IsFunction t l g.head.at ws) (sym level) kg.function)
    (same ∙ ap (λ (l : ℕ). (function_of t l g.head.at ws).values) (sym level)) in
    let lists : f.vals.at ≡ g.vals.at = kf.once f.vals.at g.vals.at vs (slice_get-get_or p.lists f.vals.at [] kf.owned.list) (slice_get-get_or p.lists g.vals.at [] kg.owned.list ∙ ap Some (sym r.1)) in
    ap (λ (l : ℕ). made l f.head.at f.vals.at) level ∙ ap (λ (i : ℕ). made g.head.level i f.vals.at) r.0 ∙ ap (λ (v : ℕ). made g.head.level g.head.at v) lists

-- the exit to which an assignment leads has a value
pub exit_valued : (p : Package) (f : Func) → Known p f → (at : Assignment) → at.len ≡ 2 ^ f.head.level → at.number < 2 ^ at.len → get_or (pattern_of p.groupings f.head) at.number 0 < length (values_of p f)
exit_valued p f k at len below = omega (arith, entry_below p.groupings.levels k.good f.head.level f.head.at at.number k.owned.head (in_range f.head.level at.number at.len len below), k.owned.valued)

-- and that is the function's value there, which fits
pub value_read : (p : Package) (f : Func) → Known p f → (at : Assignment) → at.len ≡ 2 ^ f.head.level → at.number < 2 ^ at.len → (exit : ℕ) → exit ≡ get_or (pattern_of p.groupings f.head) at.number 0
    → value_at (meaning p f) (bits at) ≡ Some (to_z w128 (of_z w128 (get_or (values_of p f) exit (pos 0))))
value_read p f k at len below exit e =
    let ps = pattern_of p.groupings f.head in
    let value : ℕ → ℤ = λ x. get_or (values_of p f) x (pos 0) in
    let inside : at.number < length ps = subst (λ (n : ℕ). at.number < n) (sym (pattern_full p.groupings.levels k.good f.head.level f.head.at k.owned.head)) (in_range f.head.level at.number at.len len below) in
    let number : number_of (bits at) ≡ at.number = number_of-bits_of at.len at.number below in
    let fits : Fits (value (get_or ps at.number 0)) = k.function.fit (get_or ps at.number 0) (pos 0) (exit_valued p f k at len below) in
    ap (slice_get (map value ps)) number ∙ slice_get-map value ps at.number ∙ ap (option_map value) (slice_get-get_or ps at.number 0 inside)
    ∙ ap Some (sym (to_z-of_z w128 (value (get_or ps at.number 0)) fits))
    ∙ ap (λ (x : ℕ). Some (to_z w128 (of_z w128 (value x)))) (sym e)
