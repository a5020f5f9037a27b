use Rattle.std.proofs.Common.{◌≡◌, ℕ, ◌<◌, ◌^◌, Bool, ℤ, pos, List, [], ◌∷◌, ◌++◌, map, length, get_or, Option, Some, None, option_map, sym, ◌∙◌, ap, subst, arith, inl, inr}
use Rattle.std.specs.Prelude.{unwrap_or}
use Rattle.std.specs.List.{slice_get}
use Rattle.std.specs.Ordering.{int_eq}
use Rattle.std.proofs.lemmas.List.Elements.{Contains-append_cases}
use Rattle.std.proofs.lemmas.List.{length-map, append-nil}
use Rattle.std.proofs.lemmas.Option.{slice_get-map, slice_get-get_or}
use Rattle.cf_model.specs.Assignments.{all_bits}
use Rattle.cf_model.specs.Renumbering.{rgs}
use Rattle.cf_model.specs.FlatFunctions.{tabulated}
use Rattle.cf_model.specs.Patterns.{Pattern, sub, subs, pattern_of as flat_pattern}
use Rattle.cf_model.specs.Diagrams.{Levels, pattern, IsGood, Extends}
use Rattle.cf_model.specs.Functions.{IsFunction}
use Rattle.cf_model.proofs.AssignmentLaws.{length-all_bits, all_bits-place}
use Rattle.cf_model.proofs.CanonLaws.{same_lists}
use Rattle.cf_model.proofs.FlatFunctionLaws.{points-is}
use Rattle.cf_model.proofs.Canonicity.{pattern_full}
use Rattle.cf_model.proofs.FunctionLaws.{function_pattern}
use Rattle.cf_build.specs.Assembling.{AddsOnly}
use Rattle.cf_pkg.specs.declared.Func.{Func}
use Rattle.cf_pkg.specs.Packages.{Package, values_of, meaning, function_parts}
use Rattle.cf_pkg.specs.Jobs.{HasValues}
use Rattle.cf_pkg.proofs.Valued.{adds_both}

some_read : (o : Option ℤ) (x : ℤ) → o ≡ Some x → Some (unwrap_or o (pos 0)) ≡ o
some_read None x e = cc
some_read (Some y) x e = cc

-- a function's values are those that it has, one assignment after another
pub listed : (q : Package) → IsGood q.groupings.levels → (f : Func) (l : ℕ) (value : List Bool → Option ℤ) → HasValues q f l value
    → (meaning q f).values ≡ (tabulated l (λ bits. unwrap_or (value bits) (pos 0))).values
listed q good f l value h =
    let vs = values_of q f in
    let p = pattern q.groupings.levels f.head.level f.head.at in
    let read : ℕ → ℤ = λ exit. get_or vs exit (pos 0) in
    let all = all_bits (2 ^ l) in
    let told : List Bool → ℤ = λ bits. unwrap_or (value bits) (pos 0) in
    let long : length (map read p) ≡ 2 ^ (2 ^ l)
    = length-map p read ∙ pattern_full q.groupings.levels good f.head.level f.head.at h.owned.head ∙ points-is f.head.level ∙ ap (λ (k : ℕ). 2 ^ (2 ^ k)) h.level in
    same_lists (map read p) (map told all) (long ∙ sym (length-map all told ∙ length-all_bits (2 ^ l)))
    (λ n ln.
    (let within : n < 2 ^ (2 ^ l) = omega (arith, ln, long) in
    let place = all_bits-place (2 ^ l) n within in
    let bits = get_or all n [] in
    let here : slice_get (map read p) n ≡ value bits = ap (slice_get (map read p)) (sym place.1) ∙ h.values bits place.0 in
    here ∙ sym (some_read (value bits) (get_or (map read p) n (pos 0)) (sym here ∙ slice_get-get_or (map read p) n (pos 0) ln))
    ∙ sym (slice_get-map told all n ∙ ap (option_map told) (slice_get-get_or all n [] (omega (arith, within, length-all_bits (2 ^ l)))))))

-- what a function's grouping is made of, by its values
parts_are : (q : Package) → IsGood q.groupings.levels → (f : Func) → IsFunction q.groupings.levels f.head.level f.head.at (values_of q f) → (l : ℕ) (value : List Bool → Option ℤ) → HasValues q f l value
    → function_parts q f ≡ subs (flat_pattern (tabulated l (λ bits. unwrap_or (value bits) (pos 0))) ∷ [])
parts_are q good f is l value h =
    let target = (tabulated l (λ bits. unwrap_or (value bits) (pos 0))).values in
    let ranks : pattern q.groupings.levels f.head.level f.head.at ≡ rgs int_eq target
    = (function_pattern q.groupings.levels good f.head.level f.head.at (values_of q f) is).0 ∙ ap (rgs int_eq) (listed q good f l value h) in
    ap (λ (k : ℕ). sub k (pattern q.groupings.levels f.head.level f.head.at)) h.level ∙ ap (sub l) ranks ∙ sym (append-nil (sub l (rgs int_eq target)))

twice : (t u : Levels) (ps : List Pattern) → AddsOnly t u (ps ++ ps) → AddsOnly t u ps
twice t u ps a l i hi hv = elim (Contains-append_cases ps ps (record { level = l; ranks = pattern u l i }) (a l i hi hv)) [
  | inl x ↦ x
  | inr x ↦ x
]

-- what was added first, and then with the function, are parts of it
pub made_added : (t u : Levels) → IsGood u → (q : Package) → Extends u q.groupings.levels → IsGood q.groupings.levels → (f : Func) → IsFunction q.groupings.levels f.head.level f.head.at (values_of q f)
    → (l : ℕ) (value : List Bool → Option ℤ) → HasValues q f l value
    → AddsOnly t u (subs (flat_pattern (tabulated l (λ bits. unwrap_or (value bits) (pos 0))) ∷ [])) → AddsOnly u q.groupings.levels (function_parts q f)
    → AddsOnly t q.groupings.levels (subs (flat_pattern (tabulated l (λ bits. unwrap_or (value bits) (pos 0))) ∷ []))
made_added t u good q x good_q f is l value h a b =
    let ps = subs (flat_pattern (tabulated l (λ bits. unwrap_or (value bits) (pos 0))) ∷ []) in
    twice t q.groupings.levels ps (adds_both t u q.groupings.levels good x ps ps a (subst (λ (s : List Pattern). AddsOnly u q.groupings.levels s) (parts_are q good_q f is l value h) b))
