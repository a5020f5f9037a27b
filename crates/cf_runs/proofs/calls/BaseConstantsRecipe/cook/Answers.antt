use Rattle.std.proofs.Common.{◌≡◌, ℕ, zero, suc, ℤ, pos, true, false, Bool, List, [], ◌∷◌, length, map, slice_get, get_or, Some, refl, sym, ◌∙◌, ap, subst, rules, arith}
use mir.Syntax.{w128}
use mir.Val.{SFits}
use Rattle.std.proofs.lemmas.Int.{to_z-of_z}
use Rattle.cf_model.specs.Assignments.{number_of}
use Rattle.cf_model.specs.Diagrams.{Levels, count, pattern}
use Rattle.cf_pkg.specs.declared.jobs.Job.{Job}
use Rattle.cf_pkg.specs.declared.jobs.Job.TheVariants.{Const}
use Rattle.cf_pkg.specs.Jobs.{Gives, job_level, job_value}
use Rattle.cf_pkg.specs.Memos.{no_job}
use Rattle.cf_pkg.specs.Packages.{package_of}
use Rattle.cf_runs.specs.Recipes.{IsBaseConstant}
use Rattle.cf_runs.proofs.calls.BaseConstantsRecipe.cook.Goals as goal

-- both assignments of level 0 read the same value
at_both : (z : ℤ) (bits : List Bool) → length bits ≡ 1 → slice_get (z ∷ z ∷ []) (number_of bits) ≡ Some z
at_both z [] e = absurd (omega (arith, e))
at_both z (true ∷ []) e = refl
at_both z (false ∷ []) e = refl
at_both z (x ∷ y ∷ xs) e = absurd (omega (arith, e))

base_gives : (t : Levels) → count t 0 ≡ 2 → pattern t 0 0 ≡ 0 ∷ 0 ∷ [] → (z : ℤ) → Gives t (record { level = 0; at = 0 }) (z ∷ []) 0 (λ bits. Some z)
base_gives t two base z = record {
  level = refl;
  there = omega (arith, two);
  valued = refl;
  values = λ bits a. ap (λ (p : List ℕ). slice_get (map (λ exit. get_or (z ∷ []) exit (pos 0)) p) (number_of bits)) base ∙ at_both z bits a;
}

is_base : (l : ℕ) (z : ℤ) → IsBaseConstant (Const l z) → l ≡ 0
is_base zero z d = refl
is_base (suc l) z d = absurd d

pub returns-clause-value : goal.returns-clause-value
returns-clause-value c =
    let t = c.args.table.now.levels in
    let p = package_of c.args.table.now c.args._values.now no_job in
    let level = c.in-Const.level in
    let v = c.in-Const.v in
    let range : SFits w128 v = search rules in
    let items : c.in_ok-values.values.items ≡ v ∷ [] = c.in_ok-values.ensures.items ∙ ap (λ (z : ℤ). z ∷ []) (to_z-of_z w128 v range) in
    let base : level ≡ 0 = is_base level v (subst IsBaseConstant c.in-Const.is c.requires.does) in
    let job : c.args.job.now ≡ Const 0 v = c.in-Const.is ∙ ap (λ (l : ℕ). Const l v) base in
    subst (λ (j : Job). Gives t (record { level = 0; at = 0 }) c.in_ok-values.values.items (job_level j) (job_value p j)) (sym job)
    (subst (λ (zs : List ℤ). Gives t (record { level = 0; at = 0 }) zs 0 (λ bits. Some v)) (sym items)
    (base_gives t c.base_groupings.ensures.count c.base_groupings.ensures.dont_care v))
