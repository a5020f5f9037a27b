use Rattle.std.proofs.Common.{◌≡◌, ℕ, ◌<◌, ℤ, List, length, sym, ◌∙◌, ap, subst, Some}
use Rattle.std.specs.List.{All}
use Rattle.cf_model.specs.Pointwise.{restricted}
use Rattle.cf_build.specs.Assembling.{AddsOnly}
use Rattle.cf_pkg.specs.declared.jobs.Job.{Job}
use Rattle.cf_pkg.specs.declared.jobs.Job.TheVariants.{Restrict}
use Rattle.cf_pkg.specs.Packages.{package_of}
use Rattle.cf_pkg.specs.Memos.{no_job}
use Rattle.cf_pkg.specs.Jobs.{IsInOrder, Gives, value_in, job_level, job_value, job_parts}
use Rattle.cf_restrict.specs.Restrictions.{values_at}
use Rattle.cf_restrict.proofs.ValueLaws.{Restriction, exits_valued, restriction_gives, restriction_added}
use Rattle.cf_restrict.proofs.recipe.RestrictionsRecipe.cook.Goals as goal

pub chosen_values-requires : goal.chosen_values-requires
chosen_values-requires c =
    let p = package_of c.args.table.now c.args.values.now no_job in
    let f = c.in-Restrict.f in
    let i = c.in-Restrict.i in
    let b = c.in-Restrict.b in
    let u = c.restrict_grouping.new.table.levels in
    let vs = c.get.result.now in
    let es = c.in_ok-g.exits.items in
    let order : IsInOrder p (Restrict f i b) = subst (λ (j : Job). IsInOrder p j) c.in-Restrict.is c.requires.in_order in
    let r : Restriction p u f i b vs c.in_ok-g.g es = record {
      good = c.law.ensures.good;
      owned = order.0;
      listed = c.get.ensures.list;
      differ = c.get.ensures.differ;
      good1 = c.in_ok-g.ensures.good;
      canon = c.in_ok-g.ensures.restricted;
    } in
    record { within = subst (λ (v : List ℕ). All (λ e. e < length vs) v) (sym c.as_slice.ensures.value) (exits_valued p u f i b vs c.in_ok-g.g es r) }

pub returns-clause-value : goal.returns-clause-value
returns-clause-value c =
    let p = package_of c.args.table.now c.args.values.now no_job in
    let f = c.in-Restrict.f in
    let i = c.in-Restrict.i in
    let b = c.in-Restrict.b in
    let u = c.restrict_grouping.new.table.levels in
    let vs = c.get.result.now in
    let es = c.in_ok-g.exits.items in
    let order : IsInOrder p (Restrict f i b) = subst (λ (j : Job). IsInOrder p j) c.in-Restrict.is c.requires.in_order in
    let r : Restriction p u f i b vs c.in_ok-g.g es = record {
      good = c.law.ensures.good;
      owned = order.0;
      listed = c.get.ensures.list;
      differ = c.get.ensures.differ;
      good1 = c.in_ok-g.ensures.good;
      canon = c.in_ok-g.ensures.restricted;
    } in
    let items : c.in_ok-chosen.chosen.items ≡ values_at vs es = c.in_ok-chosen.ensures ∙ ap (values_at vs) c.as_slice.ensures.value in
    subst (λ (j : Job). Gives u c.in_ok-g.g c.in_ok-chosen.chosen.items (job_level j) (job_value p j)) (sym c.in-Restrict.is)
    (subst (λ (v : List ℤ). Gives u c.in_ok-g.g v f.head.level (λ bits. Some (restricted (value_in p f) i b bits))) (sym items) (restriction_gives p u f i b vs c.in_ok-g.g es r))

pub returns-clause-restricted : goal.returns-clause-restricted
returns-clause-restricted c is =
    let p = package_of c.args.table.now c.args.values.now no_job in
    let f = c.in-Restrict.f in
    let i = c.in-Restrict.i in
    let b = c.in-Restrict.b in
    let u = c.restrict_grouping.new.table.levels in
    let vs = c.get.result.now in
    let es = c.in_ok-g.exits.items in
    let order : IsInOrder p (Restrict f i b) = subst (λ (j : Job). IsInOrder p j) c.in-Restrict.is c.requires.in_order in
    let r : Restriction p u f i b vs c.in_ok-g.g es = record {
      good = c.law.ensures.good;
      owned = order.0;
      listed = c.get.ensures.list;
      differ = c.get.ensures.differ;
      good1 = c.in_ok-g.ensures.good;
      canon = c.in_ok-g.ensures.restricted;
    } in
    subst (λ (j : Job). AddsOnly p.groupings.levels u (job_parts p j)) (sym c.in-Restrict.is) (restriction_added p u f i b vs c.in_ok-g.g es r c.in_ok-g.ensures.added)
