use Rattle.std.proofs.Common.{◌≡◌, Bool, ℤ, pos, List, [], ◌∷◌, Option, refl, ap, ◌∙◌, subst, rules}
use Rattle.std.specs.Prelude.{unwrap_or}
use Rattle.cf_model.specs.FlatFunctions.{tabulated}
use Rattle.cf_model.specs.Patterns.{Pattern, subs, pattern_of as flat_pattern}
use Rattle.cf_model.specs.Functions.{function_of}
use Rattle.cf_values.proofs.BookLaws.{Lengthens-same}
use Rattle.cf_build.specs.Assembling.{AddsOnly}
use Rattle.cf_pkg.specs.Faults.{IfOverflow}
use Rattle.cf_pkg.specs.Memos.{no_job}
use Rattle.cf_pkg.specs.Packages.{Package, package_of, Means, Keeps}
use Rattle.cf_pkg.specs.Jobs.{task_of, job_level, job_value, HasValues, IsLeastWithout, IsRestriction}
use Rattle.cf_pkg.proofs.Finishing.{value_alone}
use Rattle.cf_pkg.proofs.Keeping.{keeps}
use Rattle.cf_pkg.proofs.Valued.{Keeps-trans, has_values}
use Rattle.cf_pkg.proofs.Making.{made_added}
use Rattle.cf_pkg.proofs.Remembering.{sound_above}
use Rattle.cf_pkg.proofs.Doing.{made_outcome}
use Rattle.cf_pkg.proofs.Pkg.make_anew.Goals as goal

pub returns-in_err-g-clause-kept : goal.returns-in_err-g-clause-kept
returns-in_err-g-clause-kept g c =
    let before : Package = record { groupings = c.self.inside.table; lists = c.self.inside.values; memo = c.self.inside.memo } in
    let now : Package = record { groupings = c.cook.new.table; lists = c.self.inside.values; memo = c.self.inside.memo } in
    subst (λ (p : Package). Keeps p now) c.self.view_is (keeps before now c.law.ensures.good c.cook.ensures.kept c.cook.ensures.tuples (Lengthens-same before.lists before.lists refl) refl)

pub returns-in_err-f-clause-kept : goal.returns-in_err-f-clause-kept
returns-in_err-f-clause-kept g c =
    let before : Package = record { groupings = c.self.inside.table; lists = c.self.inside.values; memo = c.self.inside.memo } in
    let now : Package = record { groupings = c.cook.new.table; lists = c.self.inside.values; memo = c.self.inside.memo } in
    subst (λ (p : Package). Keeps p c.valued.new.self) c.self.view_is
    (Keeps-trans before now c.valued.new.self (keeps before now c.law.ensures.good c.cook.ensures.kept c.cook.ensures.tuples (Lengthens-same before.lists before.lists refl) refl) c.valued.ensures.kept)

pub returns-clause-kept : goal.returns-clause-kept
returns-clause-kept g c =
    let before : Package = record { groupings = c.self.inside.table; lists = c.self.inside.values; memo = c.self.inside.memo } in
    let now : Package = record { groupings = c.cook.new.table; lists = c.self.inside.values; memo = c.self.inside.memo } in
    subst (λ (p : Package). Keeps p c.valued.new.self) c.self.view_is
    (Keeps-trans before now c.valued.new.self (keeps before now c.law.ensures.good c.cook.ensures.kept c.cook.ensures.tuples (Lengthens-same before.lists before.lists refl) refl) c.valued.ensures.kept)

pub returns-in_err-g-clause-outcome : goal.returns-in_err-g-clause-outcome
returns-in_err-g-clause-outcome g c =
    let job = c.args.job in
    let inside : Package = package_of c.self.inside.table c.self.inside.values c.self.inside.memo in
    let same : ◌≡◌ {A = List Bool → Option ℤ} (job_value (package_of c.self.inside.table c.self.inside.values no_job) job) (job_value c.args.self.now job)
    = value_alone c.self.inside.table c.self.inside.values c.self.inside.memo (task_of job) ∙ ap (λ (p : Package). job_value p job) c.self.view_is in
    let fact : IfOverflow c.cook.result (IsLeastWithout (job_level job) (job_value c.args.self.now job))
    = subst (λ (v : List Bool → Option ℤ). IfOverflow c.cook.result (IsLeastWithout (job_level job) v)) same c.cook.ensures.overflow in
    record { answer = search rules; overflow = search (rules, fact) }

pub returns-in_err-f-clause-outcome : goal.returns-in_err-f-clause-outcome
returns-in_err-f-clause-outcome g c = record { answer = search rules; overflow = search rules }

pub returns-clause-outcome : goal.returns-clause-outcome
returns-clause-outcome g c =
    let bare : Package = package_of c.self.inside.table c.self.inside.values no_job in
    let q = c.valued.new.self in
    let u = c.cook.new.table.levels in
    let f = c.in_ok-f.f in
    let job = c.args.job in
    let same : ◌≡◌ {A = List Bool → Option ℤ} (job_value bare job) (job_value c.args.self.now job)
    = value_alone c.self.inside.table c.self.inside.values c.self.inside.memo (task_of job) ∙ ap (λ (p : Package). job_value p job) c.self.view_is in
    let parts : (List Bool → Option ℤ) → List Pattern = λ v. subs (flat_pattern (tabulated (job_level job) (λ bits. unwrap_or (v bits) (pos 0))) ∷ []) in
    let means : Means q f (function_of u c.in_ok-g.g.level c.in_ok-g.g.at c.in_ok-g.values.items)
    = subst (λ (v : List ℤ). Means q f (function_of u c.in_ok-g.g.level c.in_ok-g.g.at v)) c.as_slice.ensures.value c.in_ok-f.ensures.means in
    let has : HasValues q f (job_level job) (job_value bare job)
    = has_values u q c.in_ok-g.g f c.in_ok-g.values.items (job_level job) (job_value bare job) c.in_ok-g.ensures.value means in
    let added : IsRestriction job → AddsOnly bare.groupings.levels q.groupings.levels (parts (job_value bare job))
    = λ is. made_added bare.groupings.levels u c.in_ok-g.ensures.good q c.in_ok-f.ensures.kept.groupings c.law-2.ensures.good f c.law-2.ensures.function (job_level job) (job_value bare job) has
    (c.in_ok-g.ensures.restricted is) c.in_ok-f.ensures.added in
    made_outcome c.args.self.now q job f (subst (λ (v : List Bool → Option ℤ). HasValues q f (job_level job) v) same has) c.in_ok-f.ensures.parts
    (λ is. subst (λ (p : Package). AddsOnly p.groupings.levels q.groupings.levels (parts (job_value c.args.self.now job))) c.self.view_is
    (subst (λ (v : List Bool → Option ℤ). AddsOnly bare.groupings.levels q.groupings.levels (parts v)) same (added is)))

pub invariant_of-self : goal.invariant_of-self
invariant_of-self g c = sound_above c.self.inside.table c.cook.new.table c.self.inside.values c.self.inside.memo c.law.ensures.good c.cook.ensures.kept c.cook.ensures.tuples c.self.invariant

pub invariant_of-self-2 : goal.invariant_of-self-2
invariant_of-self-2 g c = sound_above c.self.inside.table c.cook.new.table c.self.inside.values c.self.inside.memo c.law.ensures.good c.cook.ensures.kept c.cook.ensures.tuples c.self.invariant
