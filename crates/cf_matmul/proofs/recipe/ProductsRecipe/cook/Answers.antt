use Rattle.std.proofs.Common.{◌^◌, ◌-◌, Bool, ℤ, List, length, map, Option, sym, subst}
use Rattle.std.specs.Prelude.{IfOk}
use Rattle.std.specs.List.{All}
use Rattle.cf_model.specs.Matrices.{product}
use Rattle.cf_model.specs.PairSums.{weight}
use Rattle.cf_comb.specs.declared.CombId.{CombId}
use Rattle.cf_comb.specs.CombBooks.{OwnsSum, PairsBelow}
use Rattle.cf_pkg.specs.declared.jobs.Job.{Job}
use Rattle.cf_pkg.specs.declared.jobs.Job.TheVariants.{Matmul}
use Rattle.cf_pkg.specs.Packages.{package_of}
use Rattle.cf_pkg.specs.Faults.{IfOverflow}
use Rattle.cf_pkg.specs.Memos.{no_job}
use Rattle.cf_pkg.specs.Jobs.{IsInOrder, IsRestriction, IsLeastWithout, Gives, value_in, job_level, job_value}
use Rattle.cf_pkg.proofs.Valued.{Worked}
use Rattle.cf_matmul.specs.Symbolic.{sums_of}
use Rattle.cf_matmul.specs.Weighings.{AreWeights}
use Rattle.cf_matmul.proofs.ProductWorks.{ProductMade, pairs_within, product_worked, weighed_exit, weighed_gives, weighed_least}
use Rattle.cf_matmul.proofs.recipe.ProductsRecipe.cook.Goals as goal

pub weigh_all-requires-clause-owned : goal.weigh_all-requires-clause-owned
weigh_all-requires-clause-owned c =
    subst (λ (v : List CombId). All (OwnsSum c.symbolic.new.book) v) (sym c.as_slice.ensures.value) c.in_ok-head.ensures.summed.owned

pub weigh_all-requires-clause-within : goal.weigh_all-requires-clause-within
weigh_all-requires-clause-within c =
    let p = package_of c.args.table.now c.args.values.now no_job in
    let f = c.in-Matmul.f in
    let g = c.in-Matmul.g in
    let order : IsInOrder p (Matmul f g) = subst (λ (j : Job). IsInOrder p j) c.in-Matmul.is c.requires.in_order in
    let u = c.symbolic.new.table.levels in
    let book = c.symbolic.new.book in
    let vs = c.get-left.result.now in
    let ws = c.get-right.result.now in
    let head = c.in_ok-head.head in
    let ids = c.in_ok-head.sums.items in
    let r : ProductMade p u book f g vs ws head ids = record {
      good = c.law.ensures.good;
      functions = order.0;
      above = order.1;
      left_list = c.get-left.ensures.list;
      right_list = c.get-right.ensures.list;
      good_now = c.in_ok-head.ensures.grown.good;
      made = c.in_ok-head.ensures.summed;
    } in
    subst (λ (v : List CombId). All (PairsBelow (length vs) (length ws)) (sums_of book v)) (sym c.as_slice.ensures.value) (pairs_within p u book f g vs ws head ids r)

pub answer-requires-clause-owned : goal.answer-requires-clause-owned
answer-requires-clause-owned c =
    c.in_ok-head.ensures.summed.there

pub answer-requires-clause-exit : goal.answer-requires-clause-exit
answer-requires-clause-exit c =
    let p = package_of c.args.table.now c.args.values.now no_job in
    let f = c.in-Matmul.f in
    let g = c.in-Matmul.g in
    let order : IsInOrder p (Matmul f g) = subst (λ (j : Job). IsInOrder p j) c.in-Matmul.is c.requires.in_order in
    let u = c.symbolic.new.table.levels in
    let book = c.symbolic.new.book in
    let vs = c.get-left.result.now in
    let ws = c.get-right.result.now in
    let head = c.in_ok-head.head in
    let ids = c.in_ok-head.sums.items in
    let r : ProductMade p u book f g vs ws head ids = record {
      good = c.law.ensures.good;
      functions = order.0;
      above = order.1;
      left_list = c.get-left.ensures.list;
      right_list = c.get-right.ensures.list;
      good_now = c.in_ok-head.ensures.grown.good;
      made = c.in_ok-head.ensures.summed;
    } in
    let level = f.head.level in
    let words = map (weight vs ws) (sums_of book ids) in
    let value : List Bool → Option ℤ = product (2 ^ (level - 1)) (value_in p f) (value_in p g) in
    let worked : Worked u head level words value = product_worked p u book f g vs ws head ids r in
    let weighed = c.in_ok-weighed.weighed in
    let told : AreWeights words weighed = subst (λ (v : List CombId). AreWeights (map (weight vs ws) (sums_of book v)) weighed) c.as_slice.ensures.value c.in_ok-weighed.ensures in
    weighed_exit u head level words value weighed worked told

pub returns-clause-value : goal.returns-clause-value
returns-clause-value c =
    let p = package_of c.args.table.now c.args.values.now no_job in
    let f = c.in-Matmul.f in
    let g = c.in-Matmul.g in
    let order : IsInOrder p (Matmul f g) = subst (λ (j : Job). IsInOrder p j) c.in-Matmul.is c.requires.in_order in
    let u = c.symbolic.new.table.levels in
    let book = c.symbolic.new.book in
    let vs = c.get-left.result.now in
    let ws = c.get-right.result.now in
    let head = c.in_ok-head.head in
    let ids = c.in_ok-head.sums.items in
    let r : ProductMade p u book f g vs ws head ids = record {
      good = c.law.ensures.good;
      functions = order.0;
      above = order.1;
      left_list = c.get-left.ensures.list;
      right_list = c.get-right.ensures.list;
      good_now = c.in_ok-head.ensures.grown.good;
      made = c.in_ok-head.ensures.summed;
    } in
    let level = f.head.level in
    let words = map (weight vs ws) (sums_of book ids) in
    let value : List Bool → Option ℤ = product (2 ^ (level - 1)) (value_in p f) (value_in p g) in
    let worked : Worked u head level words value = product_worked p u book f g vs ws head ids r in
    let weighed = c.in_ok-weighed.weighed in
    let told : AreWeights words weighed = subst (λ (v : List CombId). AreWeights (map (weight vs ws) (sums_of book v)) weighed) c.as_slice.ensures.value c.in_ok-weighed.ensures in
    subst (λ (j : Job). IfOk c.answer.result (λ r. Gives u r.0 r.1.items (job_level j) (job_value p j))) (sym c.in-Matmul.is)
    (weighed_gives u head level words value weighed c.answer.result worked told c.answer.ensures)

pub returns-clause-overflow : goal.returns-clause-overflow
returns-clause-overflow c =
    let p = package_of c.args.table.now c.args.values.now no_job in
    let f = c.in-Matmul.f in
    let g = c.in-Matmul.g in
    let order : IsInOrder p (Matmul f g) = subst (λ (j : Job). IsInOrder p j) c.in-Matmul.is c.requires.in_order in
    let u = c.symbolic.new.table.levels in
    let book = c.symbolic.new.book in
    let vs = c.get-left.result.now in
    let ws = c.get-right.result.now in
    let head = c.in_ok-head.head in
    let ids = c.in_ok-head.sums.items in
    let r : ProductMade p u book f g vs ws head ids = record {
      good = c.law.ensures.good;
      functions = order.0;
      above = order.1;
      left_list = c.get-left.ensures.list;
      right_list = c.get-right.ensures.list;
      good_now = c.in_ok-head.ensures.grown.good;
      made = c.in_ok-head.ensures.summed;
    } in
    let level = f.head.level in
    let words = map (weight vs ws) (sums_of book ids) in
    let value : List Bool → Option ℤ = product (2 ^ (level - 1)) (value_in p f) (value_in p g) in
    let worked : Worked u head level words value = product_worked p u book f g vs ws head ids r in
    let weighed = c.in_ok-weighed.weighed in
    let told : AreWeights words weighed = subst (λ (v : List CombId). AreWeights (map (weight vs ws) (sums_of book v)) weighed) c.as_slice.ensures.value c.in_ok-weighed.ensures in
    subst (λ (j : Job). IfOverflow c.answer.result (IsLeastWithout (job_level j) (job_value p j))) (sym c.in-Matmul.is)
    (weighed_least u head level words value weighed c.answer.result worked told c.answer.ensures)

pub returns-clause-restricted : goal.returns-clause-restricted
returns-clause-restricted c is =
    absurd (subst (λ (j : Job). IsRestriction j) c.in-Matmul.is is)
