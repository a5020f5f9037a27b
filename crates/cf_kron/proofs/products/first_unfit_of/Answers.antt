use Rattle.std.proofs.Common.{◌≡◌, ℤ, pos, ◌*ℤ◌, None, Some, sym, subst, get_or, take, rules, ◌+◌}
use Rattle.std.specs.Prelude.{All}
use mir.Syntax.{w128}
use mir.Val.{SFits, to_z, of_z}
use Rattle.std.proofs.lemmas.Int.{to_z-of_z}
use Rattle.cf_model.specs.Values.{Fits, fitting}
use Rattle.cf_kron.specs.Products.{scaled}
use Rattle.cf_kron.proofs.ProductLaws.{first_none, fit_more, fits_some, whole_fits}
use Rattle.cf_kron.proofs.products.first_unfit_of.Goals as goal

pub returns-in_default-clause-some : goal.returns-in_default-clause-some
returns-in_default-clause-some c =
    let x = c.args.x in
    let vs = c.args.values.now in
    let y = get_or vs c.loop-j.j (pos 0) in
    let fx : SFits w128 x = c.ranges.x in
    let fy : SFits w128 y = search rules in
    let none : fitting (x *ℤ y) ≡ None = search (rules, to_z-of_z) in
    let known : All Fits (scaled x (take c.loop-j.j vs)) = subst (λ (z : ℤ). All Fits (scaled z (take c.loop-j.j vs))) (to_z-of_z w128 x fx) c.loop-j.invariant in
    first_none x vs c.loop-j.j c.loop-j-test.true known none

pub loop-j-preserved : goal.loop-j-preserved
loop-j-preserved c =
    let x = c.args.x in
    let vs = c.args.values.now in
    let j = c.loop-j.j in
    let y = get_or vs j (pos 0) in
    let fx : SFits w128 x = c.ranges.x in
    let fy : SFits w128 y = search rules in
    let some : fitting (x *ℤ y) ≡ Some c.in-Some.field-0 = search (rules, to_z-of_z) in
    let back : to_z w128 (of_z w128 x) ≡ x = to_z-of_z w128 x fx in
    let known : All Fits (scaled x (take j vs)) = subst (λ (z : ℤ). All Fits (scaled z (take j vs))) back c.loop-j.invariant in
    subst (λ (z : ℤ). All Fits (scaled z (take (j + 1) vs))) (sym back) (fit_more x vs j c.loop-j-test.true known (fits_some (x *ℤ y) c.in-Some.field-0 some))

pub returns-clause-none : goal.returns-clause-none
returns-clause-none c =
    let x = c.args.x in
    let vs = c.args.values.now in
    let fx : SFits w128 x = c.ranges.x in
    whole_fits x vs c.loop-j.j c.loop-j-test.false (subst (λ (z : ℤ). All Fits (scaled z (take c.loop-j.j vs))) (to_z-of_z w128 x fx) c.loop-j.invariant)
