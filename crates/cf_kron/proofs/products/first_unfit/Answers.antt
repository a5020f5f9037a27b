use Rattle.std.proofs.Common.{ℤ, pos, subst, get_or, rules}
use Rattle.std.specs.Prelude.{All}
use mir.Syntax.{w128}
use mir.Val.{SFits}
use Rattle.std.proofs.lemmas.Int.{to_z-of_z}
use Rattle.cf_model.specs.Values.{Fits}
use Rattle.cf_pkg.specs.Faults.{IsFirstNone}
use Rattle.cf_kron.specs.Products.{scaled, scaled_fitting}
use Rattle.cf_kron.proofs.ProductLaws.{all_fit_more, first_unfit_is, whole_all_fit}
use Rattle.cf_kron.proofs.products.first_unfit.Goals as goal

pub returns-in-Some-clause-some : goal.returns-in-Some-clause-some
returns-in-Some-clause-some c =
    let x = get_or c.args.left.now c.loop-i.i (pos 0) in
    let fx : SFits w128 x = search rules in
    first_unfit_is c.args.left.now c.args.right.now c.loop-i.i c.in-Some.j c.loop-i-test.true c.loop-i.invariant
    (subst (λ (z : ℤ). IsFirstNone (scaled_fitting z c.args.right.now) c.in-Some.j) (to_z-of_z w128 x fx) c.in-Some.ensures.some)

pub loop-i-preserved : goal.loop-i-preserved
loop-i-preserved c =
    let x = get_or c.args.left.now c.loop-i.i (pos 0) in
    let fx : SFits w128 x = search rules in
    all_fit_more c.args.left.now c.args.right.now c.loop-i.i c.loop-i-test.true c.loop-i.invariant
    (subst (λ (z : ℤ). All Fits (scaled z c.args.right.now)) (to_z-of_z w128 x fx) c.in_default.ensures.none)

pub returns-clause-none : goal.returns-clause-none
returns-clause-none c = whole_all_fit c.args.left.now c.args.right.now c.loop-i.i c.loop-i-test.false c.loop-i.invariant
