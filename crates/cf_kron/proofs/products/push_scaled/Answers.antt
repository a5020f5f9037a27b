use Rattle.std.proofs.Common.{◌≡◌, ◌+◌, ◌++◌, ℤ, pos, ◌*ℤ◌, [], ◌∷◌, sym, subst, take, get_or, rules}
use mir.Syntax.{w128}
use mir.Val.{SFits, to_z, of_z}
use Rattle.std.proofs.lemmas.Int.{to_z-of_z}
use Rattle.cf_model.specs.Values.{Fits}
use Rattle.cf_pair.proofs.Pushing.{begun_push, with_begun}
use Rattle.cf_kron.specs.Products.{scaled}
use Rattle.cf_kron.proofs.ProductLaws.{fits_at, scaled_push}
use Rattle.cf_kron.proofs.products.push_scaled.Goals as goal

pub product_of-requires : goal.product_of-requires
product_of-requires c =
    let x = c.args.x in
    let y = get_or c.args.values.now c.loop-j.j (pos 0) in
    let fx : SFits w128 x = c.ranges.x in
    let fy : SFits w128 y = search rules in
    let fit : Fits (x *ℤ y) = fits_at x c.args.values.now c.loop-j.j c.requires.fit c.loop-j-test.true in
    search (rules, to_z-of_z)

pub loop-j-preserved : goal.loop-j-preserved
loop-j-preserved c =
    let x = c.args.x in
    let vs = c.args.values.now in
    let j = c.loop-j.j in
    let y = get_or vs j (pos 0) in
    let fx : SFits w128 x = c.ranges.x in
    let fy : SFits w128 y = search rules in
    let fit : SFits w128 (x *ℤ y) = fits_at x vs j c.requires.fit c.loop-j-test.true in
    let pushed : c.push_label.new.self ≡ with_begun c.loop-j.rows.rows (c.loop-j.rows.begun ++ (x *ℤ y) ∷ []) = search (rules, to_z-of_z) in
    let back : to_z w128 (of_z w128 x) ≡ x = to_z-of_z w128 x fx in
    let known : c.loop-j.rows ≡ with_begun c.args.rows.now.rows (c.args.rows.now.begun ++ scaled x (take j vs)) =
    subst (λ (z : ℤ). c.loop-j.rows ≡ with_begun c.args.rows.now.rows (c.args.rows.now.begun ++ scaled z (take j vs))) back c.loop-j.invariant in
    subst (λ (z : ℤ). c.push_label.new.self ≡ with_begun c.args.rows.now.rows (c.args.rows.now.begun ++ scaled z (take (j + 1) vs))) (sym back)
    (begun_push c.args.rows.now c.loop-j.rows c.push_label.new.self (scaled x (take j vs)) (scaled x (take (j + 1) vs)) (x *ℤ y) known (scaled_push x vs j c.loop-j-test.true) pushed)
