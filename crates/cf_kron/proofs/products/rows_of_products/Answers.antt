use Rattle.std.proofs.Common.{ℤ, pos, sym, subst, get_or, rules}
use Rattle.std.specs.Prelude.{All}
use mir.Syntax.{w128}
use mir.Val.{SFits}
use Rattle.std.proofs.lemmas.Int.{to_z-of_z}
use Rattle.cf_model.specs.Values.{Fits}
use Rattle.cf_kron.specs.Products.{scaled}
use Rattle.cf_kron.proofs.products.rows_of_products.Goals as goal

pub push_scaled-requires : goal.push_scaled-requires
push_scaled-requires c =
    let x = get_or c.args.left.now c.loop-i.i (pos 0) in
    let fx : SFits w128 x = search rules in
    record { fit = subst (λ (z : ℤ). All Fits (scaled z c.args.right.now)) (sym (to_z-of_z w128 x fx)) (c.requires.fit c.loop-i.i (pos 0) c.loop-i-test.true) }
