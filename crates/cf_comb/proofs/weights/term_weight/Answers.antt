use Rattle.std.proofs.Common.{◌<◌, ◌^◌, ℤ, pos, ◌*ℤ◌, of_z, to_z, sym, ap, subst, arith}
use Rattle.std.specs.Prelude.{unsigned_abs, Option, SomeIff}
use mir.Syntax.{w128}
use Rattle.std.proofs.lemmas.Int.{to_z-of_z}
use Rattle.cf_comb.proofs.Weighing.{too_large, too_often}
use Rattle.cf_comb.proofs.weights.term_weight.Goals as goal

pub returns-in_err-product : goal.returns-in_err-product
returns-in_err-product c =
    let x = c.args.x in
    let y = c.args.y in
    let product_large : unsigned_abs (x *ℤ y) < 2 ^ 127 → ⊥ =
    subst (λ (z : ℤ). unsigned_abs (x *ℤ z) < 2 ^ 127 → ⊥) (to_z-of_z w128 y c.ranges.y)
    (subst (λ (z : ℤ). unsigned_abs (z *ℤ to_z w128 (of_z w128 y)) < 2 ^ 127 → ⊥) (to_z-of_z w128 x c.ranges.x) c.in_err-product.ensures) in
    let large = too_large c.args.count (x *ℤ y) c.requires product_large in
    subst (λ (r : Option ℤ). SomeIff r (unsigned_abs (pos c.args.count *ℤ (x *ℤ y)) < 2 ^ 127) (pos c.args.count *ℤ (x *ℤ y))) (sym c.from_residual.ensures) large

pub returns-then-count-gt-MOST : goal.returns-then-count-gt-MOST
returns-then-count-gt-MOST c =
    too_often c.args.count c.args.x c.args.y (omega (arith, c.if-count-gt-MOST.true)) (λ e. c.if-x-eq0.false (ap (of_z w128) e)) (λ e. c.if-y-eq0.false (ap (of_z w128) e))
