use Rattle.cf_kron.proofs.ProductLaws.{joined_law, small_power}
use Rattle.std.proofs.Common.{◌*◌, ◌%◌, ◌^◌, ◌∙◌, arith}
use Rattle.cf_kron.proofs.products.joined.Goals as goal

pub new-requires-clause-below : goal.new-requires-clause-below
new-requires-clause-below c =
    let n = c.len-len.result in
    (joined_law c.args.first c.args.second n c.number.result c.number-2.result (1 * 2 ^ n % 340282366920938463463374607431768211456) c.len-len.ensures.len c.requires.equal (small_power n (omega (arith, c.len-len.ensures.len, c.requires.most)))
    c.number.ensures.number c.number-2.ensures.number c.number.ensures.below c.number-2.ensures.below).0

pub returns : goal.returns
returns c =
    let n = c.len-len.result in
    c.new.ensures.listed
    ∙ (joined_law c.args.first c.args.second n c.number.result c.number-2.result (1 * 2 ^ n % 340282366920938463463374607431768211456) c.len-len.ensures.len c.requires.equal (small_power n (omega (arith, c.len-len.ensures.len, c.requires.most)))
    c.number.ensures.number c.number-2.ensures.number c.number.ensures.below c.number-2.ensures.below).1
