use Rattle.std.proofs.Common.{List, take, get_or, refl, sym, subst, arith}
use Rattle.std.specs.List.{All}
use Rattle.std.proofs.lemmas.List.{take_more, take_all}
use Rattle.std.proofs.lemmas.List.Elements.{All-push}
use Rattle.cf_table.specs.declared.BConn.{BConn}
use Rattle.cf_table.specs.Goodness.{IsGoodOver}
use Rattle.cf_table.proofs.Told.{blank}
use Rattle.cf_table.proofs.goodness.are_good_connections.Goals as goal

pub loop-b-preserved : goal.loop-b-preserved
loop-b-preserved c =
    let bs = c.args.bs.now in
    let i = c.loop-b.b-index in
    let good = IsGoodOver c.args.table.now c.args.level in
    subst (λ (xs : List BConn). All good xs) (sym (take_more bs i blank c.loop-b-test.true)) (All-push good (take i bs) (get_or bs i blank) c.loop-b.invariant (c.is_good_connection.ensures.0 c.if-not-is_good_connection.false))

pub returns : goal.returns
returns c = (λ h. subst (λ (bs : List BConn). All (IsGoodOver c.args.table.now c.args.level) bs) (take_all c.loop-b.b-index c.args.bs.now (omega (arith, c.loop-b-test.false))) c.loop-b.invariant, λ h. refl)
