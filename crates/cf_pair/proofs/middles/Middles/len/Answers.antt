use Rattle.std.proofs.Common.{length, sym, ◌∙◌, ap, subst, arith}
use Rattle.cf_pair.specs.declared.middles.Middles.{Middles}
use Rattle.cf_pair.specs.Products.{pairs_at, IsPlace}
use Rattle.cf_pair.proofs.PairPlaces.{stand_at}
use Rattle.cf_pair.proofs.Pushing.{plain_long}
use Rattle.cf_pair.proofs.middles.Middles.len.Goals as goal

pub returns-in-Formula : goal.returns-in-Formula
returns-in-Formula c = sym (plain_long c.in-Formula.plain) ∙ ap (λ (m : Middles). length (pairs_at c.args.table.now.products m)) (sym c.in-Formula.is)

pub product_at-requires : goal.product_at-requires
product_at-requires c = subst (IsPlace c.args.table.now.products) c.in-Kept.is c.requires

pub returns-in-Kept : goal.returns-in-Kept
returns-in-Kept c =
    let t = c.args.table.now in
    let r = c.product_at.result.now in
    let here = subst (IsPlace t.products) c.in-Kept.is c.requires in
    omega (arith, c.len.ensures, r.pairs.ok, ap length (stand_at t c.in-Kept.place r.head r.pairs.items here c.product_at.ensures), ap (λ (m : Middles). length (pairs_at t.products m)) c.in-Kept.is)
