use Rattle.std.proofs.Common.{sym, ◌∙◌, ap, subst}
use Rattle.cf_pair.specs.Products.{pairs_at, IsPlace}
use Rattle.cf_build.proofs.Turns.{if_ok}
use Rattle.cf_pair.proofs.PairPlaces.{stand_at}
use Rattle.cf_pair.proofs.middles.Middles.pairs.Goals as goal

pub returns-in-Formula : goal.returns-in-Formula
returns-in-Formula c = if_ok c.pairs.result _ _ c.pairs.ensures (λ v e. e ∙ ap (pairs_at c.args.table.now.products) (sym c.in-Formula.is))

pub product_at-requires : goal.product_at-requires
product_at-requires c = subst (IsPlace c.args.table.now.products) c.in-Kept.is c.requires

pub returns-in-Kept : goal.returns-in-Kept
returns-in-Kept c =
    let t = c.args.table.now in
    let r = c.product_at.result.now in
    let here = subst (IsPlace t.products) c.in-Kept.is c.requires in
    let same = stand_at t c.in-Kept.place r.head r.pairs.items here c.product_at.ensures ∙ ap (pairs_at t.products) (sym c.in-Kept.is) in
    if_ok c.from_slice.result _ _ c.from_slice.ensures.items (λ v e. e ∙ c.as_slice.ensures.value ∙ same)
