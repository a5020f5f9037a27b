use Rattle.std.proofs.Common.{ℕ, List, length, get_or, sym, ◌∙◌, ap, subst, arith}
use Rattle.std.proofs.lemmas.List.{get_or_default}
use Rattle.cf_pair.specs.declared.middles.Middles.{Middles}
use Rattle.cf_pair.specs.Products.{pairs_at, IsPlace}
use Rattle.cf_pair.proofs.PairPlaces.{stand_at}
use Rattle.cf_pair.proofs.Pushing.{plain_long, met_at}
use Rattle.cf_pair.proofs.middles.Middles.pair.Goals as goal

pub returns-in-Formula : goal.returns-in-Formula
returns-in-Formula c =
    let plain = c.in-Formula.plain in
    let same = ap (λ (m : Middles). pairs_at c.args.table.now.products m) c.in-Formula.is in
    c.pair.ensures ∙ sym (met_at plain c.args.number (0, 0) (omega (arith, c.requires.within, ap length same, plain_long plain))) ∙ ap (λ (v : List (ℕ × ℕ)). get_or v c.args.number (0, 0)) (sym same)

pub product_at-requires : goal.product_at-requires
product_at-requires c = subst (IsPlace c.args.table.now.products) c.in-Kept.is c.requires.place

pub index-requires : goal.index-requires
index-requires c =
    let t = c.args.table.now in
    let r = c.product_at.result.now in
    let here = subst (IsPlace t.products) c.in-Kept.is c.requires.place in
    omega (arith, c.requires.within, r.pairs.ok, ap length (stand_at t c.in-Kept.place r.head r.pairs.items here c.product_at.ensures), ap (λ (m : Middles). length (pairs_at t.products m)) c.in-Kept.is)

pub returns-in-Kept : goal.returns-in-Kept
returns-in-Kept c =
    let t = c.args.table.now in
    let r = c.product_at.result.now in
    let here = subst (IsPlace t.products) c.in-Kept.is c.requires.place in
    let same = stand_at t c.in-Kept.place r.head r.pairs.items here c.product_at.ensures ∙ ap (pairs_at t.products) (sym c.in-Kept.is) in
    let x = c.index.result.now in
    c.index.ensures ∙ ap (λ (v : List (ℕ × ℕ)). get_or v c.args.number x) same ∙ get_or_default (pairs_at t.products c.args.self) c.args.number x (0, 0) c.requires.within
