use Rattle.std.proofs.Common.{◌+◌, sym, subst}
use Rattle.cf_comb.proofs.MergeLaws.{IsMerged, merged_first, merged_second, merged_both, merged_all}
use Rattle.cf_comb.proofs.merging.merged.Goals as goal

pub loop-i-preserved-in-First : goal.loop-i-preserved-in-First
loop-i-preserved-in-First c =
    let a = c.args.a.now in
    let b = c.args.b.now in
    let i = c.loop-i.i in
    let j = c.loop-i.j in
    let h = c.in-First.ensures in
    subst (IsMerged a b (i + 1) j) (sym c.in_ok-push-in-First.ensures.items) (merged_first a b i j c.loop-i.sum.items c.requires.first c.loop-i.invariant h.0 h.1)

pub loop-i-preserved-in-Second : goal.loop-i-preserved-in-Second
loop-i-preserved-in-Second c =
    let a = c.args.a.now in
    let b = c.args.b.now in
    let i = c.loop-i.i in
    let j = c.loop-i.j in
    let h = c.in-Second.ensures in
    subst (IsMerged a b i (j + 1)) (sym c.in_ok-push-in-Second.ensures.items) (merged_second a b i j c.loop-i.sum.items c.requires.second c.loop-i.invariant h.0 h.1)

pub loop-i-preserved : goal.loop-i-preserved
loop-i-preserved c =
    let a = c.args.a.now in
    let b = c.args.b.now in
    let i = c.loop-i.i in
    let j = c.loop-i.j in
    let h = c.in-Both.ensures in
    subst (IsMerged a b (i + 1) (j + 1)) (sym c.in_ok-push-in-Both.ensures.items) (merged_both a b i j c.loop-i.sum.items c.requires.first c.requires.second c.loop-i.invariant h.0 h.1 h.2)

pub returns : goal.returns
returns c = merged_all c.args.a.now c.args.b.now c.loop-i.i c.loop-i.j c.loop-i.sum.items c.requires.first c.requires.second c.loop-i.invariant c.loop-i-test.false
