use Rattle.std.proofs.Common.{◌≡◌, sym, ◌∙◌, ap, Some, below_more, arith}
use Rattle.std.proofs.lemmas.Bool.{false≢true}
use Rattle.std.proofs.lemmas.Option.{slice_get-get_or, slice_get_within, same_Some}
use Rattle.cf_model.proofs.PatternLaws.{ranks_decide}
use Rattle.cf_build.proofs.label.place_of.Goals as goal

pub returns-then-eq-clause-place : goal.returns-then-eq-clause-place
returns-then-eq-clause-place g c =
    let x = c.index-labels-i.result in
    let keys : g.T.Label.key_of x ≡ g.T.Label.key_of c.args.label = sym c.key.ensures.key ∙ (ranks_decide _ _).0 (sym c.eq.ensures ∙ c.if-eq.true) ∙ c.key-key.ensures.key in
    slice_get-get_or c.args.labels.now c.loop-i.i x c.loop-i-test.true ∙ ap Some (sym c.index-labels-i.is ∙ g.met.T.Label.apart x c.args.label c.key.ensures.label c.key-key.ensures.label keys)

pub loop-i-preserved : goal.loop-i-preserved
loop-i-preserved g c =
    let x = c.index-labels-i.result in
    below_more _ _ c.loop-i.invariant (λ h.
    (let same : x ≡ c.args.label = c.index-labels-i.is ∙ same_Some _ _ (sym (slice_get-get_or c.args.labels.now c.loop-i.i x c.loop-i-test.true) ∙ h) in
    false≢true (sym c.if-eq.false ∙ c.eq.ensures ∙ (ranks_decide _ _).1 (c.key.ensures.key ∙ ap g.T.Label.key_of same ∙ sym c.key-key.ensures.key))))

pub returns-clause-place : goal.returns-clause-place
returns-clause-place g c = λ k h. c.loop-i.invariant k (omega (arith, slice_get_within c.args.labels.now k c.args.label h, c.loop-i-test.false)) h
