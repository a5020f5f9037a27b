use Rattle.std.proofs.Common.{arith, rules, ap, sym, suc, ◌+◌, ◌≡◌, ◌++◌, ◌∷◌, [], ◌∙◌, ◌<◌}
use Rattle.std.specs.Prelude.{nat_abs, take}
use mir.Val.{SFits}
use Rattle.std.specs.Int.{w128}
use Rattle.std.proofs.lemmas.Int.{to_z-of_z}
use Rattle.cf_session.specs.Values.{places_of}
use Rattle.cf_session.proofs.OverFacts.{places_more, place_low, position_there, kinds_on}
use Rattle.cf_session.proofs.values.positions.Goals as goal

pub overflow_cast-unsigned_abs : goal.overflow_cast-unsigned_abs
overflow_cast-unsigned_abs c =
    let fits : SFits w128 c.in-Position.i = search rules in
    let low : nat_abs c.in-Position.i < 128 = place_low 128 c.args.vars.now c.loop-var.var-index _ c.in-Position.i c.in-Position.is c.loop-var-test.true c.requires.low in
    let same : c.unsigned_abs.result ≡ nat_abs c.in-Position.i = c.unsigned_abs.ensures.value ∙ ap nat_abs (to_z-of_z w128 c.in-Position.i fits) in
    search (rules, arith)

pub unreachable-requires : goal.unreachable-requires
unreachable-requires c =
    let there = position_there c.args.vars.now c.loop-var.var-index _ c.loop-var-test.true (kinds_on c.args.vars.now c.requires.kinds) in
    c.in_default.not-Position there.0 there.1

pub loop-var-preserved : goal.loop-var-preserved
loop-var-preserved c =
    let fits : SFits w128 c.in-Position.i = search rules in
    let same : c.unsigned_abs.result ≡ nat_abs c.in-Position.i = c.unsigned_abs.ensures.value ∙ ap nat_abs (to_z-of_z w128 c.in-Position.i fits) in
    let one : suc c.loop-var.var-index ≡ c.loop-var.var-index + 1 = omega arith in
    c.in_ok-push-in-Position.ensures.items
    ∙ ap (λ l. l ++ c.unsigned_abs.result ∷ []) c.loop-var.invariant
    ∙ ap (λ x. places_of (take c.loop-var.var-index c.args.vars.now) ++ x ∷ []) same
    ∙ sym (places_more c.args.vars.now c.loop-var.var-index _ c.in-Position.i c.in-Position.is c.loop-var-test.true)
    ∙ ap (λ k. places_of (take k c.args.vars.now)) one
