use Rattle.std.proofs.Common.{rules, ◌≡◌, ◌<◌, ◌≤◌, ◌^◌, ℤ, pos, ◌*ℤ◌, ◌+ℤ◌, of_z, to_z, get_or, take, sym, ◌∙◌, ap, subst, arith}
use Rattle.std.specs.Prelude.{unsigned_abs}
use mir.Syntax.{w128}
use mir.Val.{SFits}
use Rattle.std.proofs.lemmas.Int.{to_z-of_z}
use Rattle.cf_comb.specs.Merges.{no_term}
use Rattle.cf_comb.proofs.Weighing.{at_least, term_value, value, size_more, size_within, value_more, value_bound, weight_none, held, term_read, sum_fits}
use Rattle.cf_comb.proofs.weights.weight_of.Goals as goal

pub returns-in_err-term : goal.returns-in_err-term
returns-in_err-term c =
    let v = c.args.v.now in
    let w = c.args.w.now in
    let sum = c.args.sum.now in
    let i = c.loop-i.i in
    let t = get_or sum i no_term in
    let x = get_or v t.0.0 (pos 0) in
    let y = get_or w t.0.1 (pos 0) in
    let x_fits : SFits w128 x = search rules in
    let y_fits : SFits w128 y = search rules in
    let large : unsigned_abs (term_value v w t) < 2 ^ 127 → ⊥ =
    subst (λ (z : ℤ). unsigned_abs (pos t.1 *ℤ (x *ℤ z)) < 2 ^ 127 → ⊥) (to_z-of_z w128 y y_fits)
    (subst (λ (z : ℤ). unsigned_abs (pos t.1 *ℤ (z *ℤ to_z w128 (of_z w128 y))) < 2 ^ 127 → ⊥) (to_z-of_z w128 x x_fits) c.in_err-term.ensures) in
    c.from_residual.ensures ∙ sym (weight_none v w sum (omega (arith, at_least (unsigned_abs (term_value v w t)) (2 ^ 127) large, size_within v w sum i no_term c.loop-i-test.true)))

pub returns-then-size-gt-MOST : goal.returns-then-size-gt-MOST
returns-then-size-gt-MOST c =
    let v = c.args.v.now in
    let w = c.args.w.now in
    let sum = c.args.sum.now in
    let i = c.loop-i.i in
    let t = get_or sum i no_term in
    let x = get_or v t.0.0 (pos 0) in
    let y = get_or w t.0.1 (pos 0) in
    let x_fits : SFits w128 x = search rules in
    let y_fits : SFits w128 y = search rules in
    let r = term_read t.1 x y c.in_ok-term.term x_fits y_fits c.in_ok-term.ensures in
    let size_is : c.unsigned_abs-size.result ≡ unsigned_abs (term_value v w t) = c.unsigned_abs-size.ensures.value ∙ ap unsigned_abs (r.1 ∙ r.2) in
    sym (weight_none v w sum (omega (arith, c.if-size-gt-MOST.true, size_is, c.loop-i.invariant.size_is, size_within v w sum i no_term c.loop-i-test.true)))

pub overflow_add-weight : goal.overflow_add-weight
overflow_add-weight c =
    let v = c.args.v.now in
    let w = c.args.w.now in
    let sum = c.args.sum.now in
    let i = c.loop-i.i in
    let t = get_or sum i no_term in
    let x = get_or v t.0.0 (pos 0) in
    let y = get_or w t.0.1 (pos 0) in
    let x_fits : SFits w128 x = search rules in
    let y_fits : SFits w128 y = search rules in
    let r = term_read t.1 x y c.in_ok-term.term x_fits y_fits c.in_ok-term.ensures in
    let size_is : c.unsigned_abs-size.result ≡ unsigned_abs (term_value v w t) = c.unsigned_abs-size.ensures.value ∙ ap unsigned_abs (r.1 ∙ r.2) in
    let bound : unsigned_abs (to_z w128 c.loop-i.weight-bits) ≤ c.loop-i.size =
    omega (arith, ap unsigned_abs c.loop-i.invariant.weight_is, value_bound v w (take i sum), c.loop-i.invariant.size_is) in
    sum_fits (to_z w128 c.loop-i.weight-bits) (held c.in_ok-term.term) (omega (arith, bound, c.unsigned_abs-size.ensures.value, c.if-size-gt-MOST.false))

pub loop-i-preserved : goal.loop-i-preserved
loop-i-preserved c =
    let v = c.args.v.now in
    let w = c.args.w.now in
    let sum = c.args.sum.now in
    let i = c.loop-i.i in
    let t = get_or sum i no_term in
    let x = get_or v t.0.0 (pos 0) in
    let y = get_or w t.0.1 (pos 0) in
    let x_fits : SFits w128 x = search rules in
    let y_fits : SFits w128 y = search rules in
    let r = term_read t.1 x y c.in_ok-term.term x_fits y_fits c.in_ok-term.ensures in
    let size_is : c.unsigned_abs-size.result ≡ unsigned_abs (term_value v w t) = c.unsigned_abs-size.ensures.value ∙ ap unsigned_abs (r.1 ∙ r.2) in
    let bound : unsigned_abs (to_z w128 c.loop-i.weight-bits) ≤ c.loop-i.size =
    omega (arith, ap unsigned_abs c.loop-i.invariant.weight_is, value_bound v w (take i sum), c.loop-i.invariant.size_is) in
    let before = to_z w128 c.loop-i.weight-bits in
    let fits = sum_fits before (held c.in_ok-term.term) (omega (arith, bound, c.unsigned_abs-size.ensures.value, c.if-size-gt-MOST.false)) in
    record {
      weight_is = to_z-of_z w128 (before +ℤ held c.in_ok-term.term) fits ∙ ap (λ (z : ℤ). z +ℤ held c.in_ok-term.term) c.loop-i.invariant.weight_is ∙ ap (λ (z : ℤ). value v w (take i sum) +ℤ z) (r.1 ∙ r.2) ∙ sym (value_more v w sum i no_term c.loop-i-test.true);
      size_is = omega (arith, size_more v w sum i no_term c.loop-i-test.true, size_is, c.loop-i.invariant.size_is);
      small = omega (arith, c.if-size-gt-MOST.false);
    }
