use Rattle.std.proofs.Common.{◌≡◌, ◌+◌, ◌<◌, List, true, get_or, length, ap, subst, sym, refl, ◌∙◌, arith}
use Rattle.cf_flat.specs.declared.flat.Out.{Out}
use Rattle.cf_pkg.specs.declared.Func.{Func}
use Rattle.cf_pkg.proofs.Valued.{Keeps-trans}
use Rattle.cf_circuit.specs.declared.truths.Truth.{Truth}
use Rattle.cf_circuit.specs.declared.truths.Truth.TheVariants.{Never}
use Rattle.cf_circuit.specs.Truths.{Tells}
use Rattle.cf_circuit.specs.Covers.{truth_at}
use Rattle.cf_circuit.specs.Needs.{is_needed}
use Rattle.cf_circuit.specs.Functions.{wire_test}
use Rattle.cf_circuit.proofs.BuildLaws.{Shown, shown_more, read_is}
use Rattle.cf_circuit.proofs.outputs.build.Goals as goal

pub function_of-requires-clause-at : goal.function_of-requires-clause-at
function_of-requires-clause-at c =
    let flat = c.args.flat.now in
    let k = c.loop-out.out-index in
    let tests = wire_test flat c.args.positions.now in
    let wire = c.out-item.result.wire in
    let low : k < length flat.outputs = omega (arith, c.loop-out-test.true, ap length c.items-outputs.ensures) in
    let out : (d : Out) → (get_or flat.outputs k d).wire ≡ wire = λ d. sym (ap (λ (o : Out). o.wire) (read_is c.items-outputs.result.now flat.outputs k c.out-item.result d c.loop-out-test.true c.out-item.is c.items-outputs.ensures)) in
    let within : wire < length c.in_ok-truths.truths.items = (let w = c.requires.flat.wires k c.out-item.result low in let o = out c.out-item.result in omega (arith, w, o, c.in_ok-truths.ensures.full)) in
    let need : is_needed c.in_ok-needed.needed.items wire ≡ true = sym (ap (λ j. is_needed c.in_ok-needed.needed.items j) (out c.out-item.result)) ∙ c.in_ok-needed.ensures.needed.outputs k c.out-item.result low in
    let read : c.index.result.now ≡ truth_at c.in_ok-truths.truths.items wire = read_is c.in_ok-truths.truths.items c.in_ok-truths.truths.items wire c.index.result.now Never within c.index.ensures refl in
    let told : Tells c.loop-out.pkg c.args.level (tests wire) c.index.result.now = subst (λ (t : Truth). Tells c.loop-out.pkg c.args.level (tests wire) t) (sym read) (c.loop-out.invariant.told wire within need) in
    (tests wire, told)

pub returns-in_err-push-clause-kept : goal.returns-in_err-push-clause-kept
returns-in_err-push-clause-kept c = Keeps-trans c.args.pkg.now c.loop-out.pkg c.function_of.new.pkg c.loop-out.invariant.kept c.function_of.ensures.kept

pub loop-out-preserved : goal.loop-out-preserved
loop-out-preserved c =
    let flat = c.args.flat.now in
    let k = c.loop-out.out-index in
    let tests = wire_test flat c.args.positions.now in
    let wire = c.out-item.result.wire in
    let low : k < length flat.outputs = omega (arith, c.loop-out-test.true, ap length c.items-outputs.ensures) in
    let out : (d : Out) → (get_or flat.outputs k d).wire ≡ wire = λ d. sym (ap (λ (o : Out). o.wire) (read_is c.items-outputs.result.now flat.outputs k c.out-item.result d c.loop-out-test.true c.out-item.is c.items-outputs.ensures)) in
    let within : wire < length c.in_ok-truths.truths.items = (let w = c.requires.flat.wires k c.out-item.result low in let o = out c.out-item.result in omega (arith, w, o, c.in_ok-truths.ensures.full)) in
    let need : is_needed c.in_ok-needed.needed.items wire ≡ true = sym (ap (λ j. is_needed c.in_ok-needed.needed.items j) (out c.out-item.result)) ∙ c.in_ok-needed.ensures.needed.outputs k c.out-item.result low in
    let read : c.index.result.now ≡ truth_at c.in_ok-truths.truths.items wire = read_is c.in_ok-truths.truths.items c.in_ok-truths.truths.items wire c.index.result.now Never within c.index.ensures refl in
    let told : Tells c.loop-out.pkg c.args.level (tests wire) c.index.result.now = subst (λ (t : Truth). Tells c.loop-out.pkg c.args.level (tests wire) t) (sym read) (c.loop-out.invariant.told wire within need) in
    subst (λ (fs : List Func). Shown c.args.pkg.now c.function_of.new.pkg c.args.level flat c.args.positions.now c.in_ok-needed.needed.items c.in_ok-truths.truths.items fs (k + 1)) (sym c.in_ok-push.ensures.items)
    (shown_more c.args.pkg.now c.loop-out.pkg c.function_of.new.pkg c.args.level flat c.args.positions.now c.in_ok-needed.needed.items c.in_ok-truths.truths.items c.loop-out.functions.items k c.in_ok-f.f wire out
    c.loop-out.invariant c.function_of.ensures.kept (c.in_ok-f.ensures.shown (tests wire) told))
