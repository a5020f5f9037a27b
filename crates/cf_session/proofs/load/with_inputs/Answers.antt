use Rattle.std.proofs.Common.{List, ℕ, ◌+◌, ◌∷◌, drop, sym, subst}
use Rattle.cf_pkg.proofs.Valued.{Keeps-trans}
use Rattle.cf_session.specs.Loads.{IsFaultOfNames, state_by}
use Rattle.cf_reference.specs.Loading.{inputs_refusal}
use Rattle.cf_session.proofs.WalkFacts.{handed-on}
use Rattle.cf_session.proofs.InputFacts.{HaveInputs, inputs-none, inputs-at, inputs-next, inputs-fault-at}
use Rattle.cf_session.proofs.load.with_inputs.Goals as goal

pub loop-input-init : goal.loop-input-init
loop-input-init c =
    inputs-none c.args.pkg.now c.args.level c.args.variables.now c.args.functions.now c.in_ok-bound.bound c.args.inputs.now c.in_ok-bound.ensures
    c.requires.positions

pub returns-in_err-add_input-clause-fault : goal.returns-in_err-add_input-clause-fault
returns-in_err-add_input-clause-fault c =
    let rest = drop (c.loop-input.input-index + 1) c.args.inputs.now in
    handed-on c.from_residual-in_err-add_input.result c.in_err-add_input.field-0.0 (IsFaultOfNames (inputs_refusal (state_by c.args.pkg.now c.args.level c.args.variables.now c.args.functions.now) c.args.inputs.now)) c.from_residual-in_err-add_input.ensures.1
    (inputs-fault-at c.args.pkg.now c.loop-input.pkg c.args.level c.args.variables.now c.args.functions.now c.loop-input.bound c.args.inputs.now rest c.bytes.result.now c.in_err-add_input.field-0.0
    (subst (λ (n : List ℕ). HaveInputs c.args.pkg.now c.loop-input.pkg c.args.level c.args.variables.now c.args.functions.now c.loop-input.bound c.args.inputs.now (n ∷ rest)) (sym c.bytes.ensures)
    (inputs-at c.args.pkg.now c.loop-input.pkg c.args.level c.args.variables.now c.args.functions.now c.loop-input.bound c.args.inputs.now c.loop-input.input-index c.input-item.result c.loop-input.invariant c.loop-input-test.true c.input-item.is))
    c.in_err-add_input.ensures.fault)

pub loop-input-preserved : goal.loop-input-preserved
loop-input-preserved c =
    let rest = drop (c.loop-input.input-index + 1) c.args.inputs.now in
    inputs-next c.args.pkg.now c.loop-input.pkg c.add_input.new.pkg c.args.level c.args.variables.now c.args.functions.now c.loop-input.bound c.add_input.new.bound c.args.inputs.now rest c.bytes.result.now
    (subst (λ (n : List ℕ). HaveInputs c.args.pkg.now c.loop-input.pkg c.args.level c.args.variables.now c.args.functions.now c.loop-input.bound c.args.inputs.now (n ∷ rest)) (sym c.bytes.ensures)
    (inputs-at c.args.pkg.now c.loop-input.pkg c.args.level c.args.variables.now c.args.functions.now c.loop-input.bound c.args.inputs.now c.loop-input.input-index c.input-item.result c.loop-input.invariant c.loop-input-test.true c.input-item.is))
    c.in_ok-add_input.ensures.free c.in_ok-add_input.ensures.names c.in_ok-add_input.ensures.positions
    (Keeps-trans c.args.pkg.now c.loop-input.pkg c.add_input.new.pkg c.loop-input.invariant.kept c.add_input.ensures.kept)
