use Rattle.std.proofs.Common.{drop}
use Rattle.cf_session.proofs.InputFacts.{HaveInputs}
use Rattle.cf_session.proofs.load.with_inputs.Given as goal

abbrev pub invariant-loop-input : goal.invariant-loop-input
invariant-loop-input l =
    HaveInputs l.initial.pkg l.pkg l.level l.variables l.functions l.bound l.inputs (drop l.input-index l.inputs)
