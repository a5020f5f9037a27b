use Rattle.std.proofs.Common.{drop}
use Rattle.cf_reference.specs.States.{is_among}
use Rattle.cf_reference.specs.Loading.{output_name}
use Rattle.cf_session.specs.Sessions.{names_of}
use Rattle.cf_session.proofs.OutputFacts.{ComesTo}
use Rattle.cf_session.proofs.load.outputs_clash.Given as goal

abbrev pub invariant-loop-output : goal.invariant-loop-output
invariant-loop-output l =
    ComesTo (λ output. is_among (names_of l.variables) (output_name l.prefix output)) l.outputs
    (drop l.output-index l.outputs)
