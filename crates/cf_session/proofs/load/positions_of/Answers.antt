use Rattle.std.proofs.Common.{arith}
use Rattle.cf_session.proofs.InputFacts.{place-below}
use Rattle.cf_session.proofs.load.positions_of.Goals as goal

pub overflow_cast-place : goal.overflow_cast-place
overflow_cast-place c =
    let below = place-below c.args.variables.now c.bytes.result.now c.in-Some.place c.in-Some.ensures in
    omega (arith, below, c.requires.few)
