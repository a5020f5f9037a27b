use Rattle.cf_blocks.proofs.CallLaws.{nothing-driven}
use Rattle.cf_blocks.proofs.drivers.add_call.Goals as goal

pub returns-in_default : goal.returns-in_default
returns-in_default c =
    nothing-driven c.args.numbers.now c.args.call.now c.callee.result c.args.place c.args.drivers.now c.callee.ensures.model
    c.in_default.not-Some
