use Rattle.cf_blocks.proofs.BookLaws.{formals-added}
use Rattle.cf_blocks.proofs.calls.formals_of.Goals as goal

pub returns : goal.returns
returns c = formals-added c.args.pins.now c.loop-pin.book c.loop-pin.pin-index c.requires c.loop-pin.invariant c.loop-pin-test.false
