use Rattle.cf_blocks.proofs.BookLaws.{calls-next}
use Rattle.cf_blocks.proofs.books.add_calls.Goals as goal

pub loop-call-preserved : goal.loop-call-preserved
loop-call-preserved c =
    calls-next c.args.directory.now c.args.calls.now c.loop-call.book c.add_call.new.book _ c.call-item.result c.loop-call.call-index
    c.loop-call.invariant c.loop-call-test.true c.call-item.is c.in_ok-add_call.ensures
