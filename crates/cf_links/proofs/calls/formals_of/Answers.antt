use Rattle.cf_links.proofs.CallsSearch.{same-next-of}
use Rattle.cf_links.proofs.calls.formals_of.Goals as goal

pub loop-pin-preserved : goal.loop-pin-preserved
loop-pin-preserved c =
    same-next-of (λ p. p.formal) c.items-pin-items.result.now c.loop-pin.book c.number.new.self c.pin-item.result c.bytes.result.now
    c.loop-pin.pin-index c.loop-pin.invariant c.loop-pin-test.true c.pin-item.is c.bytes.ensures c.in_ok-number.ensures.noted
