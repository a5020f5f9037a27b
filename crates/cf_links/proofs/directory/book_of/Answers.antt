use Rattle.cf_links.proofs.DirectoriesNames.{same-next}
use Rattle.cf_links.proofs.directory.book_of.Goals as goal

pub loop-name-preserved : goal.loop-name-preserved
loop-name-preserved c =
    same-next c.args.names.now c.loop-name.book c.number.new.self c.name-item.result c.bytes.result.now c.loop-name.name-index
    c.loop-name.invariant c.loop-name-test.true c.name-item.is c.bytes.ensures c.in_ok-number.ensures.noted
