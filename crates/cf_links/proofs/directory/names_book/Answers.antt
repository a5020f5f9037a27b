use Rattle.cf_links.proofs.DirectoriesNames.{book-next}
use Rattle.cf_links.proofs.directory.names_book.Goals as goal

pub loop-model-preserved : goal.loop-model-preserved
loop-model-preserved c =
    book-next c.args.models.now c.loop-model.book c.number.new.self c.model-item.result c.bytes.result.now c.loop-model.model-index
    c.requires c.loop-model.invariant c.model-item.is c.loop-model-test.true c.bytes.ensures c.in_ok-number.ensures.noted
