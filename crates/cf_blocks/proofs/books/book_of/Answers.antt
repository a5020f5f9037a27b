use Rattle.cf_blocks.proofs.BookLaws.{all-added}
use Rattle.cf_blocks.proofs.books.book_of.Goals as goal

pub returns : goal.returns
returns c =
    all-added c.args.directory.now c.args.model.now c.new-book.result c.add_names.new.book c.add_outputs.new.book c.add_calls.new.book
    c.items.result.now c.items-2.result.now c.items-3.result.now c.requires c.new-book.ensures c.items.ensures c.items-2.ensures c.items-3.ensures
    c.in_ok-add_names.ensures c.in_ok-add_outputs.ensures c.in_ok-add_calls.ensures
