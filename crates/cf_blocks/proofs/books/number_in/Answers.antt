use Rattle.std.proofs.Common.{sym, ◌∙◌}
use Rattle.cf_blocks.proofs.BookLaws.{missing-number}
use Rattle.cf_blocks.proofs.books.number_in.Goals as goal

pub returns-in-None : goal.returns-in-None
returns-in-None c =
    missing-number c.args.book.now c.args.name.now c.len.result c.len.ensures (sym c.in-None.is ∙ c.find.ensures.number)
