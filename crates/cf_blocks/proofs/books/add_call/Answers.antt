use Rattle.std.proofs.Common.{sym, ap}
use Rattle.std.specs.Str.{bytes_eq}
use Rattle.cf_model.specs.Renumbering.{distinct_on}
use Rattle.cf_links.proofs.SignalLaws.{no-driven}
use Rattle.cf_blocks.proofs.books.add_call.Goals as goal

pub returns-in_default : goal.returns-in_default
returns-in_default c =
    sym (ap (distinct_on bytes_eq c.args.book.now)
    (no-driven c.args.directory.now c.args.call.now c.callee.result c.callee.ensures.model c.in_default.not-Some))
