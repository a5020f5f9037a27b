use Rattle.std.proofs.Common.{◌≡◌, drop}
use Rattle.std.specs.Str.{bytes_eq}
use Rattle.cf_model.specs.Renumbering.{distinct_on}
use Rattle.cf_blocks.proofs.books.add_names.Given as goal

abbrev pub invariant-loop-name : goal.invariant-loop-name
invariant-loop-name l = distinct_on bytes_eq l.book (drop l.name-index l.names) ≡ distinct_on bytes_eq l.initial.book l.names
