use Rattle.std.proofs.Common.{take}
use Rattle.cf_links.specs.Directories.{HaveSame}
use Rattle.cf_links.proofs.directory.book_of.Given as goal

abbrev pub invariant-loop-name : goal.invariant-loop-name
invariant-loop-name l = HaveSame l.book (take l.name-index l.names)
