use Rattle.std.proofs.Common.{◌≡◌, drop}
use Rattle.cf_links.specs.Signals.{drive_all}
use Rattle.cf_links.proofs.signals.Driven.drive_all.Given as goal

abbrev pub invariant-loop-name : goal.invariant-loop-name
invariant-loop-name l = drive_all l.self (drop l.name-index l.names) ≡ drive_all l.fn.self l.names
