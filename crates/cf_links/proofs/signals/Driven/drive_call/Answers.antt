use Rattle.std.proofs.Common.{sym, ap}
use Rattle.cf_links.specs.Signals.{drive_all}
use Rattle.cf_links.proofs.SignalLaws.{no-driven}
use Rattle.cf_links.proofs.signals.Driven.drive_call.Goals as goal

pub returns-in_default : goal.returns-in_default
returns-in_default c =
    sym (ap (drive_all c.args.self.now)
    (no-driven c.args.directory.now c.args.call.now c.callee.result c.callee.ensures.model c.in_default.not-Some))
