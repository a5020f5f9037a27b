use Rattle.std.proofs.Common.{sym, ap}
use Rattle.cf_links.specs.Directories.{first_lacking}
use Rattle.cf_links.proofs.SignalLaws.{no-used}
use Rattle.cf_links.proofs.signals.unknown_to_call.Goals as goal

pub returns-in_default : goal.returns-in_default
returns-in_default c =
    sym (ap (first_lacking c.args.known.now)
    (no-used c.args.directory.now c.args.call.now c.callee.result c.callee.ensures.model c.in_default.not-Some))
