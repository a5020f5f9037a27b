use Rattle.std.proofs.Common.{◌≡◌, length}
use Rattle.cf_circuits.specs.Links.{drives, driven, gathered}
use Rattle.cf_links.specs.Signals.{nothing, drive_all}
use Rattle.cf_links.proofs.signals.signals_driven.Given as goal

abbrev pub invariant-loop-part : goal.invariant-loop-part
invariant-loop-part l =
    drive_all l.driven (gathered (drives l.directory) l.parts) ≡ drive_all nothing (driven l.directory l.model)

abbrev pub decreases-loop-part : goal.decreases-loop-part
decreases-loop-part l = length l.parts
