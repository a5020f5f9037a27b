use Rattle.std.proofs.Common.{◌≡◌, drop, get_or}
use Rattle.cf_circuits.specs.Links.{actuals, is_output, no_model}
use Rattle.cf_links.specs.Signals.{drive_all}
use Rattle.cf_links.proofs.signals.Driven.drive_call.Given as goal

abbrev pub invariant-loop-pin : goal.invariant-loop-pin
invariant-loop-pin l =
    drive_all l.self (actuals (is_output (get_or l.directory l.callee no_model)) (drop l.pin-index l.pins))
    ≡ drive_all l.fn.self (actuals (is_output (get_or l.directory l.callee no_model)) l.pins)
