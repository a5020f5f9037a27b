use Rattle.std.proofs.Common.{◌≡◌, drop, get_or}
use Rattle.cf_circuits.specs.Links.{actuals, is_input, no_model}
use Rattle.cf_links.specs.Directories.{first_lacking}
use Rattle.cf_links.proofs.signals.unknown_to_call.Given as goal

abbrev pub invariant-loop-pin : goal.invariant-loop-pin
invariant-loop-pin l =
    first_lacking l.known (actuals (is_input (get_or l.directory l.callee no_model)) (drop l.pin-index l.pins))
    ≡ first_lacking l.known (actuals (is_input (get_or l.directory l.callee no_model)) l.pins)
