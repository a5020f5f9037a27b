use Rattle.std.proofs.Common.{◌≡◌, drop, get_or}
use Rattle.std.specs.Str.{bytes_eq}
use Rattle.cf_model.specs.Renumbering.{distinct_on}
use Rattle.cf_circuits.specs.Links.{actuals, is_output, no_model}
use Rattle.cf_blocks.proofs.books.add_call.Given as goal

abbrev pub invariant-loop-pin : goal.invariant-loop-pin
invariant-loop-pin l =
    distinct_on bytes_eq l.book (actuals (is_output (get_or l.directory l.callee no_model)) (drop l.pin-index l.pins))
    ≡ distinct_on bytes_eq l.initial.book (actuals (is_output (get_or l.directory l.callee no_model)) l.pins)
