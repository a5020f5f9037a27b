use Rattle.std.proofs.Common.{◌≡◌, drop}
use Rattle.std.specs.Str.{bytes_eq}
use Rattle.cf_model.specs.Renumbering.{distinct_on}
use Rattle.cf_circuits.specs.Links.{actuals, callee, gathered, is_output}
use Rattle.cf_blocks.proofs.books.add_calls.Given as goal

abbrev pub invariant-loop-call : goal.invariant-loop-call
invariant-loop-call l =
    distinct_on bytes_eq l.book (gathered (λ c. actuals (is_output (callee l.directory c)) c.pins) (drop l.call-index l.calls))
    ≡ distinct_on bytes_eq l.initial.book (gathered (λ c. actuals (is_output (callee l.directory c)) c.pins) l.calls)
