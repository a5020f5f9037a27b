use Rattle.std.proofs.Common.{◌≡◌, [], drop, map}
use Rattle.std.specs.Str.{bytes_eq}
use Rattle.cf_model.specs.Renumbering.{distinct_on}
use Rattle.cf_blocks.proofs.calls.formals_of.Given as goal

abbrev pub invariant-loop-pin : goal.invariant-loop-pin
invariant-loop-pin l =
    distinct_on bytes_eq l.book (map (λ p. p.formal) (drop l.pin-index l.pins))
    ≡ distinct_on bytes_eq [] (map (λ p. p.formal) l.pins)
