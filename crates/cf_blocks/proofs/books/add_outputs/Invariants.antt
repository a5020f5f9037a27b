use Rattle.std.proofs.Common.{◌≡◌, drop, map}
use Rattle.std.specs.Str.{bytes_eq}
use Rattle.cf_model.specs.Renumbering.{distinct_on}
use Rattle.cf_blocks.proofs.books.add_outputs.Given as goal

abbrev pub invariant-loop-gate : goal.invariant-loop-gate
invariant-loop-gate l =
    distinct_on bytes_eq l.book (map (λ g. g.out) (drop l.gate-index l.gates))
    ≡ distinct_on bytes_eq l.initial.book (map (λ g. g.out) l.gates)
