use Rattle.std.proofs.Common.{◌≡◌, take}
use Rattle.cf_pair.specs.Triples.{triples_at}
use Rattle.cf_pair.proofs.middle_triples.TripleMiddles.triples.Given as goal

abbrev pub invariant-loop-number : goal.invariant-loop-number
invariant-loop-number l = l.triples.items ≡ take l.number (triples_at l.table l.self)
