use Rattle.std.proofs.Common.{ℕ, ◌<◌}
use Rattle.cf_model.specs.Renumbering.{IsNew}
use Rattle.cf_model.specs.Diagrams.{connection_at}
use Rattle.cf_table.specs.Groupings.{node_of}
use Rattle.cf_table.proofs.Table.first_return.Given as goal

abbrev pub invariant-loop-j : goal.invariant-loop-j
invariant-loop-j l = (k : ℕ) → k < l.j → IsNew (connection_at (node_of l.self l.fn.g).connections k).returns l.e
