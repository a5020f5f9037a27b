use Rattle.std.specs.Str.{bytes_eq}
use Rattle.cf_model.specs.Renumbering.{place}
use Rattle.cf_session.specs.Sessions.{names_of}
use Rattle.cf_session.proofs.OutputFacts.{HasPlaced}
use Rattle.cf_session.proofs.load.positions_of.Given as goal

abbrev pub invariant-loop-name : goal.invariant-loop-name
invariant-loop-name l = HasPlaced (place bytes_eq (names_of l.variables)) l.names l.positions.items l.name-index
