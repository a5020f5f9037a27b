use Rattle.std.specs.Prelude.{take}
use Rattle.cf_session.specs.Statements.{bytes_of}
use Rattle.cf_session.proofs.StatementFacts.{HasAdded}
use Rattle.cf_session.proofs.statements.add_variables.Given as goal

abbrev pub invariant-loop-name : goal.invariant-loop-name
invariant-loop-name l =
    HasAdded l.initial.pkg l.pkg l.level l.initial.bound l.bound (take l.name-index (bytes_of l.names))
