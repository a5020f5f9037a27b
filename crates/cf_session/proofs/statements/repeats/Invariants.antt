use Rattle.std.specs.Prelude.{◌≡◌, take, false}
use Rattle.cf_reference.specs.States.{repeats}
use Rattle.cf_session.specs.Statements.{bytes_of}
use Rattle.cf_session.proofs.statements.repeats.Given as goal

abbrev pub invariant-loop-name : goal.invariant-loop-name
invariant-loop-name l =
    (l.seen ≡ take l.name-index (bytes_of l.names)) × (repeats (take l.name-index (bytes_of l.names)) ≡ false)
