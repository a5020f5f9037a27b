use Rattle.std.specs.Prelude.{◌≡◌, take, false}
use Rattle.std.specs.List.{list_any}
use Rattle.cf_reference.specs.States.{is_bound}
use Rattle.cf_session.specs.Sessions.{state_of}
use Rattle.cf_session.specs.Statements.{bytes_of}
use Rattle.cf_session.proofs.session.Session.is_any_bound.Given as goal

abbrev pub invariant-loop-name : goal.invariant-loop-name
invariant-loop-name l = list_any (is_bound (state_of l.self)) (take l.name-index (bytes_of l.names)) ≡ false
