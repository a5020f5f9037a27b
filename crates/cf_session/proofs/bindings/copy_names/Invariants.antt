use Rattle.std.specs.Prelude.{◌≡◌, take}
use Rattle.cf_session.proofs.bindings.copy_names.Given as goal

abbrev pub invariant-loop-n : goal.invariant-loop-n
invariant-loop-n l = l.copy ≡ take l.n l.names
