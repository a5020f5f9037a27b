use Rattle.std.proofs.Common.{◌≡◌, take}
use Rattle.cf_session.specs.Values.{places_of}
use Rattle.cf_session.proofs.values.positions.Given as goal

abbrev pub invariant-loop-var : goal.invariant-loop-var
invariant-loop-var l = l.places.items ≡ places_of (take l.var-index l.vars)
