use Rattle.std.proofs.Common.{ap, arith, length}
use Rattle.cf_session.proofs.NameFacts.{count-zip}
use Rattle.cf_session.proofs.bindings.Bindings.len.Goals as goal

pub returns : goal.returns
returns c =
    let fs = c.self.inside.functions in
    let here = count-zip c.self.inside.names fs.items c.self.invariant.0 in
    let there = ap length c.self.view_is in
    omega (arith, c.len.ensures, fs.ok, here, there)
