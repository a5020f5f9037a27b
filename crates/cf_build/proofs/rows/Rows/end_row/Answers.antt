use Rattle.std.proofs.Common.{◌≡◌, length, refl, arith}
use Rattle.cf_build.proofs.Rowing.{row_more, places_row}
use Rattle.cf_build.proofs.rows.Rows.end_row.Goals as goal

pub invariant_of-self-2 : goal.invariant_of-self-2
invariant_of-self-2 g c =
    let long : c.len-end.result ≡ length c.self.inside.labels.items = omega (arith, c.len-end.ensures, c.self.inside.labels.ok) in
    places_row c.self.inside.rows.items c.push.new.self.items c.self.inside.start c.len-end.result _ _ c.self.invariant c.in_ok-push.ensures.ok refl refl long

pub returns-clause-ended : goal.returns-clause-ended
returns-clause-ended g c =
    let long : c.len-end.result ≡ length c.self.inside.labels.items = omega (arith, c.len-end.ensures, c.self.inside.labels.ok) in
    row_more c.self.inside.rows.items c.push.new.self.items c.self.inside.labels.items c.self.inside.start c.len-end.result _ c.args.self.now c.self.invariant c.self.view_is c.in_ok-push.ensures.ok refl refl long
