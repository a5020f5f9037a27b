use Rattle.std.proofs.Common.{ap}
use Rattle.std.proofs.lemmas.Int.{to_z-of_z}
use mir.Syntax.{w128}
use Rattle.cf_session.specs.Sessions.{Held}
use Rattle.cf_session.proofs.Recalling.{seen, number_found}
use Rattle.cf_session.proofs.session.Session.recall_number.Goals as goal

pub returns : goal.returns
returns c =
    number_found c.args.self.now c.level_of_variables-level.result _ c.args.n c.known_const.result c.level_of_variables-level.ensures.level (to_z-of_z w128 c.args.n c.ranges.n)
    (seen _ _ (ap (λ (h : Held). h.pkg) c.self.view_is) _ _ c.known_const.ensures.found)
