use Rattle.std.proofs.Common.{ap, ◌∙◌}
use Rattle.std.specs.Prelude.{nat_abs}
use Rattle.std.proofs.lemmas.Int.{to_z-of_z}
use mir.Syntax.{w128}
use Rattle.cf_session.specs.Sessions.{Held}
use Rattle.cf_session.proofs.Recalling.{seen, constant_found}
use Rattle.cf_session.proofs.session.Session.recall_constant.Goals as goal

pub returns : goal.returns
returns c =
    constant_found c.args.self.now c.unsigned_abs.result c.args.level _ c.args.n c.known_const.result
    (c.unsigned_abs.ensures.value ∙ ap nat_abs (to_z-of_z w128 c.args.level c.ranges.level)) (to_z-of_z w128 c.args.n c.ranges.n) (seen _ _ (ap (λ (h : Held). h.pkg) c.self.view_is) _ _ c.known_const.ensures.found)
