use Rattle.std.proofs.Common.{ap, ◌∙◌}
use Rattle.std.specs.Prelude.{nat_abs}
use Rattle.std.proofs.lemmas.Int.{to_z-of_z}
use mir.Syntax.{w128}
use Rattle.cf_session.specs.Sessions.{Held}
use Rattle.cf_session.proofs.Recalling.{seen, bit_found}
use Rattle.cf_session.proofs.session.Session.recall_bit.Goals as goal

pub returns : goal.returns
returns c =
    bit_found c.args.self.now c.level_of_variables-level.result c.unsigned_abs.result c.args.position c.known_var.result c.level_of_variables-level.ensures.level
    (c.unsigned_abs.ensures.value ∙ ap nat_abs (to_z-of_z w128 c.args.position c.ranges.position)) (seen _ _ (ap (λ (h : Held). h.pkg) c.self.view_is) _ _ c.known_var.ensures.found)
