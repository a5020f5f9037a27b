use Rattle.std.proofs.lemmas.Int.{to_z-of_z}
use mir.Syntax.{w128}
use Rattle.cf_session.specs.Sessions.{state_of}
use Rattle.cf_session.proofs.Leaves.{number_made}
use Rattle.cf_session.proofs.Kept.{number_kept, number_again}
use Rattle.cf_session.proofs.session.Session.number.Goals as goal

pub returns-clause-built : goal.returns-clause-built
returns-clause-built c =
    number_made c.constant.result (state_of c.args.self.now) c.level_of_variables-level.result _ c.args.n c.constant.new.self.pkg c.level_of_variables-level.ensures.level (to_z-of_z w128 c.args.n c.ranges.n)
    c.constant.ensures.means c.constant.ensures.flat

pub returns-clause-kept : goal.returns-clause-kept
returns-clause-kept c =
    number_kept c.constant.result c.args.self.now c.constant.new.self c.level_of_variables-level.result _ c.args.n c.constant.ensures.grows c.level_of_variables-level.ensures.level (to_z-of_z w128 c.args.n c.ranges.n)
    c.constant.ensures.kept

pub returns-clause-again : goal.returns-clause-again
returns-clause-again c =
    number_again c.constant.result c.args.self.now c.constant.new.self c.level_of_variables-level.result _ c.args.n c.constant.ensures.grows c.level_of_variables-level.ensures.level (to_z-of_z w128 c.args.n c.ranges.n)
    c.constant.ensures.again
