use Rattle.std.proofs.Common.{ap, ◌∙◌, arith}
use Rattle.std.specs.Prelude.{nat_abs}
use Rattle.std.proofs.lemmas.Int.{to_z-of_z}
use mir.Syntax.{w128}
use Rattle.cf_session.specs.Sessions.{state_of}
use Rattle.cf_session.proofs.Leaves.{bit_made}
use Rattle.cf_session.proofs.Walked.{position_within, within_byte}
use Rattle.cf_session.proofs.Kept.{bit_kept, bit_again}
use Rattle.cf_session.proofs.session.Session.bit.Goals as goal

pub overflow_cast-unsigned_abs : goal.overflow_cast-unsigned_abs
overflow_cast-unsigned_abs c =
    let within = position_within (state_of c.args.self.now) c.args.position c.unsigned_abs.result c.level_of_variables-level.result (c.unsigned_abs.ensures.value ∙ ap nat_abs (to_z-of_z w128 c.args.position c.ranges.position))
    c.level_of_variables-level.ensures.level c.requires.walked in
    omega (arith, within_byte c.unsigned_abs.result c.level_of_variables-level.result c.level_of_variables-level.ensures.low within)

pub variable-requires-clause-variable : goal.variable-requires-clause-variable
variable-requires-clause-variable c =
    position_within (state_of c.args.self.now) c.args.position c.unsigned_abs.result c.level_of_variables-level.result (c.unsigned_abs.ensures.value ∙ ap nat_abs (to_z-of_z w128 c.args.position c.ranges.position))
    c.level_of_variables-level.ensures.level c.requires.walked

pub returns-clause-built : goal.returns-clause-built
returns-clause-built c =
    bit_made c.variable.result (state_of c.args.self.now) c.level_of_variables-level.result c.unsigned_abs.result c.args.position c.variable.new.self.pkg
    c.level_of_variables-level.ensures.level (c.unsigned_abs.ensures.value ∙ ap nat_abs (to_z-of_z w128 c.args.position c.ranges.position))
    c.variable.ensures.means c.variable.ensures.flat

pub returns-clause-kept : goal.returns-clause-kept
returns-clause-kept c =
    bit_kept c.variable.result c.args.self.now c.variable.new.self c.level_of_variables-level.result c.unsigned_abs.result c.args.position c.variable.ensures.grows
    c.level_of_variables-level.ensures.level (c.unsigned_abs.ensures.value ∙ ap nat_abs (to_z-of_z w128 c.args.position c.ranges.position))
    c.variable.ensures.kept

pub returns-clause-again : goal.returns-clause-again
returns-clause-again c =
    bit_again c.variable.result c.args.self.now c.variable.new.self c.level_of_variables-level.result c.unsigned_abs.result c.args.position c.variable.ensures.grows
    c.level_of_variables-level.ensures.level (c.unsigned_abs.ensures.value ∙ ap nat_abs (to_z-of_z w128 c.args.position c.ranges.position))
    c.variable.ensures.again
