use Rattle.std.proofs.Common.{ℤ, ◌^◌, sym, ap, ◌∙◌}
use Rattle.std.specs.Int.{w128}
use Rattle.std.proofs.lemmas.Int.{to_z-of_z}
use Rattle.cf_reference.specs.States.{is_below}
use Rattle.cf_session.specs.Sessions.{state_of}
use Rattle.cf_session.proofs.WalkFacts.{at-level, at-refused}
use Rattle.cf_session.proofs.session.Session.walk_at.Goals as goal

pub returns-then-is_below-clause-level : goal.returns-then-is_below-clause-level
returns-then-is_below-clause-level c =
    at-level (state_of c.args.self.now) c.args.i c.level_of_variables-level.result
    (ap (λ k. is_below c.args.i (2 ^ k)) (sym c.level_of_variables-level.ensures.level) ∙ ap (is_below c.args.i) (sym c.variables.ensures) ∙ ap (λ (z : ℤ). is_below z c.variables.result) (sym (to_z-of_z w128 c.args.i c.ranges.i)) ∙ sym c.is_below.ensures ∙ c.if-is_below.true)
    c.level_of_variables-level.ensures.level

pub returns-else-is_below-clause-refused : goal.returns-else-is_below-clause-refused
returns-else-is_below-clause-refused c =
    at-refused (state_of c.args.self.now) c.args.i
    (ap (λ k. is_below c.args.i (2 ^ k)) (sym c.level_of_variables-level.ensures.level) ∙ ap (is_below c.args.i) (sym c.variables.ensures) ∙ ap (λ (z : ℤ). is_below z c.variables.result) (sym (to_z-of_z w128 c.args.i c.ranges.i)) ∙ sym c.is_below.ensures ∙ c.if-is_below.false)
