use Rattle.std.proofs.Common.{ℤ, ◌≡◌, [], sym, ap, subst, ◌∙◌, Some}
use Rattle.std.specs.Prelude.{is_some, nat_abs}
use Rattle.std.specs.Int.{w128}
use Rattle.std.proofs.lemmas.Int.{to_z-of_z}
use mir.Val.{to_z, of_z}
use Rattle.cf_reference.specs.States.{is_below}
use Rattle.cf_reference.specs.Carrying.{Goes, set_level}
use Rattle.cf_session.specs.Sessions.{state_of}
use Rattle.cf_session.proofs.StatementFacts.{level-again, level-bad, level-goes}
use Rattle.cf_session.proofs.session.Session.set_level.Goals as goal

pub returns-then-is_some-clause-refused : goal.returns-then-is_some-clause-refused
returns-then-is_some-clause-refused c =
    level-again c.args.self.now c.args.k (ap (λ h. is_some h.level) (sym c.self.view_is) ∙ sym c.is_some.ensures ∙ c.if-is_some.true)

pub returns-then-not-is_below-clause-refused : goal.returns-then-not-is_below-clause-refused
returns-then-not-is_below-clause-refused c =
    level-bad c.args.self.now c.args.k (ap (λ h. is_some h.level) (sym c.self.view_is) ∙ sym c.is_some.ensures ∙ c.if-is_some.false)
    (ap (λ (z : ℤ). is_below z 8) (sym (to_z-of_z w128 c.args.k c.ranges.k)) ∙ sym c.is_below.ensures ∙ c.if-not-is_below.true)

pub returns-clause-goes : goal.returns-clause-goes
returns-clause-goes c =
    let l = nat_abs (to_z w128 (of_z w128 c.args.k)) in
    let now = state_of (record { pkg = c.self.inside.pkg; level = Some l; variables = c.self.inside.variables; functions = c.self.inside.functions }) in
    subst (λ h. set_level (state_of h) c.args.k ≡ Goes now []) c.self.view_is
    (level-goes (record { pkg = c.self.inside.pkg; level = c.self.inside.level; variables = c.self.inside.variables; functions = c.self.inside.functions }) c.args.k l (sym c.is_some.ensures ∙ c.if-is_some.false) (ap (λ (z : ℤ). is_below z 8) (sym (to_z-of_z w128 c.args.k c.ranges.k)) ∙ sym c.is_below.ensures ∙ c.if-not-is_below.false) (ap nat_abs (sym (to_z-of_z w128 c.args.k c.ranges.k))))
