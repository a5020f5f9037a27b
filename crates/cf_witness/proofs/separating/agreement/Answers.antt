use Rattle.std.proofs.Common.{Err, ap, ◌∙◌, subst}
use Rattle.cf_model.specs.Assignments.{bits}
use Rattle.cf_model.specs.declared.terms.Term.{Term}
use Rattle.cf_pkg.specs.Jobs.{HasValues, IsLeastWithout, apply_value}
use Rattle.cf_witness.proofs.Agreement.{never_without, zero_there}
use Rattle.cf_witness.proofs.separating.agreement.Goals as goal

pub returns-in-Ok-clause-zeros : goal.returns-in-Ok-clause-zeros
returns-in-Ok-clause-zeros g c at assigns =
    let p = c.args.pkg.now in
    let q = c.apply.new.self in
    let f = c.args.f in
    let r = c.in-Ok.function in
    zero_there p q f c.args.g r c.law.ensures.good c.requires.level
    (subst (λ (t : Term). HasValues q r f.head.level (apply_value p t f c.args.g)) (c.new-op.ensures.tree ∙ c.in_ok-tree.ensures) c.in-Ok.ensures.outcome.answer.values) at assigns

pub returns-in-Ok-clause-owned : goal.returns-in-Ok-clause-owned
returns-in-Ok-clause-owned g c = c.in-Ok.ensures.outcome.answer.values.owned

pub returns-in-Ok-clause-level : goal.returns-in-Ok-clause-level
returns-in-Ok-clause-level g c = c.in-Ok.ensures.outcome.answer.values.level

pub unreachable-requires : goal.unreachable-requires
unreachable-requires g c =
    let p = c.args.pkg.now in
    let f = c.args.f in
    let at = c.in-Err-Overflow.field-0-0 in
    never_without p f c.args.g f.head.level (bits at)
    (subst (λ (t : Term). IsLeastWithout f.head.level (apply_value p t f c.args.g) (bits at)) (c.new-op.ensures.tree ∙ c.in_ok-tree.ensures)
    (c.in-Err-Overflow.ensures.outcome.overflow at (ap Err c.in-Err-Overflow.field-0-is)))
