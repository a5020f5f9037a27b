use Rattle.std.proofs.Common.{◌≡◌, true, false, sym, ◌∙◌, subst}
use Rattle.cf_reference.specs.Words.{words}
use Rattle.cf_script.specs.Readings.{IsReading}
use Rattle.cf_script.proofs.StatementFacts.{let-good, let-wide, let-more}
use Rattle.cf_script.proofs.statements.read_let.Goals as goal

pub returns-then-not-has_ended : goal.returns-then-not-has_ended
returns-then-not-has_ended c =
    let-more c.args.text.now c.in-Some.name.now c.in-Ok.e (words c.args.text.now) (words c.in-Some.text.now) (words c.in-Ok.rest.now) c.in-Some.ensures.found c.in-Ok.ensures.found
    (λ is. let e : true ≡ false = sym (c.has_ended.ensures.1 is) ∙ c.if-not-has_ended.true in cc)

pub returns-then-has_wide_number : goal.returns-then-has_wide_number
returns-then-has_wide_number c =
    let-wide c.args.text.now c.in-Some.name.now c.in-Ok.e (words c.args.text.now) (words c.in-Some.text.now) c.in-Some.ensures.found
    (subst (IsReading c.in-Ok.e (words c.in-Some.text.now)) (c.has_ended.ensures.0 c.if-not-has_ended.false) c.in-Ok.ensures.found)
    (sym c.has_wide_number.ensures ∙ c.if-has_wide_number.true)

pub returns-else-has_wide_number : goal.returns-else-has_wide_number
returns-else-has_wide_number c =
    let-good c.args.text.now c.in-Some.name.now c.in-Ok.e (words c.args.text.now) (words c.in-Some.text.now) c.in-Some.ensures.found
    (subst (IsReading c.in-Ok.e (words c.in-Some.text.now)) (c.has_ended.ensures.0 c.if-not-has_ended.false) c.in-Ok.ensures.found)
    (sym c.has_wide_number.ensures ∙ c.if-has_wide_number.false)
