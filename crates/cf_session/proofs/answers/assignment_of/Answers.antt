use Rattle.std.proofs.Common.{sym, ap, ◌∙◌}
use Rattle.std.specs.Option.{option_map}
use Rattle.cf_model.specs.Assignments.{bits}
use Rattle.cf_session.proofs.AnswerFacts.{if-none, text-long}
use Rattle.cf_session.proofs.answers.assignment_of.Goals as goal

pub returns-in_err-at-clause-none : goal.returns-in_err-at-clause-none
returns-in_err-at-clause-none c =
    if-none c.from_residual.result (text-long c.args.text.now c.args.level c.requires.bits c.requires.level (ap (option_map bits) (sym c.in_err-at.was) ∙ c.from_text.ensures.spelled))
