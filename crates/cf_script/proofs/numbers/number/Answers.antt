use Rattle.std.proofs.Common.{sym, ◌∙◌, ap, Some}
use Rattle.std.specs.Option.{option_map}
use Rattle.cf_model.specs.Values.{fitting}
use Rattle.cf_script.proofs.NumberFacts.{number-negative, number-bare, number-plain}
use Rattle.cf_script.proofs.numbers.number.Goals as goal

pub returns-then-is_natural : goal.returns-then-is_natural
returns-then-is_natural c =
    ap Some c.negative.ensures ∙ sym (number-negative c.args.word.now c.in-Some.digits.now c.in-Some.ensures.found (sym c.is_natural.ensures ∙ c.if-is_natural.true))

pub returns-else-is_natural : goal.returns-else-is_natural
returns-else-is_natural c = sym (number-bare c.args.word.now c.in-Some.digits.now c.in-Some.ensures.found (sym c.is_natural.ensures ∙ c.if-is_natural.false))

pub returns-in-None : goal.returns-in-None
returns-in-None c = c.natural.ensures ∙ ap (option_map fitting) (sym (number-plain c.args.word.now c.in-None.ensures.none))
