use Rattle.std.proofs.Common.{sym, ◌∙◌}
use Rattle.cf_script.proofs.NumberFacts.{natural-other, natural-some, natural-wide}
use Rattle.cf_script.proofs.numbers.long_natural.Goals as goal

pub returns-then-not-is_natural : goal.returns-then-not-is_natural
returns-then-not-is_natural c = sym (natural-other c.args.word.now (sym c.is_natural.ensures ∙ c.if-not-is_natural.true))

pub returns-in-Some : goal.returns-in-Some
returns-in-Some c =
    natural-some c.args.word.now c.in-Some.value c.opposite.result (sym c.is_natural.ensures ∙ c.if-not-is_natural.false) (sym c.in-Some.ensures) c.opposite.ensures

pub returns-in-None : goal.returns-in-None
returns-in-None c = sym (natural-wide c.args.word.now (sym c.is_natural.ensures ∙ c.if-not-is_natural.false) (sym c.in-None.ensures))
