use Rattle.std.proofs.Common.{rules}
use Rattle.cf_script.proofs.NumberFacts.{natural-few, natural-not, natural-empty}
use Rattle.cf_script.proofs.numbers.natural.Goals as goal

pub returns-then-is_empty : goal.returns-then-is_empty
returns-then-is_empty c = natural-empty c.args.word.now (search rules)

pub returns-in-Some : goal.returns-in-Some
returns-in-Some c =
    natural-few c.args.word.now c.in-Some.value c.from.result (search rules) (search rules) c.in-Some.ensures.digits c.in-Some.ensures.value (search rules)

pub returns-in-None : goal.returns-in-None
returns-in-None c = natural-not c.args.word.now c.in-None.ensures.none
