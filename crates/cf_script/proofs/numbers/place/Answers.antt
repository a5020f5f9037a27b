use Rattle.std.proofs.Common.{sym, ◌∙◌, ap}
use Rattle.std.specs.Option.{option_map}
use Rattle.cf_model.specs.Values.{fitting}
use Rattle.cf_script.proofs.NumberFacts.{place-at, place-other}
use Rattle.cf_script.proofs.numbers.place.Goals as goal

pub returns-in-Some : goal.returns-in-Some
returns-in-Some c = c.natural.ensures ∙ ap (option_map fitting) (sym (place-at c.args.word.now c.in-Some.digits.now c.in-Some.ensures.found))

pub returns-in-None : goal.returns-in-None
returns-in-None c = ap (option_map fitting) (sym (place-other c.args.word.now c.in-None.ensures.none))
