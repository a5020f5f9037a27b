use Rattle.std.proofs.Common.{sym}
use Rattle.std.proofs.lemmas.List.{take_rest}
use Rattle.cf_script.proofs.WordFacts.{visible-from, visible-none}
use Rattle.cf_script.proofs.words.from_visible.Goals as goal

pub returns-in-Some-clause-same : goal.returns-in-Some-clause-same
returns-in-Some-clause-same c = rw take_rest (visible-from c.args.text.now c.in-Some.start (sym c.in-Some.ensures.place)).same

pub returns-in-Some-clause-begins : goal.returns-in-Some-clause-begins
returns-in-Some-clause-begins c = rw take_rest (visible-from c.args.text.now c.in-Some.start (sym c.in-Some.ensures.place)).begins

pub returns-in-Some-clause-behind : goal.returns-in-Some-clause-behind
returns-in-Some-clause-behind c = rw take_rest (visible-from c.args.text.now c.in-Some.start (sym c.in-Some.ensures.place)).behind

pub returns-in-None-clause-none : goal.returns-in-None-clause-none
returns-in-None-clause-none c = visible-none c.args.text.now (sym c.in-None.ensures.place)
