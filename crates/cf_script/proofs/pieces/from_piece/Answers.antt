use Rattle.std.proofs.Common.{sym}
use Rattle.std.proofs.lemmas.List.{take_rest}
use Rattle.cf_script.proofs.PieceFacts.{pieces-from, pieces-none}
use Rattle.cf_script.proofs.WordFacts.{visible-from}
use Rattle.cf_script.proofs.pieces.from_piece.Goals as goal

pub returns-in-Some-clause-same : goal.returns-in-Some-clause-same
returns-in-Some-clause-same c = rw take_rest (pieces-from c.args.text.now c.in-Some.start (sym c.in-Some.ensures.place))

pub returns-in-Some-clause-begins : goal.returns-in-Some-clause-begins
returns-in-Some-clause-begins c = rw take_rest (visible-from c.args.text.now c.in-Some.start (sym c.in-Some.ensures.place)).begins

pub returns-in-None-clause-none : goal.returns-in-None-clause-none
returns-in-None-clause-none c = pieces-none c.args.text.now (sym c.in-None.ensures.place)
