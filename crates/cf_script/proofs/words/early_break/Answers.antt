use Rattle.std.proofs.Common.{arith, sym}
use Rattle.std.proofs.lemmas.List.{length-take-le}
use Rattle.cf_script.proofs.WordFacts.{early-within, early-ends}
use Rattle.cf_script.proofs.words.early_break.Goals as goal

pub slice_bounds-last_break-end : goal.slice_bounds-last_break-end
slice_bounds-last_break-end c = sym (length-take-le 38 c.args.text.now (omega (arith, c.requires)))

pub returns-clause-within : goal.returns-clause-within
returns-clause-within c = early-within c.last_break.result 38 c.args.text.now c.last_break.ensures.within

pub returns-clause-ends : goal.returns-clause-ends
returns-clause-ends c = early-ends c.last_break.result 38 c.args.text.now c.last_break.ensures.within c.last_break.ensures.ends
