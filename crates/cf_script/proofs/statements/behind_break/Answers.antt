use Rattle.std.proofs.lemmas.List.{take_rest}
use Rattle.cf_script.proofs.WindowFacts.{narrow-before}
use Rattle.cf_script.proofs.statements.behind_break.Goals as goal

pub returns-in-Some-clause-narrow : goal.returns-in-Some-clause-narrow
returns-in-Some-clause-narrow c = rw take_rest (narrow-before c.args.text.now c.in-Some.end c.requires c.in-Some.ensures.within c.in-Some.ensures.ends)
