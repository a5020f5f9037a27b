use Rattle.std.proofs.Common.{refl, sym, ◌∙◌}
use Rattle.cf_reference.specs.Trees.{Variable}
use Rattle.cf_script.proofs.ReadingFacts.{is-position, variable-named, no-variable}
use Rattle.cf_script.proofs.expressions.variable.Goals as goal

pub returns-in-Some-clause-found : goal.returns-in-Some-clause-found
returns-in-Some-clause-found c = is-position c.args.word.now c.in-Some.position c.unwrap_or.result c.in-Some.ensures c.unwrap_or.ensures

pub returns-then-is_name-clause-found : goal.returns-then-is_name-clause-found
returns-then-is_name-clause-found c = record {
  spelled = Variable c.args.word.now;
  spells = variable-named c.args.word.now c.in_default.ensures (sym c.is_name.ensures ∙ c.if-is_name.true);
  kinds = tt;
  shows = λ fit. refl;
}

pub returns-else-is_name-clause-none : goal.returns-else-is_name-clause-none
returns-else-is_name-clause-none c = no-variable c.args.word.now c.in_default.ensures (sym c.is_name.ensures ∙ c.if-is_name.false)
