use Rattle.std.proofs.Common.{sym, ◌∙◌, refl}
use Rattle.cf_reference.specs.Trees.{Named}
use Rattle.cf_script.proofs.ReadingFacts.{is-number, is-place, leaf-named, no-leaf}
use Rattle.cf_script.proofs.expressions.leaf.Goals as goal

pub returns-in-Some-clause-found : goal.returns-in-Some-clause-found
returns-in-Some-clause-found c = is-place c.args.word.now c.in-Some.position c.unwrap_or.result c.in-Some.ensures c.unwrap_or.ensures

pub returns-in-Some-number-clause-found : goal.returns-in-Some-number-clause-found
returns-in-Some-number-clause-found c =
    is-number c.args.word.now c.in-Some-number.value c.unwrap_or-in-Some-number.result c.in-Some-number.ensures c.unwrap_or-in-Some-number.ensures

pub returns-then-is_name-clause-found : goal.returns-then-is_name-clause-found
returns-then-is_name-clause-found c = record {
  tree = Named c.args.word.now;
  spells = leaf-named c.args.word.now c.in_default-number.ensures c.in_default.ensures (sym c.is_name.ensures ∙ c.if-is_name.true);
  shows = λ fit. refl;
}

pub returns-else-is_name-clause-none : goal.returns-else-is_name-clause-none
returns-else-is_name-clause-none c = no-leaf c.args.word.now c.in_default-number.ensures c.in_default.ensures (sym c.is_name.ensures ∙ c.if-is_name.false)
