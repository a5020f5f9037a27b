use Rattle.cf_script.proofs.expressions.word_argument.Goals as goal
use Rattle.cf_script.proofs.ReadingFacts.{is-natural, is-any-number, no-natural, no-number, no-expression, of-kind}
use Rattle.std.proofs.Common.{◌≡◌, None, sym, subst}
use Rattle.cf_reference.specs.declared.grammar.Kind.{Kind}
use Rattle.cf_reference.specs.Grammar.{atom_of}

pub returns-in-Expression-clause-none : goal.returns-in-Expression-clause-none
returns-in-Expression-clause-none c = subst (λ (k : Kind). atom_of k c.args.word.now ≡ None) (sym c.in-Expression.is) (no-expression c.args.word.now)

pub returns-in-Some-clause-found : goal.returns-in-Some-clause-found
returns-in-Some-clause-found c =
    of-kind c.args.kind _ _ c.args.word.now c.in-Natural.is
    (is-natural c.args.word.now c.in-Some.n c.unwrap_or.result c.in-Some.ensures c.unwrap_or.ensures)

pub returns-in-None-clause-none : goal.returns-in-None-clause-none
returns-in-None-clause-none c =
    subst (λ (k : Kind). atom_of k c.args.word.now ≡ None) (sym c.in-Natural.is) (no-natural c.args.word.now c.in-None.ensures)

pub returns-in-Some-number-clause-found : goal.returns-in-Some-number-clause-found
returns-in-Some-number-clause-found c =
    of-kind c.args.kind _ _ c.args.word.now c.in-Number.is
    (is-any-number c.args.word.now c.in-Some-number.n c.unwrap_or-in-Some-number.result c.in-Some-number.ensures c.unwrap_or-in-Some-number.ensures)

pub returns-in-None-number-clause-none : goal.returns-in-None-number-clause-none
returns-in-None-number-clause-none c =
    subst (λ (k : Kind). atom_of k c.args.word.now ≡ None) (sym c.in-Number.is) (no-number c.args.word.now c.in-None-number.ensures)
