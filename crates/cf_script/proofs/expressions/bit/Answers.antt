use Rattle.std.proofs.Common.{refl, sym, ap, ◌∙◌}
use Rattle.std.specs.Str.{bytes_eq}
use Rattle.cf_script.proofs.ReadingFacts.{is-zero-bit, is-one-bit, no-bit}
use Rattle.cf_script.proofs.expressions.bit.Goals as goal

pub returns-then-eq-clause-found : goal.returns-then-eq-clause-found
returns-then-eq-clause-found c =
    is-zero-bit c.args.word.now _ (sym (c.eq.ensures ∙ ap (bytes_eq c.args.word.now) c.as_slice.ensures) ∙ c.if-eq.true) refl

pub returns-then-eq-2-clause-found : goal.returns-then-eq-2-clause-found
returns-then-eq-2-clause-found c =
    is-one-bit c.args.word.now _ (sym (c.eq.ensures ∙ ap (bytes_eq c.args.word.now) c.as_slice.ensures) ∙ c.if-eq.false)
    (sym (c.eq-else-eq.ensures ∙ ap (bytes_eq c.args.word.now) c.as_slice-else-eq.ensures) ∙ c.if-eq-2.true) refl

pub returns-else-eq-2-clause-none : goal.returns-else-eq-2-clause-none
returns-else-eq-2-clause-none c =
    no-bit c.args.word.now (sym (c.eq.ensures ∙ ap (bytes_eq c.args.word.now) c.as_slice.ensures) ∙ c.if-eq.false)
    (sym (c.eq-else-eq.ensures ∙ ap (bytes_eq c.args.word.now) c.as_slice-else-eq.ensures) ∙ c.if-eq-2.false)
