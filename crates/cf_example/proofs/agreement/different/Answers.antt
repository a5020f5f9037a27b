use Rattle.std.specs.Prelude.{not}
use Rattle.cf_model.specs.Assignments.{bit_at}
use Rattle.cf_model.specs.Terms.{truth}
use Rattle.cf_model.specs.declared.terms.Word2.TheVariants.{Xor}
use Rattle.cf_pkg.proofs.Valued.{Keeps-trans}
use Rattle.cf_example.specs.Agreement.{is_same}
use Rattle.cf_example.proofs.Agreeing.{if_ok, xor_truths, has_kept, has_tabulated, has_two}
use Rattle.cf_example.proofs.agreement.different.Goals as goal

pub returns-clause-values : goal.returns-clause-values
returns-clause-values g c =
    let p = c.variable.new.self in
    let q = c.variable-2.new.self in
    let l = c.args.level in
    let i = c.args.pair.0 in
    let j = c.args.pair.1 in
    let first = has_kept p q c.in_ok-first.first l (λ bits. truth (bit_at bits i)) (has_tabulated p c.in_ok-first.first l (λ bits. truth (bit_at bits i)) c.in_ok-first.ensures.level c.in_ok-first.ensures.means) c.in_ok-second.ensures.kept in
    let second = has_tabulated q c.in_ok-second.second l (λ bits. truth (bit_at bits j)) c.in_ok-second.ensures.level c.in_ok-second.ensures.means in
    if_ok c.apply_word.result _ _ c.apply_word.ensures.outcome.answer
    (λ r s. has_two q c.apply_word.new.self Xor c.in_ok-first.first c.in_ok-second.second r l (λ bits. truth (bit_at bits i)) (λ bits. truth (bit_at bits j)) (λ bits. truth (not (is_same bits c.args.pair))) first second (λ bits. xor_truths (bit_at bits i) (bit_at bits j)) s.values)

pub returns-clause-kept : goal.returns-clause-kept
returns-clause-kept g c =
    Keeps-trans c.args.pkg.now c.variable-2.new.self c.apply_word.new.self (Keeps-trans c.args.pkg.now c.variable.new.self c.variable-2.new.self c.in_ok-first.ensures.kept c.in_ok-second.ensures.kept) c.apply_word.ensures.kept
