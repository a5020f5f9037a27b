use Rattle.std.specs.List.{list_all}
use Rattle.cf_model.specs.declared.terms.Word1.TheVariants.{Not}
use Rattle.cf_example.specs.Agreement.{is_same, all_same, some_differ}
use Rattle.cf_example.proofs.Agreeing.{if_ok, not_truth, has_one}
use Rattle.cf_example.proofs.agreement.agrees_by_differences.Goals as goal

pub returns-clause-values : goal.returns-clause-values
returns-clause-values g c =
    let pairs = c.args.pairs.now in
    let q = c.differs.new.pkg in
    if_ok c.map_word.result _ _ c.map_word.ensures.outcome.answer
    (λ r s. has_one q c.map_word.new.self Not c.in_ok-any.any r c.args.level (some_differ pairs) (all_same pairs) c.in_ok-any.ensures.values (λ bits. not_truth (list_all (is_same bits) pairs)) s.values)
