use Rattle.std.proofs.Common.{◌∙◌, sym, ap, nat_eq, get_or, take}
use Rattle.std.proofs.lemmas.List.{take_more}
use Rattle.cf_model.specs.Renumbering.{distinct}
use Rattle.cf_tuple.proofs.Entered.{distinct_entered}
use Rattle.cf_tuple.proofs.lists.distinct_of_few.Goals as goal

pub loop-entry-preserved : goal.loop-entry-preserved
loop-entry-preserved c =
    let i = c.loop-entry.entry-index in
    let all = c.args.list.now in
    distinct_entered (take i all) _ _ (get_or all i 0) c.loop-entry.invariant c.in_ok-enter.ensures.keys
    ∙ ap (distinct nat_eq) (sym (take_more all i 0 c.loop-entry-test.true))
