use Rattle.std.proofs.Common.{◌∙◌, sym, ap, subst, List, [], ◌∷◌, ◌++◌, ℕ, nat_eq, get_or, take, arith}
use Rattle.std.proofs.lemmas.List.{take_more, take_all}
use Rattle.cf_model.specs.Renumbering.{IsCanon, rgs}
use Rattle.cf_model.proofs.CanonLaws.{canon_is}
use Rattle.cf_model.proofs.RenumberingLaws.{nat_decides}
use Rattle.cf_tuple.proofs.Entered.{canon_entered, found_so}
use Rattle.cf_tuple.proofs.lists.rgs_of_few.Goals as goal

pub loop-entry-preserved : goal.loop-entry-preserved
loop-entry-preserved c =
    let i = c.loop-entry.entry-index in
    let all = c.args.list.now in
    subst (λ (xs : List ℕ). IsCanon xs c.push.new.self.items c.enter.new.seen.items) (sym (take_more all i 0 c.loop-entry-test.true))
    (subst (λ (ps : List ℕ). IsCanon (take i all ++ get_or all i 0 ∷ []) ps c.enter.new.seen.items) (sym c.in_ok-push.ensures.items)
    (canon_entered _ _ _ _ (get_or all i 0) c.in_ok-rank.rank c.loop-entry.invariant c.in_ok-rank.ensures.keys (found_so c.enter.new.seen.items (get_or all i 0) c.in_ok-rank.rank c.in_ok-rank.ensures.stored)))

pub returns : goal.returns
returns c =
    let all = c.args.list.now in
    (canon_is nat_eq nat_decides _ _ _ c.loop-entry.invariant).0 ∙ ap (rgs nat_eq) (take_all c.loop-entry.entry-index all (omega (arith, c.loop-entry-test.false)))
