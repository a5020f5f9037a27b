use Rattle.std.proofs.Common.{◌∙◌, List, nat_eq, get_or, refl, sym, subst, arith}
use Rattle.std.proofs.lemmas.Bool.{false≢true}
use Rattle.std.proofs.lemmas.List.{take_all}
use Rattle.std.proofs.lemmas.Option.{slice_get-get_or}
use Rattle.cf_model.specs.Renumbering.{AllDiffer}
use Rattle.cf_model.proofs.RenumberingLaws.{nat_decides}
use Rattle.cf_table.proofs.Differ.{repeated, differ_more}
use Rattle.cf_table.proofs.goodness.entries_differ.Goals as goal

pub returns-then-contains : goal.returns-then-contains
returns-then-contains c =
    let all = c.args.list.now in
    (λ h. absurd (false≢true h), λ d. absurd (repeated nat_eq nat_decides all c.loop-i.i (get_or all c.loop-i.i 0) (slice_get-get_or all c.loop-i.i 0 c.loop-i-test.true) (sym c.contains.ensures.value ∙ c.if-contains.true) d))

pub loop-i-preserved : goal.loop-i-preserved
loop-i-preserved c =
    let all = c.args.list.now in
    differ_more nat_eq nat_decides all c.loop-i.i 0 c.loop-i-test.true (sym c.contains.ensures.value ∙ c.if-contains.false) c.loop-i.invariant

pub returns : goal.returns
returns c = (λ h. subst (λ (xs : List _). AllDiffer xs) (take_all c.loop-i.i c.args.list.now (omega (arith, c.loop-i-test.false))) c.loop-i.invariant, λ h. refl)
