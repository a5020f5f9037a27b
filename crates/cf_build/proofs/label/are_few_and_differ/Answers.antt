use Rattle.std.proofs.Common.{◌≡◌, ◌+◌, List, [], ◌∷◌, ◌++◌, take, sym, ◌∙◌, ap, subst, arith}
use Rattle.std.proofs.lemmas.List.{take_all, take_more}
use Rattle.cf_model.specs.Renumbering.{AllDiffer, IsNew}
use Rattle.cf_model.proofs.CanonLaws.{AllDiffer-push}
use Rattle.cf_build.proofs.label.are_few_and_differ.Goals as goal

pub loop-i-preserved : goal.loop-i-preserved
loop-i-preserved g c =
    let all = c.args.labels.now in
    let i = c.loop-i.i in
    let x = c.index-labels-i.result in
    let more : take (i + 1) all ≡ take i all ++ x ∷ [] = take_more all i x c.loop-i-test.true ∙ ap (λ (y : _). take i all ++ y ∷ []) (sym c.index-labels-i.is) in
    let new : IsNew (take i all) x = c.in_default.ensures.place in
    subst (λ (v : List _). AllDiffer v) (sym more) (AllDiffer-push (take i all) x c.loop-i.invariant new)

pub returns : goal.returns
returns g c = λ t. subst (λ (v : List _). AllDiffer v) (take_all c.loop-i.i c.args.labels.now (omega (arith, c.loop-i-test.false))) c.loop-i.invariant
