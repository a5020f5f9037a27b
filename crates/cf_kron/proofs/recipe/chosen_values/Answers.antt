use Rattle.std.proofs.Common.{◌≡◌, ℤ, pos, List, [], ◌∷◌, ◌++◌, take, get_or, sym, ◌∙◌, ap, rules}
use mir.Syntax.{w128}
use mir.Val.{SFits}
use Rattle.std.proofs.lemmas.Int.{to_z-of_z}
use Rattle.std.proofs.lemmas.List.{take_more, map_push}
use Rattle.cf_kron.specs.Transposed.{values_at}
use Rattle.cf_kron.proofs.recipe.chosen_values.Goals as goal

pub loop-i-preserved : goal.loop-i-preserved
loop-i-preserved c =
    let vs = c.args.values.now in
    let es = c.args.exits.now in
    let e = get_or es c.loop-i.i 0 in
    let x = get_or vs e (pos 0) in
    let fits : SFits w128 x = search rules in
    let long : c.push.new.self.items ≡ c.loop-i.chosen.items ++ x ∷ [] = search (rules, to_z-of_z) in
    long ∙ ap (λ (v : List ℤ). v ++ x ∷ []) c.loop-i.invariant ∙ sym (map_push (λ y. get_or vs y (pos 0)) (take c.loop-i.i es) e) ∙ ap (values_at vs) (sym (take_more es c.loop-i.i 0 c.loop-i-test.true))
