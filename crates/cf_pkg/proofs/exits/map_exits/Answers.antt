use Rattle.std.proofs.Common.{◌≡◌, ℤ, pos, Option, None, Some, sym, ◌∙◌, ap, get_or, rules, subst, ℕ, [], ◌∷◌, ◌++◌}
use mir.Syntax.{w128}
use mir.Val.{SFits}
use Rattle.std.proofs.lemmas.Int.{to_z-of_z}
use Rattle.cf_model.specs.Terms.{term}
use Rattle.cf_pkg.specs.Exits.{map_each}
use Rattle.cf_pkg.specs.Faults.{IsFirstNone}
use Rattle.cf_pkg.proofs.ExitWork.{worked_more, first_found}
use Rattle.cf_pkg.proofs.exits.map_exits.Goals as goal

pub returns-in_default-clause-first : goal.returns-in_default-clause-first
returns-in_default-clause-first g c exit e =
    let x = get_or c.args.values.now c.loop-i.i (pos 0) in
    let fits : SFits w128 x = search rules in
    let word : ℤ → Option ℤ = λ y. term c.args.op.now.tree y (pos 0) (pos 0) in
    let none : word x ≡ None = ap word (sym (to_z-of_z w128 x fits)) ∙ sym c.call.ensures ∙ c.in_default.is in
    let at : c.loop-i.i ≡ exit = cc in
    subst (λ (n : ℕ). IsFirstNone (map_each c.args.op.now.tree c.args.values.now) n) at
    (first_found word c.args.values.now c.loop-i.i (pos 0) c.loop-i.worked.items c.loop-i-test.true c.loop-i.invariant none)

pub loop-i-preserved : goal.loop-i-preserved
loop-i-preserved g c =
    let x = get_or c.args.values.now c.loop-i.i (pos 0) in
    let fits : SFits w128 x = search rules in
    let word : ℤ → Option ℤ = λ y. term c.args.op.now.tree y (pos 0) (pos 0) in
    let some : word x ≡ Some c.in-Some.value = ap word (sym (to_z-of_z w128 x fits)) ∙ sym c.call.ensures ∙ c.in-Some.is in
    let range : SFits w128 c.in-Some.value = search rules in
    let long : c.push.new.self.items ≡ c.loop-i.worked.items ++ c.in-Some.value ∷ [] = search (rules, to_z-of_z) in
    worked_more word c.args.values.now c.loop-i.i (pos 0) c.loop-i.worked.items c.push.new.self.items c.in-Some.value c.loop-i-test.true c.loop-i.invariant long some
