use Rattle.std.proofs.Common.{◌≡◌, ℕ, ℤ, pos, [], ◌∷◌, ◌++◌, Option, None, Some, sym, ◌∙◌, ap, subst, get_or, rules}
use mir.Syntax.{w128}
use mir.Val.{SFits, to_z, of_z}
use Rattle.std.proofs.lemmas.Int.{to_z-of_z}
use Rattle.cf_model.specs.Terms.{term}
use Rattle.cf_pkg.specs.Exits.{apply_each}
use Rattle.cf_pkg.specs.Faults.{IsFirstNone}
use Rattle.cf_pkg.proofs.ExitWork.{worked_more, first_found}
use Rattle.cf_pkg.proofs.exits.apply_exits.Goals as goal

pub returns-in_default-clause-first : goal.returns-in_default-clause-first
returns-in_default-clause-first g c exit e =
    let at = get_or c.args.pairs.now c.loop-i.i (0, 0) in
    let x = get_or c.args.left.now at.0 (pos 0) in
    let y = get_or c.args.right.now at.1 (pos 0) in
    let x_fits : SFits w128 x = search rules in
    let y_fits : SFits w128 y = search rules in
    let word : ℕ × ℕ → Option ℤ = λ p. term c.args.op.now.tree (get_or c.args.left.now p.0 (pos 0)) (get_or c.args.right.now p.1 (pos 0)) (pos 0) in
    let none : word at ≡ None = ap (λ (k : ℤ). term c.args.op.now.tree k y (pos 0)) (sym (to_z-of_z w128 x x_fits)) ∙ ap (λ (k : ℤ). term c.args.op.now.tree (to_z w128 (of_z w128 x)) k (pos 0)) (sym (to_z-of_z w128 y y_fits)) ∙ sym c.call.ensures ∙ c.in_default.is in
    let same : c.loop-i.i ≡ exit = cc in
    subst (λ (n : ℕ). IsFirstNone (apply_each c.args.op.now.tree c.args.left.now c.args.right.now c.args.pairs.now) n) same
    (first_found word c.args.pairs.now c.loop-i.i (0, 0) c.loop-i.worked.items c.loop-i-test.true c.loop-i.invariant none)

pub loop-i-preserved : goal.loop-i-preserved
loop-i-preserved g c =
    let at = get_or c.args.pairs.now c.loop-i.i (0, 0) in
    let x = get_or c.args.left.now at.0 (pos 0) in
    let y = get_or c.args.right.now at.1 (pos 0) in
    let x_fits : SFits w128 x = search rules in
    let y_fits : SFits w128 y = search rules in
    let word : ℕ × ℕ → Option ℤ = λ p. term c.args.op.now.tree (get_or c.args.left.now p.0 (pos 0)) (get_or c.args.right.now p.1 (pos 0)) (pos 0) in
    let some : word at ≡ Some c.in-Some.value = ap (λ (k : ℤ). term c.args.op.now.tree k y (pos 0)) (sym (to_z-of_z w128 x x_fits)) ∙ ap (λ (k : ℤ). term c.args.op.now.tree (to_z w128 (of_z w128 x)) k (pos 0)) (sym (to_z-of_z w128 y y_fits)) ∙ sym c.call.ensures ∙ c.in-Some.is in
    let range : SFits w128 c.in-Some.value = search rules in
    let long : c.push.new.self.items ≡ c.loop-i.worked.items ++ c.in-Some.value ∷ [] = search (rules, to_z-of_z) in
    worked_more word c.args.pairs.now c.loop-i.i (0, 0) c.loop-i.worked.items c.push.new.self.items c.in-Some.value c.loop-i-test.true c.loop-i.invariant long some
