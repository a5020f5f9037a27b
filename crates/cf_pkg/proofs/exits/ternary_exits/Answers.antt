use Rattle.std.proofs.Common.{◌≡◌, ℕ, ℤ, pos, [], ◌∷◌, ◌++◌, Option, None, Some, sym, ◌∙◌, ap, subst, get_or, rules}
use mir.Syntax.{w128}
use mir.Val.{SFits, to_z, of_z}
use Rattle.std.proofs.lemmas.Int.{to_z-of_z}
use Rattle.cf_model.specs.Terms.{term}
use Rattle.cf_pkg.specs.Exits.{ternary_each}
use Rattle.cf_pkg.specs.Faults.{IsFirstNone}
use Rattle.cf_pkg.proofs.ExitWork.{worked_more, first_found}
use Rattle.cf_pkg.proofs.exits.ternary_exits.Goals as goal

pub returns-in_default-clause-first : goal.returns-in_default-clause-first
returns-in_default-clause-first g c exit e =
    let at = get_or c.args.triples.now c.loop-i.i (0, 0, 0) in
    let x = get_or c.args.first.now at.0 (pos 0) in
    let y = get_or c.args.second.now at.1 (pos 0) in
    let z = get_or c.args.third.now at.2 (pos 0) in
    let x_fits : SFits w128 x = search rules in
    let y_fits : SFits w128 y = search rules in
    let z_fits : SFits w128 z = search rules in
    let word : ℕ × ℕ × ℕ → Option ℤ = λ p. term c.args.op.now.tree (get_or c.args.first.now p.0 (pos 0)) (get_or c.args.second.now p.1 (pos 0)) (get_or c.args.third.now p.2 (pos 0)) in
    let none : word at ≡ None = ap (λ (k : ℤ). term c.args.op.now.tree k y z) (sym (to_z-of_z w128 x x_fits)) ∙ ap (λ (k : ℤ). term c.args.op.now.tree (to_z w128 (of_z w128 x)) k z) (sym (to_z-of_z w128 y y_fits)) ∙ ap (λ (k : ℤ). term c.args.op.now.tree (to_z w128 (of_z w128 x)) (to_z w128 (of_z w128 y)) k) (sym (to_z-of_z w128 z z_fits)) ∙ sym c.call.ensures ∙ c.in_default.is in
    let same : c.loop-i.i ≡ exit = cc in
    subst (λ (n : ℕ). IsFirstNone (ternary_each c.args.op.now.tree c.args.first.now c.args.second.now c.args.third.now c.args.triples.now) n) same
    (first_found word c.args.triples.now c.loop-i.i (0, 0, 0) c.loop-i.worked.items c.loop-i-test.true c.loop-i.invariant none)

pub loop-i-preserved : goal.loop-i-preserved
loop-i-preserved g c =
    let at = get_or c.args.triples.now c.loop-i.i (0, 0, 0) in
    let x = get_or c.args.first.now at.0 (pos 0) in
    let y = get_or c.args.second.now at.1 (pos 0) in
    let z = get_or c.args.third.now at.2 (pos 0) in
    let x_fits : SFits w128 x = search rules in
    let y_fits : SFits w128 y = search rules in
    let z_fits : SFits w128 z = search rules in
    let word : ℕ × ℕ × ℕ → Option ℤ = λ p. term c.args.op.now.tree (get_or c.args.first.now p.0 (pos 0)) (get_or c.args.second.now p.1 (pos 0)) (get_or c.args.third.now p.2 (pos 0)) in
    let some : word at ≡ Some c.in-Some.value = ap (λ (k : ℤ). term c.args.op.now.tree k y z) (sym (to_z-of_z w128 x x_fits)) ∙ ap (λ (k : ℤ). term c.args.op.now.tree (to_z w128 (of_z w128 x)) k z) (sym (to_z-of_z w128 y y_fits)) ∙ ap (λ (k : ℤ). term c.args.op.now.tree (to_z w128 (of_z w128 x)) (to_z w128 (of_z w128 y)) k) (sym (to_z-of_z w128 z z_fits)) ∙ sym c.call.ensures ∙ c.in-Some.is in
    let range : SFits w128 c.in-Some.value = search rules in
    let long : c.push.new.self.items ≡ c.loop-i.worked.items ++ c.in-Some.value ∷ [] = search (rules, to_z-of_z) in
    worked_more word c.args.triples.now c.loop-i.i (0, 0, 0) c.loop-i.worked.items c.push.new.self.items c.in-Some.value c.loop-i-test.true c.loop-i.invariant long some
