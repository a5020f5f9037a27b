use Rattle.std.proofs.Common.{◌≡◌, ◌<◌, List, [], ◌∷◌, ◌++◌, length, ap, sym, ◌∙◌, subst, arith}
use Rattle.std.proofs.lemmas.Option.{slice_get_within, get_or_from_slice_get}
use Rattle.cf_model.specs.Renumbering.{IsNew}
use Rattle.cf_model.specs.declared.terms.Term.{Term}
use Rattle.cf_pkg.specs.Memos.{Remembered, IsMemo, EntersTree}
use Rattle.cf_pkg.proofs.Memos.{tree_entered, grown}
use Rattle.cf_pkg.proofs.memo.Memo.operation_of.Goals as goal

abbrev inside : goal.In_ok-push → Remembered
inside c = record { trees = c.self.inside.trees.items; entries = c.self.inside.jobs.entries }

new : (c : goal.In_ok-push) → IsNew (inside c).trees c.args.tree.now
new c k e =
    let within : k < length (inside c).trees = slice_get_within (inside c).trees k c.args.tree.now e in
    c.loop-place.invariant k (omega (arith, within, c.loop-place-test.false, c.len-place-end.ensures)) (get_or_from_slice_get (inside c).trees k c.args.tree.now Term.X e)

trees : (c : goal.In_ok-push) → c.push.new.self.items ≡ (inside c).trees ++ c.args.tree.now ∷ []
trees c = c.in_ok-push.ensures.items ∙ ap (λ (t : Term). (inside c).trees ++ t ∷ []) c.in_ok-tree.ensures

pub invariant_of-self-2 : goal.invariant_of-self-2
invariant_of-self-2 c =
    subst (λ (ts : List Term). IsMemo (record { trees = ts; entries = (inside c).entries })) (sym (trees c)) (grown (inside c) c.self.invariant c.args.tree.now c.in_default.ensures (new c))

pub returns-clause-entered : goal.returns-clause-entered
returns-clause-entered c =
    subst (λ (m : Remembered). EntersTree m (record { trees = c.push.new.self.items; entries = c.self.inside.jobs.entries })) c.self.view_is
    (subst (λ (ts : List Term). EntersTree (inside c) (record { trees = ts; entries = (inside c).entries })) (sym (trees c)) (tree_entered (inside c) c.self.invariant c.args.tree.now))
