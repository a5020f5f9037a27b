use Rattle.std.proofs.Common.{rules, arith, ℕ, suc, ◌+◌, ◌<◌, ◌≤◌, ◌≡◌, max, List, length, drop, ap, sym, subst, IfSome}
use mir.Val.{SFits}
use Rattle.std.specs.Int.{w128}
use Rattle.std.proofs.lemmas.Int.{to_z-of_z}
use Rattle.cf_ops.specs.Operations.{of_two}
use Rattle.cf_pkg.specs.Tasks as task
use Rattle.cf_pkg.specs.Packages.{Package, IsRemembered}
use Rattle.cf_reference.specs.declared.grammar.Head.TheVariants.{One, Ite}
use Rattle.cf_reference.specs.Trees.{Tree, Call, Arguments, none, more, depth, depths}
use Rattle.cf_script.specs.declared.trees.Expr.{Expr}
use Rattle.cf_script.specs.Views.{tree_of, listed}
use Rattle.cf_session.specs.Sessions.{Held}
use Rattle.cf_session.specs.Keeping.{IsKept}
use Rattle.cf_session.proofs.Listed.{item_shallow, next_of, none_left}
use Rattle.cf_session.proofs.Recalling.{LeadsOn, seen, fold_tree, choice_tree, constant_tree, three_of, one_found, choice_found, fold_begins, fold_goes, fold_ends}
use Rattle.cf_session.proofs.session.Session.+recall.Goals as goal

pub recall_any-recall_fold-requires : goal.recall_any-recall_fold-requires
recall_any-recall_fold-requires t c =
    let deeper : depth (tree_of c.args.expr.now) ≡ depths (listed c.items.result.now) + 1 = ap depth (fold_tree c.args.expr.now c.in-Fold.word c.in-Fold.es c.items.result.now c.in-Fold.is c.items.ensures) in
    search (rules, arith)

pub recall_any-recall_choice-requires : goal.recall_any-recall_choice-requires
recall_any-recall_choice-requires t c =
    let deeper : depth (tree_of c.args.expr.now) ≡ depths (listed c.items-in-Ite.result.now) + 1 = ap depth (choice_tree c.args.expr.now c.in-Ite.es c.items-in-Ite.result.now c.in-Ite.is c.items-in-Ite.ensures) in
    search (rules, arith)

pub recall_any-returns-in-Const : goal.recall_any-returns-in-Const
recall_any-returns-in-Const t c =
    let level_fits : SFits w128 c.in-Const.level = search rules in
    let n_fits : SFits w128 c.in-Const.n = search rules in
    subst (λ (u : Tree). IfSome c.recall_constant.result (IsKept c.args.self.now u))
    (constant_tree c.args.expr.now _ c.in-Const.level _ c.in-Const.n (to_z-of_z w128 c.in-Const.level level_fits) (to_z-of_z w128 c.in-Const.n n_fits) c.in-Const.is) c.recall_constant.ensures

pub recall_any-returns-in-Fold : goal.recall_any-returns-in-Fold
recall_any-returns-in-Fold t c =
    subst (λ (u : Tree). IfSome c.recall_fold.result (IsKept c.args.self.now u))
    (sym (fold_tree c.args.expr.now c.in-Fold.word c.in-Fold.es c.items.result.now c.in-Fold.is c.items.ensures)) c.recall_fold.ensures

pub recall_any-returns-in-Ite : goal.recall_any-returns-in-Ite
recall_any-returns-in-Ite t c =
    subst (λ (u : Tree). IfSome c.recall_choice.result (IsKept c.args.self.now u))
    (sym (choice_tree c.args.expr.now c.in-Ite.es c.items-in-Ite.result.now c.in-Ite.is c.items-in-Ite.ensures)) c.recall_choice.ensures

pub recall_any-returns-in_ok-f-in-One : goal.recall_any-returns-in_ok-f-in-One
recall_any-returns-in_ok-f-in-One t c =
    let is : tree_of c.args.expr.now ≡ Call (One c.in-One.word) (more (tree_of c.deref.result.now) none) = search rules in
    subst (λ (u : Tree). IfSome c.known_map.result (IsKept c.args.self.now u)) (sym is)
    (one_found c.args.self.now c.in-One.word (tree_of c.deref.result.now) c.in_ok-f-in-One.f c.known_map.result c.in_ok-f-in-One.ensures
    (seen _ _ (ap (λ (h : Held). h.pkg) c.self.view_is) _ _ c.known_map.ensures.found))

pub recall_choice-returns-in_ok-h-in-len3 : goal.recall_choice-returns-in_ok-h-in-len3
recall_choice-returns-in_ok-h-in-len3 t c =
    let low : 3 ≤ length c.args.es.now = omega (arith, c.in-len3.len_at_least) in
    let high : length c.args.es.now < 4 = omega (arith, c.in-len3.len_below) in
    subst (λ (all : Arguments). IfSome c.known_choice.result (IsKept c.args.self.now (Call Ite all)))
    (sym (three_of c.args.es.now low high c.a-item.result c.b-item.result c.c-item.result c.a-item.is c.b-item.is c.c-item.is))
    (choice_found c.args.self.now (tree_of c.a-item.result) (tree_of c.b-item.result) (tree_of c.c-item.result) c.in_ok-f-in-len3.f c.in_ok-g-in-len3.g c.in_ok-h-in-len3.h c.known_choice.result
    c.in_ok-f-in-len3.ensures c.in_ok-g-in-len3.ensures c.in_ok-h-in-len3.ensures (seen _ _ (ap (λ (h : Held). h.pkg) c.self.view_is) _ _ c.known_choice.ensures.found))

pub recall_fold-loop-e-init : goal.recall_fold-loop-e-init
recall_fold-loop-e-init t c =
    subst (λ (l : List Expr). LeadsOn c.args.self.now c.args.word (listed l) c.in_ok-f.f (listed c.in_ok-first.later.now)) (sym c.in_ok-first.ensures.cases.0)
    (fold_begins c.args.self.now c.args.word (tree_of c.in_ok-first.first.now) (listed c.in_ok-first.later.now) c.in_ok-f.f c.in_ok-f.ensures)

pub recall_fold-recall-requires-in-loop-e : goal.recall_fold-recall-requires-in-loop-e
recall_fold-recall-requires-in-loop-e t c =
    let shallow : depth (tree_of c.e-item.result) ≤ depths (listed c.in_ok-first.later.now) = item_shallow c.in_ok-first.later.now c.loop-e.e-index c.e-item.result c.e-item.is c.loop-e-test.true in
    let whole : depths (listed c.args.es.now) ≡ max (depth (tree_of c.in_ok-first.first.now)) (depths (listed c.in_ok-first.later.now)) = ap (λ (l : List Expr). depths (listed l)) c.in_ok-first.ensures.cases.0 in
    search (rules, arith)

pub recall_fold-loop-e-preserved : goal.recall_fold-loop-e-preserved
recall_fold-loop-e-preserved t c =
    let n : suc c.loop-e.e-index ≡ c.loop-e.e-index + 1 = omega arith in
    let left = ap listed (next_of c.in_ok-first.later.now c.loop-e.e-index c.e-item.result c.e-item.is c.loop-e-test.true) in
    let job = subst (λ (p : Package). IsRemembered p (task.Apply (of_two c.args.word) c.loop-e.f c.in_ok-g.g) c.in_ok-f-2.f) (ap (λ (h : Held). h.pkg) c.self.view_is) c.in_ok-f-2.ensures.found in
    subst (λ (k : ℕ). LeadsOn c.args.self.now c.args.word (listed c.args.es.now) c.in_ok-f-2.f (listed (drop k c.in_ok-first.later.now))) n
    (fold_goes c.args.self.now c.args.word (listed c.args.es.now) c.loop-e.f c.in_ok-g.g c.in_ok-f-2.f (tree_of c.e-item.result) (listed (drop (suc c.loop-e.e-index) c.in_ok-first.later.now))
    (subst (λ (l : Arguments). LeadsOn c.args.self.now c.args.word (listed c.args.es.now) c.loop-e.f l) left c.loop-e.invariant) c.in_ok-g.ensures job)

pub recall_fold-returns : goal.recall_fold-returns
recall_fold-returns t c =
    fold_ends c.args.self.now c.args.word (listed c.args.es.now) c.loop-e.f
    (subst (λ (l : Arguments). LeadsOn c.args.self.now c.args.word (listed c.args.es.now) c.loop-e.f l)
    (ap listed (none_left c.in_ok-first.later.now c.loop-e.e-index c.loop-e-test.false)) c.loop-e.invariant)
