use Rattle.std.proofs.Common.{◌≡◌, ◌≤◌, ◌+◌, ap, sym, subst, ◌∙◌, rules, arith, ℤ, suc}
use Rattle.std.proofs.lemmas.Result.{IfOk-weaker, IfErr-weaker}
use mir.Val.{SFits}
use Rattle.std.specs.Int.{w128}
use Rattle.std.proofs.lemmas.Int.{to_z-of_z}
use Rattle.cf_reference.specs.Trees.{Tree, atom, Number, depth, depths, IsFormed}
use Rattle.cf_reference.specs.Expressions.{walk}
use Rattle.cf_script.specs.Vars.{atom_of}
use Rattle.cf_script.specs.Views.{tree_of}
use Rattle.cf_session.specs.Arguments.{arguments_of, from_place}
use Rattle.cf_session.specs.Faults.{reason_of}
use Rattle.cf_session.specs.Sessions.{state_of}
use Rattle.cf_session.specs.Walks.{HasLevel, HasPosition}
use Rattle.cf_session.proofs.Gathering.{next-shallow}
use Rattle.cf_session.proofs.WalkFacts.{Walking, walking-call, num-level, walking-function, walking-position, walking-number, walking-formed, function-refused, position-refused, whole-level, whole-refused}
use Rattle.cf_session.proofs.session.Session.+walk.Goals.{walk_call-in-Expr+in-Ok, walk_call-in-Var+in-Ok-position, walk_call-in-Number}
use Rattle.cf_session.proofs.session.Session.+walk.Goals as goal

pub walk-returns-in-Num-clause-level : goal.walk-returns-in-Num-clause-level
walk-returns-in-Num-clause-level t c =
    subst (λ (e : Tree). HasLevel (state_of c.args.self.now) e c.level_of_variables.result) (sym c.in-Num.ensures)
    (num-level (state_of c.args.self.now) _ c.level_of_variables.result c.level_of_variables.ensures.level)

pub walk_call-walk-requires : goal.walk_call-walk-requires
walk_call-walk-requires t c =
    let formed : IsFormed (tree_of c.in-Expr.e.now) = walking-formed (state_of c.args.self.now) c.args.head (arguments_of (tree_of c.args.call.now)) c.loop-place.walked c.loop-place.place (tree_of c.in-Expr.e.now) c.loop-place.invariant c.in-Expr.ensures in
    let shallow : depth (tree_of c.in-Expr.e.now) ≤ depths (arguments_of (tree_of c.args.call.now)) = next-shallow (arguments_of (tree_of c.args.call.now)) c.loop-place.place (tree_of c.in-Expr.e.now) c.in-Expr.ensures in
    let deeper : depth (tree_of c.args.call.now) ≡ depths (arguments_of (tree_of c.args.call.now)) + 1 = ap depth c.requires.is_call in
    search (rules, arith)

pub walk_call-returns-in-Err-clause-refused : goal.walk_call-returns-in-Err-clause-refused
walk_call-returns-in-Err-clause-refused t c =
    ap (walk (state_of c.args.self.now)) c.requires.is_call
    ∙ function-refused (state_of c.args.self.now) c.args.head (arguments_of (tree_of c.args.call.now)) c.loop-place.walked c.loop-place.place (tree_of c.in-Expr.e.now) (reason_of c.in-Err.refusal) c.loop-place.invariant c.in-Expr.ensures c.in-Err.ensures.refused

pub walk_call-returns-in-Err-position-clause-refused :
    goal.walk_call-returns-in-Err-position-clause-refused
walk_call-returns-in-Err-position-clause-refused t c =
    ap (walk (state_of c.args.self.now)) c.requires.is_call
    ∙ position-refused (state_of c.args.self.now) c.args.head (arguments_of (tree_of c.args.call.now)) c.loop-place.walked c.loop-place.place (atom_of c.in-Var.var) (reason_of c.in-Err-position.refusal) c.loop-place.invariant c.in-Var.ensures c.in-Err-position.ensures.refused

pub walk_call-loop-place-init : goal.walk_call-loop-place-init
walk_call-loop-place-init t c =
    walking-call (state_of c.args.self.now) c.args.head (tree_of c.args.call.now) c.none-walked.result c.requires.is_call c.requires.formed c.none-walked.ensures

pub walk_call-loop-place-preserved : goal.walk_call-loop-place-preserved
walk_call-loop-place-preserved t c =
    let s = state_of c.args.self.now in
    let h = c.loop-place.invariant in
    let head = c.args.head in
    let all = arguments_of (tree_of c.args.call.now) in
    let place = c.loop-place.place in
    let before = c.loop-place.walked in
    elim c.match-argument.branch [
      | walk_call-in-Expr+in-Ok w ↦
          subst (λ v. Walking s head all v (place + 1)) (sym w.walked-is)
          (walking-function s head all before w.function.result place w.in-Ok.level (tree_of w.in-Expr.e.now) h w.in-Expr.ensures w.in-Ok.ensures.level w.function.ensures)
      | walk_call-in-Var+in-Ok-position w ↦
          (let fits : SFits w128 w.in-Ok-position.i = search rules in
          subst (λ v. Walking s head all v (place + 1)) (sym w.walked-is)
          (walking-position s head all before w.position-in-Ok-position.result place _ (atom_of w.in-Var.var) h w.in-Var.ensures
          (subst (λ (z : ℤ). HasPosition s (atom_of w.in-Var.var) z) (sym (to_z-of_z w128 w.in-Ok-position.i fits)) w.in-Ok-position.ensures.position) w.position-in-Ok-position.ensures))
      | walk_call-in-Number w ↦
          (let fits : SFits w128 w.in-Number.n = search rules in
          subst (λ v. Walking s head all v (place + 1)) (sym w.walked-is)
          (walking-number s head all before w.number-walked.result place _ h
          (w.in-Number.ensures ∙ ap (λ z. atom (Number z) (from_place (suc place) all)) (sym (to_z-of_z w128 w.in-Number.n fits))) w.number-walked.ensures))
    ]

pub walk_call-returns-clause-level : goal.walk_call-returns-clause-level
walk_call-returns-clause-level t c =
    IfOk-weaker c.ruled.result _ _
    (λ l r. whole-level (state_of c.args.self.now) c.args.head (tree_of c.args.call.now) (arguments_of (tree_of c.args.call.now)) c.loop-place.walked c.loop-place.place l c.loop-place.invariant c.requires.is_call c.requires.formed (omega (arith, c.loop-place-test.false, c.loop-place.auto.place-end, c.arity-place-end.ensures)) r)
    c.ruled.ensures.level

pub walk_call-returns-clause-refused : goal.walk_call-returns-clause-refused
walk_call-returns-clause-refused t c =
    IfErr-weaker c.ruled.result _ _
    (λ r h. whole-refused (state_of c.args.self.now) c.args.head (tree_of c.args.call.now) (arguments_of (tree_of c.args.call.now)) c.loop-place.walked c.loop-place.place (reason_of r) c.loop-place.invariant c.requires.is_call c.requires.formed (omega (arith, c.loop-place-test.false, c.loop-place.auto.place-end, c.arity-place-end.ensures)) h)
    c.ruled.ensures.refused
