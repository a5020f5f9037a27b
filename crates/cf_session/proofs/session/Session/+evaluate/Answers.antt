use Rattle.std.proofs.Common.{rules, arith, ◌+◌, ◌<◌, ◌≤◌, ◌≡◌, suc, length, drop, ap, sym, subst, ◌∙◌, refl, None}
use mir.Val.{SFits}
use Rattle.std.specs.Int.{w128}
use Rattle.std.proofs.lemmas.Int.{to_z-of_z}
use Rattle.std.proofs.lemmas.Option.{none-some}
use Rattle.std.proofs.lemmas.Result.{IfOk-weaker, IfErr-weaker}
use Rattle.cf_reference.specs.Trees.{Tree, Num, At, Arguments, none, Call, depth, depths, IsFormed}
use Rattle.cf_reference.specs.Trees as tree
use Rattle.cf_reference.specs.States.{State}
use Rattle.cf_reference.specs.Expressions.{walk, walk_atom, meant_atom}
use Rattle.cf_reference.proofs.WalkLaws.{walk-Call-arguments}
use Rattle.cf_script.specs.Vars.{atom_of}
use Rattle.cf_script.specs.Views.{tree_of, listed}
use Rattle.cf_session.specs.Arguments.{arguments_of}
use Rattle.std.proofs.Common.{ℕ, List, [], ◌∷◌, ◌++◌, Result, Err}
use Rattle.cf_pkg.specs.declared.Func.{Func}
use Rattle.cf_session.specs.declared.faults.StepFault.{StepFault}
use Rattle.cf_session.specs.declared.values.Value.{Value}
use Rattle.cf_session.specs.declared.values.Value.TheVariants as value
use Rattle.cf_session.specs.Sessions.{Held, state_of}
use Rattle.cf_session.specs.Building.{Grows, Builds, IsFaultOf}
use Rattle.cf_session.specs.Keeping.{IsKept, AnswersKept}
use Rattle.cf_session.proofs.Growth.{grown_on, grown_same}
use Rattle.cf_session.proofs.Nesting.{pair_owned, pair_kinds, next_ruled, first_fails, next_fails, step_fails, nesting_step}
use Rattle.cf_session.proofs.Gathering.{Gathered, gathered-none, gathered-as, next-formed, next-walked, next-placed, next-shallow, next-fails, next-one, next-atom, all-of, all-ruled, call-built, call-fails}
use Rattle.cf_session.proofs.Listed.{nested_long, item_formed, item_walked, item_shallow, later, later_shallow, first_and_later, next_of, none_left}
use Rattle.cf_session.proofs.Turns.{begins, next, next_in_order, turned, counted, ends}
use Rattle.cf_session.proofs.Kept.{position_value, number_value, no_memory}
use Rattle.cf_session.proofs.KeptCalls.{KeptFront, front_none, front_function, front_atom, front_fails, front_call, front_answers, KeptSteps, steps_begin, begin_fails, step_fails as kept_fails, Step, steps_push, job_fails, steps_end}
use Rattle.cf_session.proofs.session.Session.+evaluate.Goals.{evaluate_call-in-Expr+in-Ok, evaluate_call-in-Var+in-Ok-position, evaluate_call-in-Number}
use Rattle.cf_session.proofs.session.Session.+evaluate.Goals as goal

pub evaluate_call-loop-place-init : goal.evaluate_call-loop-place-init
evaluate_call-loop-place-init t c =
    let s = state_of c.args.self.now in
    let all = arguments_of (tree_of c.args.expr.now) in
    record {
      gathered = gathered-none s c.args.head all c.args.self.now.pkg c.new-args.result.items c.new-args.ensures.items
          (walk-Call-arguments s c.args.head all (subst (λ (u : Tree). walk s u ≡ None) c.requires.is_call c.requires.walked)) (subst (λ (u : Tree). IsFormed u) c.requires.is_call c.requires.formed).1;
      kept = front_none c.args.self.now c.args.head all c.new-args.result.items c.new-args.ensures.items c.requires.one;
      grows = grown_same c.args.self.now;
    }

pub evaluate_call-evaluate-requires : goal.evaluate_call-evaluate-requires
evaluate_call-evaluate-requires t c =
    let s = state_of c.args.self.now in
    let all = arguments_of (tree_of c.args.expr.now) in
    let h = c.loop-place.invariant.gathered in
    let formed : IsFormed (tree_of c.in-Expr.e.now) = next-formed s c.args.head all c.loop-place.self.pkg c.loop-place.args.items c.loop-place.place (tree_of c.in-Expr.e.now) h c.in-Expr.ensures in
    let walked : walk (state_of c.loop-place.self) (tree_of c.in-Expr.e.now) ≡ None = subst (λ (u : State). walk u (tree_of c.in-Expr.e.now) ≡ None) (sym c.loop-place.invariant.grows.state)
    (next-walked s c.args.head all c.loop-place.self.pkg c.loop-place.args.items c.loop-place.place (tree_of c.in-Expr.e.now) h c.in-Expr.ensures) in
    let shallow : depth (tree_of c.in-Expr.e.now) ≤ depths (arguments_of (tree_of c.args.expr.now)) = next-shallow all c.loop-place.place (tree_of c.in-Expr.e.now) c.in-Expr.ensures in
    let deeper : depth (tree_of c.args.expr.now) ≡ depths (arguments_of (tree_of c.args.expr.now)) + 1 = ap depth c.requires.is_call in
    search (rules, arith)

pub evaluate_call-returns-in-Err-clause-fault : goal.evaluate_call-returns-in-Err-clause-fault
evaluate_call-returns-in-Err-clause-fault t c =
    let s = state_of c.args.self.now in
    subst (λ (u : Tree). IsFaultOf s u c.in-Err.fault) (sym c.requires.is_call)
    (next-fails s c.args.head (arguments_of (tree_of c.args.expr.now)) c.loop-place.self.pkg c.loop-place.args.items c.loop-place.place (tree_of c.in-Expr.e.now) c.requires.one c.loop-place.invariant.gathered c.in-Expr.ensures c.in-Err.fault
    (subst (λ (u : State). IsFaultOf u (tree_of c.in-Expr.e.now) c.in-Err.fault) c.loop-place.invariant.grows.state c.in-Err.ensures.fault))

pub evaluate_call-returns-in-Err-position-clause-fault :
    goal.evaluate_call-returns-in-Err-position-clause-fault
evaluate_call-returns-in-Err-position-clause-fault t c =
    absurd (none-some _
    (sym (next-placed (state_of c.args.self.now) c.args.head (arguments_of (tree_of c.args.expr.now)) c.loop-place.self.pkg c.loop-place.args.items c.loop-place.place (atom_of c.in-Var.var) c.loop-place.invariant.gathered c.in-Var.ensures)
    ∙ ap (λ u. walk_atom u (atom_of c.in-Var.var)) (sym c.loop-place.invariant.grows.state) ∙ c.in-Err-position.ensures.refused))

pub evaluate_call-loop-place-preserved : goal.evaluate_call-loop-place-preserved
evaluate_call-loop-place-preserved t c =
    let s = state_of c.args.self.now in
    let start = c.args.self.now in
    let all = arguments_of (tree_of c.args.expr.now) in
    let before = c.loop-place.self in
    let front = c.loop-place.invariant.kept in
    let items = c.loop-place.args.items in
    let place = c.loop-place.place in
    let now = c.match-argument.self in
    let v = c.match-argument.value in
    let pushed : KeptFront start now c.args.head all (items ++ v ∷ []) (place + 1) = elim c.match-argument.branch [
      | evaluate_call-in-Expr+in-Ok w ↦
          front_function start before w.evaluate.new.self now c.args.head all items place (tree_of w.in-Expr.e.now) w.in-Ok.f v front w.in-Expr.ensures w.evaluate.ensures.grows w.in-Ok.ensures.kept
          (subst (λ (r : Result Func StepFault). AnswersKept before w.evaluate.new.self (tree_of w.in-Expr.e.now) r) w.in-Ok.is w.evaluate.ensures.again) w.self-is w.value-is
      | evaluate_call-in-Var+in-Ok-position w ↦
          (let fits : SFits w128 w.in-Ok-position.i = search rules in
          front_atom start before now c.args.head all items place (atom_of w.in-Var.var) (value.Position w.in-Ok-position.i) v front w.in-Var.ensures
          (position_value (state_of before) (atom_of w.in-Var.var) w.in-Ok-position.i w.in-Ok-position.ensures.position) w.self-is (w.value-is ∙ ap value.Position (to_z-of_z w128 w.in-Ok-position.i fits)))
      | evaluate_call-in-Number w ↦
          (let fits : SFits w128 w.in-Number.n = search rules in
          front_atom start before now c.args.head all items place (tree.Number w.in-Number.n) (value.Number w.in-Number.n) v front w.in-Number.ensures
          (number_value (state_of before) (tree.Number w.in-Number.n) w.in-Number.n refl) w.self-is (w.value-is ∙ ap value.Number (to_z-of_z w128 w.in-Number.n fits)))
    ] in
    let h = c.loop-place.invariant.gathered in
    let grown = c.loop-place.invariant.grows in
    let next : Gathered s c.args.head all now.pkg c.push.new.args.items (c.loop-place.place + 1) × Grows c.args.self.now now = elim c.match-argument.branch [
      | evaluate_call-in-Expr+in-Ok w ↦
          next-one s c.args.head all c.args.self.now before w.evaluate.new.self now items c.push.new.args.items c.loop-place.place (tree_of w.in-Expr.e.now) w.in-Ok.f v
          h w.in-Expr.ensures grown.state grown w.evaluate.ensures.grows w.in-Ok.ensures.built w.self-is c.in_ok-push.ensures w.value-is
      | evaluate_call-in-Var+in-Ok-position w ↦
          (let fits : SFits w128 w.in-Ok-position.i = search rules in
          next-atom s c.args.head all c.args.self.now before now items c.push.new.args.items c.loop-place.place (atom_of w.in-Var.var) v (value.Position w.in-Ok-position.i)
          h w.in-Var.ensures tt (ap (λ u. meant_atom u (atom_of w.in-Var.var)) (sym grown.state) ∙ w.in-Ok-position.ensures.position.is_it) grown w.self-is c.in_ok-push.ensures (w.value-is ∙ ap value.Position (to_z-of_z w128 w.in-Ok-position.i fits)))
      | evaluate_call-in-Number w ↦
          (let fits : SFits w128 w.in-Number.n = search rules in
          next-atom s c.args.head all c.args.self.now before now items c.push.new.args.items c.loop-place.place (tree.Number w.in-Number.n) v (value.Number w.in-Number.n)
          h w.in-Number.ensures tt refl grown w.self-is c.in_ok-push.ensures (w.value-is ∙ ap value.Number (to_z-of_z w128 w.in-Number.n fits)))
    ] in
    record {
      gathered = next.0;
      kept = subst (λ (l : List Value). KeptFront c.args.self.now now c.args.head all l (place + 1)) (sym c.in_ok-push.ensures) pushed;
      grows = next.1;
    }

pub evaluate_call-returns-in_err-push-clause-grows : goal.evaluate_call-returns-in_err-push-clause-grows
evaluate_call-returns-in_err-push-clause-grows t c =
    let start = c.args.self.now in
    let grown = c.loop-place.invariant.grows in
    elim c.match-argument.branch [
      | evaluate_call-in-Expr+in-Ok w ↦ subst (λ (h : Held). Grows start h) (sym w.self-is) (grown_on start c.loop-place.self w.evaluate.new.self grown w.evaluate.ensures.grows)
      | evaluate_call-in-Var+in-Ok-position w ↦ subst (λ (h : Held). Grows start h) (sym w.self-is) grown
      | evaluate_call-in-Number w ↦ subst (λ (h : Held). Grows start h) (sym w.self-is) grown
    ]

pub evaluate_call-call-requires-clause-kinds : goal.evaluate_call-call-requires-clause-kinds
evaluate_call-call-requires-clause-kinds t c =
    let s = state_of c.args.self.now in
    let all = arguments_of (tree_of c.args.expr.now) in
    let h = gathered-as s c.args.head all c.loop-place.self.pkg c.loop-place.args.items c.deref.result.now c.loop-place.place c.deref.ensures.value c.loop-place.invariant.gathered in
    all-of s c.args.head all c.loop-place.self.pkg c.deref.result.now c.loop-place.place h
    (omega (arith, c.loop-place-test.false, c.loop-place.auto.place-end, c.arity-place-end.ensures)) (subst (λ (u : Tree). IsFormed u) c.requires.is_call c.requires.formed)

pub evaluate_call-call-requires-clause-ruled : goal.evaluate_call-call-requires-clause-ruled
evaluate_call-call-requires-clause-ruled t c =
    let s = state_of c.args.self.now in
    let all = arguments_of (tree_of c.args.expr.now) in
    let h = gathered-as s c.args.head all c.loop-place.self.pkg c.loop-place.args.items c.deref.result.now c.loop-place.place c.deref.ensures.value c.loop-place.invariant.gathered in
    all-ruled s c.args.head all c.loop-place.self.pkg c.deref.result.now c.loop-place.place h
    (omega (arith, c.loop-place-test.false, c.loop-place.auto.place-end, c.arity-place-end.ensures)) (subst (λ (u : Tree). walk s u ≡ None) c.requires.is_call c.requires.walked)

pub evaluate_call-returns-clause-built : goal.evaluate_call-returns-clause-built
evaluate_call-returns-clause-built t c =
    let s = state_of c.args.self.now in
    let all = arguments_of (tree_of c.args.expr.now) in
    let h = gathered-as s c.args.head all c.loop-place.self.pkg c.loop-place.args.items c.deref.result.now c.loop-place.place c.deref.ensures.value c.loop-place.invariant.gathered in
    IfOk-weaker c.call.result _ _
    (λ f k. subst (λ (u : Tree). Builds s u c.call.new.self.pkg f) (sym c.requires.is_call)
    (call-built s c.args.head all c.loop-place.self.pkg c.call.new.self.pkg c.deref.result.now c.loop-place.place f h
    (omega (arith, c.loop-place-test.false, c.loop-place.auto.place-end, c.arity-place-end.ensures)) k))
    c.call.ensures.calls

pub evaluate_call-returns-clause-fault : goal.evaluate_call-returns-clause-fault
evaluate_call-returns-clause-fault t c =
    let s = state_of c.args.self.now in
    let all = arguments_of (tree_of c.args.expr.now) in
    let h = gathered-as s c.args.head all c.loop-place.self.pkg c.loop-place.args.items c.deref.result.now c.loop-place.place c.deref.ensures.value c.loop-place.invariant.gathered in
    IfErr-weaker c.call.result _ _
    (λ fault k. subst (λ (u : Tree). IsFaultOf s u fault) (sym c.requires.is_call)
    (call-fails s c.args.head all c.loop-place.self.pkg c.deref.result.now c.loop-place.place h
    (omega (arith, c.loop-place-test.false, c.loop-place.auto.place-end, c.arity-place-end.ensures)) fault k))
    c.call.ensures.fault

pub evaluate_nested-evaluate-requires : goal.evaluate_nested-evaluate-requires
evaluate_nested-evaluate-requires t c =
    let long = nested_long c.args.head c.args.es.now c.requires.nested c.requires.formed.0 in
    let formed : IsFormed (tree_of c.index-es-0.result) = item_formed c.args.head 0 c.args.es.now 0 c.index-es-0.result c.index-es-0.is long c.requires.formed.1 in
    let walked : walk (state_of c.args.self.now) (tree_of c.index-es-0.result) ≡ None = item_walked (state_of c.args.self.now) c.args.es.now 0 c.index-es-0.result c.index-es-0.is long (walk-Call-arguments (state_of c.args.self.now) c.args.head (listed c.args.es.now) c.requires.walked) in
    let shallow : depth (tree_of c.index-es-0.result) ≤ depths (listed c.args.es.now) = item_shallow c.args.es.now 0 c.index-es-0.result c.index-es-0.is long in
    search (rules, arith)

pub evaluate_nested-returns-in-Err-clause-fault : goal.evaluate_nested-returns-in-Err-clause-fault
evaluate_nested-returns-in-Err-clause-fault t c =
    let split = ap listed (first_and_later c.args.es.now c.index-es-0.result c.index-es-0.is (nested_long c.args.head c.args.es.now c.requires.nested c.requires.formed.0)) in
    subst (λ (all : Arguments). IsFaultOf (state_of c.args.self.now) (Call c.args.head all) c.in-Err.fault) (sym split)
    (first_fails (state_of c.args.self.now) c.args.head (tree_of c.index-es-0.result) (listed (later c.args.es.now)) c.in-Err.fault c.in-Err.ensures.fault)

pub evaluate_nested-loop-e-init : goal.evaluate_nested-loop-e-init
evaluate_nested-loop-e-init t c =
    record {
      nesting = begins (state_of c.args.self.now) c.args.head c.args.es.now c.index-es-0.result c.evaluate.new.self.pkg c.in-Ok.f c.requires.nested c.index-es-0.is (nested_long c.args.head c.args.es.now c.requires.nested c.requires.formed.0) c.requires.formed c.requires.walked c.in-Ok.ensures.built;
      kept = (let split = ap listed (first_and_later c.args.es.now c.index-es-0.result c.index-es-0.is (nested_long c.args.head c.args.es.now c.requires.nested c.requires.formed.0)) in
          subst (λ (all : Arguments). KeptSteps c.args.self.now c.evaluate.new.self c.args.head all c.in-Ok.f (listed (later c.args.es.now))) (sym split)
          (steps_begin c.args.self.now c.evaluate.new.self c.args.head (tree_of c.index-es-0.result) (listed (later c.args.es.now)) c.in-Ok.f c.requires.nested c.in-Ok.ensures.kept
          (subst (λ (r : Result Func StepFault). AnswersKept c.args.self.now c.evaluate.new.self (tree_of c.index-es-0.result) r) c.in-Ok.is c.evaluate.ensures.again)));
      grows = c.evaluate.ensures.grows;
    }

pub evaluate_nested-evaluate-requires-in-loop-e : goal.evaluate_nested-evaluate-requires-in-loop-e
evaluate_nested-evaluate-requires-in-loop-e t c =
    let inside : c.loop-e.e-index < length (later c.args.es.now) = c.loop-e-test.true in
    let next_one = next (state_of c.args.self.now) c.args.head (listed c.args.es.now) c.loop-e.self.pkg c.loop-e.f (later c.args.es.now) c.loop-e.e-index c.e-item.result c.loop-e.invariant.nesting c.e-item.is inside in
    let formed : IsFormed (tree_of c.e-item.result) = next_one.formed.1 in
    let walked : walk (state_of c.loop-e.self) (tree_of c.e-item.result) ≡ None = next_in_order (state_of c.args.self.now) c.args.head (listed c.args.es.now) c.loop-e.self c.loop-e.f (later c.args.es.now) c.loop-e.e-index c.e-item.result c.loop-e.invariant.grows.state c.loop-e.invariant.nesting c.e-item.is inside in
    let shallow : depth (tree_of c.e-item.result) ≤ depths (listed (later c.args.es.now)) = item_shallow (later c.args.es.now) c.loop-e.e-index c.e-item.result c.e-item.is inside in
    let within : depths (listed (later c.args.es.now)) ≤ depths (listed c.args.es.now) = later_shallow c.args.es.now in
    search (rules, arith)

pub evaluate_nested-returns-in-Err-evaluate-clause-fault :
    goal.evaluate_nested-returns-in-Err-evaluate-clause-fault
evaluate_nested-returns-in-Err-evaluate-clause-fault t c =
    next_fails (state_of c.args.self.now) c.args.head (listed c.args.es.now) c.loop-e.self.pkg c.loop-e.f (tree_of c.e-item.result) (listed (drop (suc c.loop-e.e-index) (later c.args.es.now)))
    (next (state_of c.args.self.now) c.args.head (listed c.args.es.now) c.loop-e.self.pkg c.loop-e.f (later c.args.es.now) c.loop-e.e-index c.e-item.result c.loop-e.invariant.nesting c.e-item.is c.loop-e-test.true) c.in-Err-evaluate.fault
    (subst (λ (s : State). IsFaultOf s (tree_of c.e-item.result) c.in-Err-evaluate.fault) c.loop-e.invariant.grows.state c.in-Err-evaluate.ensures.fault)

pub evaluate_nested-returns-in-Err-evaluate-clause-grows :
    goal.evaluate_nested-returns-in-Err-evaluate-clause-grows
evaluate_nested-returns-in-Err-evaluate-clause-grows t c =
    grown_on c.args.self.now c.loop-e.self c.evaluate-in-loop-e.new.self c.loop-e.invariant.grows c.evaluate-in-loop-e.ensures.grows

pub evaluate_nested-call-requires-clause-owned : goal.evaluate_nested-call-requires-clause-owned
evaluate_nested-call-requires-clause-owned t c =
    let turn = (turned (state_of c.args.self.now) c.args.head (listed c.args.es.now) c.loop-e.self c.evaluate-in-loop-e.new.self c.loop-e.f c.in-Ok-evaluate.g (later c.args.es.now) c.loop-e.e-index c.e-item.result c.loop-e.invariant.grows.state c.loop-e.invariant.nesting c.e-item.is c.loop-e-test.true c.evaluate-in-loop-e.ensures.grows c.in-Ok-evaluate.ensures.built) in
    pair_owned c.evaluate-in-loop-e.new.self.pkg c.loop-e.f c.in-Ok-evaluate.g turn.nesting.owned turn.nesting.gives.flat turn.built.owned turn.built.gives.flat

pub evaluate_nested-call-requires-clause-kinds : goal.evaluate_nested-call-requires-clause-kinds
evaluate_nested-call-requires-clause-kinds t c = pair_kinds c.args.head c.requires.nested c.loop-e.f c.in-Ok-evaluate.g

pub evaluate_nested-call-requires-clause-ruled : goal.evaluate_nested-call-requires-clause-ruled
evaluate_nested-call-requires-clause-ruled t c =
    let turn = (turned (state_of c.args.self.now) c.args.head (listed c.args.es.now) c.loop-e.self c.evaluate-in-loop-e.new.self c.loop-e.f c.in-Ok-evaluate.g (later c.args.es.now) c.loop-e.e-index c.e-item.result c.loop-e.invariant.grows.state c.loop-e.invariant.nesting c.e-item.is c.loop-e-test.true c.evaluate-in-loop-e.ensures.grows c.in-Ok-evaluate.ensures.built) in
    next_ruled (state_of c.args.self.now) c.args.head (listed c.args.es.now) c.evaluate-in-loop-e.new.self.pkg c.loop-e.f c.in-Ok-evaluate.g (tree_of c.e-item.result) (listed (drop (suc c.loop-e.e-index) (later c.args.es.now))) turn.nesting turn.built

pub evaluate_nested-returns-in-Err-call-clause-fault :
    goal.evaluate_nested-returns-in-Err-call-clause-fault
evaluate_nested-returns-in-Err-call-clause-fault t c =
    let turn = (turned (state_of c.args.self.now) c.args.head (listed c.args.es.now) c.loop-e.self c.evaluate-in-loop-e.new.self c.loop-e.f c.in-Ok-evaluate.g (later c.args.es.now) c.loop-e.e-index c.e-item.result c.loop-e.invariant.grows.state c.loop-e.invariant.nesting c.e-item.is c.loop-e-test.true c.evaluate-in-loop-e.ensures.grows c.in-Ok-evaluate.ensures.built) in
    step_fails (state_of c.args.self.now) c.args.head (listed c.args.es.now) c.evaluate-in-loop-e.new.self.pkg c.loop-e.f c.in-Ok-evaluate.g (tree_of c.e-item.result) (listed (drop (suc c.loop-e.e-index) (later c.args.es.now))) turn.nesting turn.built c.in-Err-call.fault c.in-Err-call.ensures.fault

pub evaluate_nested-returns-in-Err-call-clause-grows :
    goal.evaluate_nested-returns-in-Err-call-clause-grows
evaluate_nested-returns-in-Err-call-clause-grows t c =
    grown_on c.args.self.now c.loop-e.self c.call.new.self c.loop-e.invariant.grows (grown_on c.loop-e.self c.evaluate-in-loop-e.new.self c.call.new.self c.evaluate-in-loop-e.ensures.grows c.call.ensures.grows)

pub evaluate_nested-loop-e-preserved : goal.evaluate_nested-loop-e-preserved
evaluate_nested-loop-e-preserved t c =
    let turn = (turned (state_of c.args.self.now) c.args.head (listed c.args.es.now) c.loop-e.self c.evaluate-in-loop-e.new.self c.loop-e.f c.in-Ok-evaluate.g (later c.args.es.now) c.loop-e.e-index c.e-item.result c.loop-e.invariant.grows.state c.loop-e.invariant.nesting c.e-item.is c.loop-e-test.true c.evaluate-in-loop-e.ensures.grows c.in-Ok-evaluate.ensures.built) in
    let n : suc c.loop-e.e-index ≡ c.loop-e.e-index + 1 = omega arith in
    let left = ap listed (next_of (later c.args.es.now) c.loop-e.e-index c.e-item.result c.e-item.is c.loop-e-test.true) in
    let next_step : Step c.loop-e.self c.evaluate-in-loop-e.new.self c.call.new.self c.args.head c.loop-e.f c.in-Ok-evaluate.g c.call.result (tree_of c.e-item.result) =
    record {
      grown = c.evaluate-in-loop-e.ensures.grows;
      kept = c.in-Ok-evaluate.ensures.kept;
      again = subst (λ (r : Result Func StepFault). AnswersKept c.loop-e.self c.evaluate-in-loop-e.new.self (tree_of c.e-item.result) r) c.in-Ok-evaluate.is c.evaluate-in-loop-e.ensures.again;
      grows = c.call.ensures.grows;
      job = c.call.ensures.again;
    } in
    let next_kept : KeptSteps c.args.self.now c.call.new.self c.args.head (listed c.args.es.now) c.in-Ok-call.f (listed (drop (c.loop-e.e-index + 1) (later c.args.es.now))) =
    subst (λ (k : ℕ). KeptSteps c.args.self.now c.call.new.self c.args.head (listed c.args.es.now) c.in-Ok-call.f (listed (drop k (later c.args.es.now)))) n
    (steps_push c.args.self.now c.loop-e.self c.evaluate-in-loop-e.new.self c.call.new.self c.args.head (listed c.args.es.now) c.loop-e.f c.in-Ok-evaluate.g c.in-Ok-call.f c.call.result (tree_of c.e-item.result) (listed (drop (suc c.loop-e.e-index) (later c.args.es.now)))
    (subst (λ (l : Arguments). KeptSteps c.args.self.now c.loop-e.self c.args.head (listed c.args.es.now) c.loop-e.f l) left c.loop-e.invariant.kept)
    next_step c.in-Ok-call.is c.in-Ok-call.ensures.kept) in
    record {
      nesting = counted (state_of c.args.self.now) c.args.head (listed c.args.es.now) c.call.new.self.pkg c.in-Ok-call.f (later c.args.es.now) c.loop-e.e-index
          (nesting_step (state_of c.args.self.now) c.args.head (listed c.args.es.now) c.evaluate-in-loop-e.new.self.pkg c.call.new.self.pkg c.loop-e.f c.in-Ok-evaluate.g c.in-Ok-call.f (tree_of c.e-item.result) (listed (drop (suc c.loop-e.e-index) (later c.args.es.now))) turn.nesting turn.built
          c.in-Ok-call.ensures.calls);
      kept = next_kept;
      grows = grown_on c.args.self.now c.loop-e.self c.call.new.self c.loop-e.invariant.grows (grown_on c.loop-e.self c.evaluate-in-loop-e.new.self c.call.new.self c.evaluate-in-loop-e.ensures.grows c.call.ensures.grows);
    }

pub evaluate_nested-returns-clause-built : goal.evaluate_nested-returns-clause-built
evaluate_nested-returns-clause-built t c =
    ends (state_of c.args.self.now) c.args.head (listed c.args.es.now) c.loop-e.self.pkg c.loop-e.f (later c.args.es.now) c.loop-e.e-index c.loop-e.invariant.nesting c.loop-e-test.false

pub evaluate_nested-returns-clause-grows : goal.evaluate_nested-returns-clause-grows
evaluate_nested-returns-clause-grows t c =
    c.loop-e.invariant.grows

pub evaluate_call-returns-in-Err-clause-again : goal.evaluate_call-returns-in-Err-clause-again
evaluate_call-returns-in-Err-clause-again t c =
    subst (λ (u : Tree). AnswersKept c.args.self.now c.evaluate.new.self u (Err c.in-Err.fault)) (sym c.requires.is_call)
    (front_fails c.args.self.now c.loop-place.self c.evaluate.new.self c.args.head (arguments_of (tree_of c.args.expr.now)) c.loop-place.args.items c.loop-place.place (tree_of c.in-Expr.e.now) c.in-Err.fault
    c.loop-place.invariant.kept c.in-Expr.ensures
    (subst (λ (r : Result Func StepFault). AnswersKept c.loop-place.self c.evaluate.new.self (tree_of c.in-Expr.e.now) r) c.in-Err.is c.evaluate.ensures.again))

pub evaluate_call-returns-in-Err-position-clause-again : goal.evaluate_call-returns-in-Err-position-clause-again
evaluate_call-returns-in-Err-position-clause-again t c f k =
    absurd (none-some _
    (sym (next-placed (state_of c.args.self.now) c.args.head (arguments_of (tree_of c.args.expr.now)) c.loop-place.self.pkg c.loop-place.args.items c.loop-place.place (atom_of c.in-Var.var) c.loop-place.invariant.gathered c.in-Var.ensures)
    ∙ ap (λ u. walk_atom u (atom_of c.in-Var.var)) (sym c.loop-place.invariant.grows.state) ∙ c.in-Err-position.ensures.refused))

pub evaluate_call-returns-in_err-push-clause-again : goal.evaluate_call-returns-in_err-push-clause-again
evaluate_call-returns-in_err-push-clause-again t c f k =
    let start = c.args.self.now in
    let all = arguments_of (tree_of c.args.expr.now) in
    let before = c.loop-place.self in
    let front = c.loop-place.invariant.kept in
    let items = c.loop-place.args.items in
    let place = c.loop-place.place in
    let now = c.match-argument.self in
    let v = c.match-argument.value in
    let pushed : KeptFront start now c.args.head all (items ++ v ∷ []) (place + 1) = elim c.match-argument.branch [
      | evaluate_call-in-Expr+in-Ok w ↦
          front_function start before w.evaluate.new.self now c.args.head all items place (tree_of w.in-Expr.e.now) w.in-Ok.f v front w.in-Expr.ensures w.evaluate.ensures.grows w.in-Ok.ensures.kept
          (subst (λ (r : Result Func StepFault). AnswersKept before w.evaluate.new.self (tree_of w.in-Expr.e.now) r) w.in-Ok.is w.evaluate.ensures.again) w.self-is w.value-is
      | evaluate_call-in-Var+in-Ok-position w ↦
          (let fits : SFits w128 w.in-Ok-position.i = search rules in
          front_atom start before now c.args.head all items place (atom_of w.in-Var.var) (value.Position w.in-Ok-position.i) v front w.in-Var.ensures
          (position_value (state_of before) (atom_of w.in-Var.var) w.in-Ok-position.i w.in-Ok-position.ensures.position) w.self-is (w.value-is ∙ ap value.Position (to_z-of_z w128 w.in-Ok-position.i fits)))
      | evaluate_call-in-Number w ↦
          (let fits : SFits w128 w.in-Number.n = search rules in
          front_atom start before now c.args.head all items place (tree.Number w.in-Number.n) (value.Number w.in-Number.n) v front w.in-Number.ensures
          (number_value (state_of before) (tree.Number w.in-Number.n) w.in-Number.n refl) w.self-is (w.value-is ∙ ap value.Number (to_z-of_z w128 w.in-Number.n fits)))
    ] in
    let same = (pushed.again f (subst (λ (u : Tree). IsKept c.args.self.now u f) c.requires.is_call k)).0 in
    no_memory c.args.self.now now f c.from_residual.result same c.from_residual.ensures.1

pub evaluate_call-returns-clause-kept : goal.evaluate_call-returns-clause-kept
evaluate_call-returns-clause-kept t c =
    let all = arguments_of (tree_of c.args.expr.now) in
    IfOk-weaker c.call.result _ _
    (λ f k. subst (λ (u : Tree). IsKept c.call.new.self u f) (sym c.requires.is_call)
    (front_call c.args.self.now c.loop-place.self c.call.new.self c.args.head all c.deref.result.now c.loop-place.place f c.requires.one
    (subst (λ (l : List Value). KeptFront c.args.self.now c.loop-place.self c.args.head all l c.loop-place.place) (sym c.deref.ensures.value) c.loop-place.invariant.kept)
    (omega (arith, c.loop-place-test.false, c.loop-place.auto.place-end, c.arity-place-end.ensures)) c.call.ensures.grows k))
    c.call.ensures.kept

pub evaluate_call-returns-clause-again : goal.evaluate_call-returns-clause-again
evaluate_call-returns-clause-again t c =
    let all = arguments_of (tree_of c.args.expr.now) in
    subst (λ (u : Tree). AnswersKept c.args.self.now c.call.new.self u c.call.result) (sym c.requires.is_call)
    (front_answers c.args.self.now c.loop-place.self c.call.new.self c.args.head all c.deref.result.now c.loop-place.place c.call.result
    (subst (λ (l : List Value). KeptFront c.args.self.now c.loop-place.self c.args.head all l c.loop-place.place) (sym c.deref.ensures.value) c.loop-place.invariant.kept)
    (omega (arith, c.loop-place-test.false, c.loop-place.auto.place-end, c.arity-place-end.ensures)) c.call.ensures.again)

pub evaluate_nested-returns-in-Err-clause-again : goal.evaluate_nested-returns-in-Err-clause-again
evaluate_nested-returns-in-Err-clause-again t c =
    let split = ap listed (first_and_later c.args.es.now c.index-es-0.result c.index-es-0.is (nested_long c.args.head c.args.es.now c.requires.nested c.requires.formed.0)) in
    subst (λ (all : Arguments). AnswersKept c.args.self.now c.evaluate.new.self (Call c.args.head all) (Err c.in-Err.fault)) (sym split)
    (begin_fails c.args.self.now c.evaluate.new.self c.args.head (tree_of c.index-es-0.result) (listed (later c.args.es.now)) c.in-Err.fault c.requires.nested
    (subst (λ (r : Result Func StepFault). AnswersKept c.args.self.now c.evaluate.new.self (tree_of c.index-es-0.result) r) c.in-Err.is c.evaluate.ensures.again))

pub evaluate_nested-returns-in-Err-evaluate-clause-again : goal.evaluate_nested-returns-in-Err-evaluate-clause-again
evaluate_nested-returns-in-Err-evaluate-clause-again t c =
    let left = ap listed (next_of (later c.args.es.now) c.loop-e.e-index c.e-item.result c.e-item.is c.loop-e-test.true) in
    kept_fails c.args.self.now c.loop-e.self c.evaluate-in-loop-e.new.self c.args.head (listed c.args.es.now) c.loop-e.f (tree_of c.e-item.result) (listed (drop (suc c.loop-e.e-index) (later c.args.es.now))) c.in-Err-evaluate.fault
    (subst (λ (l : Arguments). KeptSteps c.args.self.now c.loop-e.self c.args.head (listed c.args.es.now) c.loop-e.f l) left c.loop-e.invariant.kept)
    (subst (λ (r : Result Func StepFault). AnswersKept c.loop-e.self c.evaluate-in-loop-e.new.self (tree_of c.e-item.result) r) c.in-Err-evaluate.is c.evaluate-in-loop-e.ensures.again)

pub evaluate_nested-returns-in-Err-call-clause-again : goal.evaluate_nested-returns-in-Err-call-clause-again
evaluate_nested-returns-in-Err-call-clause-again t c =
    let next_step : Step c.loop-e.self c.evaluate-in-loop-e.new.self c.call.new.self c.args.head c.loop-e.f c.in-Ok-evaluate.g c.call.result (tree_of c.e-item.result) =
    record {
      grown = c.evaluate-in-loop-e.ensures.grows;
      kept = c.in-Ok-evaluate.ensures.kept;
      again = subst (λ (r : Result Func StepFault). AnswersKept c.loop-e.self c.evaluate-in-loop-e.new.self (tree_of c.e-item.result) r) c.in-Ok-evaluate.is c.evaluate-in-loop-e.ensures.again;
      grows = c.call.ensures.grows;
      job = c.call.ensures.again;
    } in
    let left = ap listed (next_of (later c.args.es.now) c.loop-e.e-index c.e-item.result c.e-item.is c.loop-e-test.true) in
    job_fails c.args.self.now c.loop-e.self c.evaluate-in-loop-e.new.self c.call.new.self c.args.head (listed c.args.es.now) c.loop-e.f c.in-Ok-evaluate.g c.call.result c.in-Err-call.fault (tree_of c.e-item.result) (listed (drop (suc c.loop-e.e-index) (later c.args.es.now)))
    (subst (λ (l : Arguments). KeptSteps c.args.self.now c.loop-e.self c.args.head (listed c.args.es.now) c.loop-e.f l) left c.loop-e.invariant.kept)
    next_step c.in-Err-call.is

pub evaluate_nested-returns-clause-kept : goal.evaluate_nested-returns-clause-kept
evaluate_nested-returns-clause-kept t c =
    let ended : KeptSteps c.args.self.now c.loop-e.self c.args.head (listed c.args.es.now) c.loop-e.f none =
    subst (λ (l : Arguments). KeptSteps c.args.self.now c.loop-e.self c.args.head (listed c.args.es.now) c.loop-e.f l) (ap listed (none_left (later c.args.es.now) c.loop-e.e-index c.loop-e-test.false)) c.loop-e.invariant.kept in
    (steps_end c.args.self.now c.loop-e.self c.args.head (listed c.args.es.now) c.loop-e.f ended).0

pub evaluate_nested-returns-clause-again : goal.evaluate_nested-returns-clause-again
evaluate_nested-returns-clause-again t c =
    let ended : KeptSteps c.args.self.now c.loop-e.self c.args.head (listed c.args.es.now) c.loop-e.f none =
    subst (λ (l : Arguments). KeptSteps c.args.self.now c.loop-e.self c.args.head (listed c.args.es.now) c.loop-e.f l) (ap listed (none_left (later c.args.es.now) c.loop-e.e-index c.loop-e-test.false)) c.loop-e.invariant.kept in
    (steps_end c.args.self.now c.loop-e.self c.args.head (listed c.args.es.now) c.loop-e.f ended).1

pub evaluate-returns-in-Num-clause-again : goal.evaluate-returns-in-Num-clause-again
evaluate-returns-in-Num-clause-again t c =
    let fits : SFits w128 c.in-Num.n = search rules in
    subst (λ (u : Tree). AnswersKept c.args.self.now c.number.new.self u c.number.result) (ap Num (to_z-of_z w128 c.in-Num.n fits) ∙ sym c.in-Num.ensures) c.number.ensures.again

pub evaluate-returns-in-At-clause-again : goal.evaluate-returns-in-At-clause-again
evaluate-returns-in-At-clause-again t c =
    let fits : SFits w128 c.in-At.position = search rules in
    subst (λ (u : Tree). AnswersKept c.args.self.now c.bit.new.self u c.bit.result) (ap At (to_z-of_z w128 c.in-At.position fits) ∙ sym c.in-At.ensures) c.bit.ensures.again

pub evaluate-returns-in-Nested-clause-again : goal.evaluate-returns-in-Nested-clause-again
evaluate-returns-in-Nested-clause-again t c =
    subst (λ (u : Tree). AnswersKept c.args.self.now c.evaluate_nested.new.self u c.evaluate_nested.result) (sym (c.in-Nested.ensures.0 ∙ ap (Call c.in-Nested.head) c.in-Nested.ensures.1)) c.evaluate_nested.ensures.again
