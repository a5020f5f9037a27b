use Rattle.std.proofs.Common.{rules, refl, ap, sym, subst, ◌≡◌, ◌∙◌, List, [], ◌∷◌, true}
use Rattle.std.specs.Prelude.{nat_abs}
use mir.Val.{SFits}
use Rattle.std.specs.Int.{w128}
use Rattle.std.proofs.lemmas.Int.{to_z-of_z}
use Rattle.std.proofs.lemmas.Result.{IfOk-weaker, IfErr-weaker}
use Rattle.cf_ops.specs.Operations.{of_one, of_two, of_three}
use Rattle.cf_pkg.specs.Tasks as task
use Rattle.cf_reference.specs.declared.grammar.Head.TheVariants.{Const, One, Fold, Ite}
use Rattle.cf_reference.specs.declared.grammar.Head.{Head}
use Rattle.cf_reference.specs.Heads.{signature}
use Rattle.cf_reference.specs.Calls.{call_refusal}
use Rattle.cf_session.specs.Arguments.{is_fold}
use Rattle.cf_session.specs.declared.values.Value.{Value}
use Rattle.cf_session.specs.Values.{meanings, AreOwned, AreOf}
use Rattle.cf_session.specs.Keeping.{AnswersCall}
use Rattle.cf_session.specs.declared.values.Value.TheVariants.{Function, Number}
use Rattle.cf_session.proofs.Leaves.{if_both}
use Rattle.cf_session.proofs.Jobs.{const_calls, one_calls, one_fails, fold_calls, fold_fails, two_level, two_kinds, choice_calls, choice_fails, calls_told, fault_told}
use Rattle.cf_session.proofs.Kept.{const_is, job_kept, job_answered}
use Rattle.cf_session.proofs.session.Session.call.Goals as goal

pub returns-in-Const-clause-calls : goal.returns-in-Const-clause-calls
returns-in-Const-clause-calls c =
    let level = c.two_numbers-level.result.0 in
    let n = c.two_numbers-level.result.1 in
    let level_fits : SFits w128 c.two_numbers-level.result.0 = search rules in
    let n_fits : SFits w128 c.two_numbers-level.result.1 = search rules in
    if_both c.constant.result _ _ _
    (λ r means flat. calls_told c.args.head Const c.args.args.now (Number level ∷ Number n ∷ []) c.args.self.now.pkg c.constant.new.self.pkg r c.in-Const.is c.two_numbers-level.ensures
    (const_calls c.constant.new.self.pkg r c.unsigned_abs.result level n _ (c.unsigned_abs.ensures.value ∙ ap nat_abs (to_z-of_z w128 level level_fits)) (to_z-of_z w128 n n_fits) means flat))
    c.constant.ensures.means c.constant.ensures.flat

pub returns-in-One-clause-calls : goal.returns-in-One-clause-calls
returns-in-One-clause-calls c =
    let f = c.one_function-f.result in
    if_both c.map.result _ _ _
    (λ r values flat. calls_told c.args.head (One c.in-One.word) c.args.args.now (Function f ∷ []) c.args.self.now.pkg c.map.new.self.pkg r c.in-One.is c.one_function-f.ensures
    (one_calls c.in-One.word c.args.self.now.pkg c.map.new.self.pkg f r values flat))
    c.map.ensures.values c.map.ensures.flat

pub returns-in-One-clause-fault : goal.returns-in-One-clause-fault
returns-in-One-clause-fault c =
    let f = c.one_function-f.result in
    IfErr-weaker c.map.result _ _
    (λ fault h. fault_told c.args.head (One c.in-One.word) c.args.args.now (Function f ∷ []) c.args.self.now.pkg fault c.in-One.is c.one_function-f.ensures (one_fails c.in-One.word c.args.self.now.pkg f fault h))
    c.map.ensures.fault

pub two_functions-requires : goal.two_functions-requires
two_functions-requires c =
    let nested : is_fold c.args.head ≡ true = ap is_fold c.in-Fold.is in
    two_kinds c.in-Fold.word c.args.args.now
    (subst (λ (d : Head). AreOf (signature d).first (signature d).further c.args.args.now) c.in-Fold.is c.requires.kinds) (c.requires.pair nested)

pub returns-in-Fold-clause-calls : goal.returns-in-Fold-clause-calls
returns-in-Fold-clause-calls c =
    let f = c.two_functions.result.0 in
    let g = c.two_functions.result.1 in
    if_both c.apply.result _ _ _
    (λ r values flat. calls_told c.args.head (Fold c.in-Fold.word) c.args.args.now (Function f ∷ Function g ∷ []) c.args.self.now.pkg c.apply.new.self.pkg r c.in-Fold.is c.two_functions.ensures
    (fold_calls c.in-Fold.word c.args.self.now.pkg c.apply.new.self.pkg f g r values flat))
    c.apply.ensures.values c.apply.ensures.flat

pub returns-in-Fold-clause-fault : goal.returns-in-Fold-clause-fault
returns-in-Fold-clause-fault c =
    let p = c.args.self.now.pkg in
    let f = c.two_functions.result.0 in
    let g = c.two_functions.result.1 in
    let owned = subst (λ (l : List Value). AreOwned p l) c.two_functions.ensures c.requires.owned in
    let here = ap (λ l. call_refusal (Fold c.in-Fold.word) (meanings p l)) (sym c.two_functions.ensures)
    ∙ ap (λ (d : Head). call_refusal d (meanings p c.args.args.now)) (sym c.in-Fold.is) ∙ c.requires.ruled in
    let level = two_level c.in-Fold.word p f g here in
    IfErr-weaker c.apply.result _ _
    (λ fault e. fault_told c.args.head (Fold c.in-Fold.word) c.args.args.now (Function f ∷ Function g ∷ []) p fault c.in-Fold.is c.two_functions.ensures
    (fold_fails c.in-Fold.word p f g owned.0.1 owned.1.0.1 level fault e))
    c.apply.ensures.fault

pub returns-in-Ite-clause-calls : goal.returns-in-Ite-clause-calls
returns-in-Ite-clause-calls c =
    let f = c.three_functions.result.0 in
    let g = c.three_functions.result.1 in
    let h = c.three_functions.result.2 in
    if_both c.choose.result _ _ _
    (λ r values flat. calls_told c.args.head Ite c.args.args.now (Function f ∷ Function g ∷ Function h ∷ []) c.args.self.now.pkg c.choose.new.self.pkg r c.in-Ite.is c.three_functions.ensures
    (choice_calls c.args.self.now.pkg c.choose.new.self.pkg f g h r values flat))
    c.choose.ensures.values c.choose.ensures.flat

pub returns-in-Ite-clause-fault : goal.returns-in-Ite-clause-fault
returns-in-Ite-clause-fault c =
    let f = c.three_functions.result.0 in
    let g = c.three_functions.result.1 in
    let h = c.three_functions.result.2 in
    IfErr-weaker c.choose.result _ _
    (λ fault e. fault_told c.args.head Ite c.args.args.now (Function f ∷ Function g ∷ Function h ∷ []) c.args.self.now.pkg fault c.in-Ite.is c.three_functions.ensures (choice_fails c.args.self.now.pkg f g h fault e))
    c.choose.ensures.fault

pub returns-in-Const-clause-kept : goal.returns-in-Const-clause-kept
returns-in-Const-clause-kept c =
    let level = c.two_numbers-level.result.0 in
    let n = c.two_numbers-level.result.1 in
    let level_fits : SFits w128 c.two_numbers-level.result.0 = search rules in
    let n_fits : SFits w128 c.two_numbers-level.result.1 = search rules in
    IfOk-weaker c.constant.result _ _
    (λ r k. job_kept c.constant.new.self.pkg c.args.head Const c.args.args.now (Number level ∷ Number n ∷ []) (task.Const (nat_abs level) n) _ r c.in-Const.is c.two_numbers-level.ensures refl
    (const_is c.unsigned_abs.result (nat_abs level) _ n (c.unsigned_abs.ensures.value ∙ ap nat_abs (to_z-of_z w128 level level_fits)) (to_z-of_z w128 n n_fits)) k)
    c.constant.ensures.kept

pub returns-in-Const-clause-again : goal.returns-in-Const-clause-again
returns-in-Const-clause-again c =
    let level = c.two_numbers-level.result.0 in
    let n = c.two_numbers-level.result.1 in
    let level_fits : SFits w128 c.two_numbers-level.result.0 = search rules in
    let n_fits : SFits w128 c.two_numbers-level.result.1 = search rules in
    job_answered c.args.self.now c.constant.new.self c.args.head Const c.args.args.now (Number level ∷ Number n ∷ []) (task.Const (nat_abs level) n) _ c.constant.result c.in-Const.is c.two_numbers-level.ensures refl
    (const_is c.unsigned_abs.result (nat_abs level) _ n (c.unsigned_abs.ensures.value ∙ ap nat_abs (to_z-of_z w128 level level_fits)) (to_z-of_z w128 n n_fits)) c.constant.ensures.grows c.constant.ensures.again

pub returns-in-One-clause-kept : goal.returns-in-One-clause-kept
returns-in-One-clause-kept c =
    let f = c.one_function-f.result in
    IfOk-weaker c.map.result _ _
    (λ r k. job_kept c.map.new.self.pkg c.args.head (One c.in-One.word) c.args.args.now (Function f ∷ []) (task.Map (of_one c.in-One.word) f) (task.Map (of_one c.in-One.word) f) r c.in-One.is c.one_function-f.ensures refl refl k)
    c.map.ensures.kept

pub returns-in-One-clause-again : goal.returns-in-One-clause-again
returns-in-One-clause-again c =
    let f = c.one_function-f.result in
    job_answered c.args.self.now c.map.new.self c.args.head (One c.in-One.word) c.args.args.now (Function f ∷ []) (task.Map (of_one c.in-One.word) f) (task.Map (of_one c.in-One.word) f) c.map.result c.in-One.is c.one_function-f.ensures refl refl
    c.map.ensures.grows c.map.ensures.again

pub returns-in-Fold-clause-kept : goal.returns-in-Fold-clause-kept
returns-in-Fold-clause-kept c =
    let f = c.two_functions.result.0 in
    let g = c.two_functions.result.1 in
    IfOk-weaker c.apply.result _ _
    (λ r k. job_kept c.apply.new.self.pkg c.args.head (Fold c.in-Fold.word) c.args.args.now (Function f ∷ Function g ∷ []) (task.Apply (of_two c.in-Fold.word) f g) (task.Apply (of_two c.in-Fold.word) f g) r c.in-Fold.is c.two_functions.ensures refl refl k)
    c.apply.ensures.kept

pub returns-in-Fold-clause-again : goal.returns-in-Fold-clause-again
returns-in-Fold-clause-again c =
    let f = c.two_functions.result.0 in
    let g = c.two_functions.result.1 in
    job_answered c.args.self.now c.apply.new.self c.args.head (Fold c.in-Fold.word) c.args.args.now (Function f ∷ Function g ∷ []) (task.Apply (of_two c.in-Fold.word) f g) (task.Apply (of_two c.in-Fold.word) f g) c.apply.result c.in-Fold.is c.two_functions.ensures refl refl
    c.apply.ensures.grows c.apply.ensures.again

pub returns-in-Ite-clause-kept : goal.returns-in-Ite-clause-kept
returns-in-Ite-clause-kept c =
    let f = c.three_functions.result.0 in
    let g = c.three_functions.result.1 in
    let h = c.three_functions.result.2 in
    IfOk-weaker c.choose.result _ _
    (λ r k. job_kept c.choose.new.self.pkg c.args.head Ite c.args.args.now (Function f ∷ Function g ∷ Function h ∷ []) (task.Ternary of_three f g h) (task.Ternary of_three f g h) r c.in-Ite.is c.three_functions.ensures refl refl k)
    c.choose.ensures.kept

pub returns-in-Ite-clause-again : goal.returns-in-Ite-clause-again
returns-in-Ite-clause-again c =
    let f = c.three_functions.result.0 in
    let g = c.three_functions.result.1 in
    let h = c.three_functions.result.2 in
    job_answered c.args.self.now c.choose.new.self c.args.head Ite c.args.args.now (Function f ∷ Function g ∷ Function h ∷ []) (task.Ternary of_three f g h) (task.Ternary of_three f g h) c.choose.result c.in-Ite.is c.three_functions.ensures refl refl
    c.choose.ensures.grows c.choose.ensures.again

pub returns-in-Restrict-clause-again : goal.returns-in-Restrict-clause-again
returns-in-Restrict-clause-again c =
    subst (λ (d : Head). AnswersCall c.args.self.now c.restrict.new.self d c.args.args.now c.restrict.result) (sym c.in-Restrict.is) c.restrict.ensures.again

pub returns-in-Kron-clause-again : goal.returns-in-Kron-clause-again
returns-in-Kron-clause-again c =
    subst (λ (d : Head). AnswersCall c.args.self.now c.kron.new.self d c.args.args.now c.kron.result) (sym c.in-Kron.is) c.kron.ensures.again

pub returns-in-Matmul-clause-again : goal.returns-in-Matmul-clause-again
returns-in-Matmul-clause-again c =
    subst (λ (d : Head). AnswersCall c.args.self.now c.matmul.new.self d c.args.args.now c.matmul.result) (sym c.in-Matmul.is) c.matmul.ensures.again

pub returns-in-Transpose-clause-again : goal.returns-in-Transpose-clause-again
returns-in-Transpose-clause-again c =
    subst (λ (d : Head). AnswersCall c.args.self.now c.transpose.new.self d c.args.args.now c.transpose.result) (sym c.in-Transpose.is) c.transpose.ensures.again

pub returns-in-Id-clause-again : goal.returns-in-Id-clause-again
returns-in-Id-clause-again c =
    subst (λ (d : Head). AnswersCall c.args.self.now c.identity.new.self d c.args.args.now c.identity.result) (sym c.in-Id.is) c.identity.ensures.again

pub returns-in-Walsh-clause-again : goal.returns-in-Walsh-clause-again
returns-in-Walsh-clause-again c =
    subst (λ (d : Head). AnswersCall c.args.self.now c.walsh.new.self d c.args.args.now c.walsh.result) (sym c.in-Walsh.is) c.walsh.ensures.again

pub returns-in-Unit-clause-again : goal.returns-in-Unit-clause-again
returns-in-Unit-clause-again c =
    subst (λ (d : Head). AnswersCall c.args.self.now c.unit.new.self d c.args.args.now c.unit.result) (sym c.in-Unit.is) c.unit.ensures.again
