use Rattle.std.proofs.Common.{rules, refl, ap, ◌∙◌, Ok}
use Rattle.std.specs.Prelude.{nat_abs}
use mir.Val.{SFits}
use Rattle.std.specs.Int.{w128}
use Rattle.std.proofs.lemmas.Int.{to_z-of_z}
use Rattle.cf_reference.specs.declared.grammar.Head.TheVariants.{Restrict}
use Rattle.cf_session.proofs.Growth.{held, grown_from, flat}
use Rattle.cf_session.proofs.Jobs.{calls_told}
use Rattle.cf_model.specs.Terms.{is_true}
use Rattle.cf_session.proofs.Kept.{job_answered, again_ok, again_err}
use Rattle.cf_session.proofs.VariableLaws.{restrict_calls}
use Rattle.cf_session.proofs.OverFacts.{restrict_values, restrict_is}
use Rattle.cf_session.proofs.session.Session.restrict.Goals as goal

pub invariant_of-self : goal.invariant_of-self
invariant_of-self c = held _ _ c.self.invariant c.restrict.ensures.kept

pub returns-in_err-r-clause-grows : goal.returns-in_err-r-clause-grows
returns-in_err-r-clause-grows c = grown_from _ _ _ c.self.view_is c.self.invariant c.restrict.ensures.kept

pub invariant_of-self-2 : goal.invariant_of-self-2
invariant_of-self-2 c = held _ _ c.self.invariant c.restrict.ensures.kept

pub returns-clause-grows : goal.returns-clause-grows
returns-clause-grows c = grown_from _ _ _ c.self.view_is c.self.invariant c.restrict.ensures.kept

pub returns-clause-calls : goal.returns-clause-calls
returns-clause-calls c =
    let f = c.function_position_bit-i.result.0 in
    let j = c.function_position_bit-i.result.1 in
    let fits : SFits w128 c.function_position_bit-i.result.1 = search rules in
    let same = c.unsigned_abs-i.ensures.value ∙ ap nat_abs (to_z-of_z w128 j fits) in
    let n = c.function_position_bit-i.result.2 in
    let n_fits : SFits w128 c.function_position_bit-i.result.2 = search rules in
    let bit = c.is_set.ensures ∙ ap is_true (to_z-of_z w128 n n_fits) in
    calls_told Restrict Restrict c.args.args.now _ c.args.self.now.pkg c.restrict.new.pkg c.in_ok-r.r refl c.function_position_bit-i.ensures
    (restrict_calls c.args.self.now.pkg c.restrict.new.pkg f c.in_ok-r.r j n
    (restrict_values _ _ c.self.view_is c.restrict.new.pkg f c.in_ok-r.r _ (nat_abs j) _ (is_true n) same bit c.in_ok-r.ensures.values)
    (flat c.restrict.new.pkg c.in_ok-r.r c.law.ensures.good c.law.ensures.level c.law.ensures.function))

pub returns-in_err-r-clause-again : goal.returns-in_err-r-clause-again
returns-in_err-r-clause-again c =
    let f = c.function_position_bit-i.result.0 in
    let j = c.function_position_bit-i.result.1 in
    let fits : SFits w128 c.function_position_bit-i.result.1 = search rules in
    let same = c.unsigned_abs-i.ensures.value ∙ ap nat_abs (to_z-of_z w128 j fits) in
    let n = c.function_position_bit-i.result.2 in
    let n_fits : SFits w128 c.function_position_bit-i.result.2 = search rules in
    let bit = c.is_set.ensures ∙ ap is_true (to_z-of_z w128 n n_fits) in
    job_answered c.args.self.now _ Restrict Restrict c.args.args.now _ _ _ c.from_residual.result refl c.function_position_bit-i.ensures refl (restrict_is f _ (nat_abs j) _ (is_true n) same bit)
    (grown_from _ _ _ c.self.view_is c.self.invariant c.restrict.ensures.kept) (again_err _ _ c.self.view_is _ _ _ _ _ c.in_err-r.was c.restrict.ensures.finished)

pub returns-clause-again : goal.returns-clause-again
returns-clause-again c =
    let f = c.function_position_bit-i.result.0 in
    let j = c.function_position_bit-i.result.1 in
    let fits : SFits w128 c.function_position_bit-i.result.1 = search rules in
    let same = c.unsigned_abs-i.ensures.value ∙ ap nat_abs (to_z-of_z w128 j fits) in
    let n = c.function_position_bit-i.result.2 in
    let n_fits : SFits w128 c.function_position_bit-i.result.2 = search rules in
    let bit = c.is_set.ensures ∙ ap is_true (to_z-of_z w128 n n_fits) in
    job_answered c.args.self.now _ Restrict Restrict c.args.args.now _ _ _ (Ok c.in_ok-r.r) refl c.function_position_bit-i.ensures refl (restrict_is f _ (nat_abs j) _ (is_true n) same bit)
    (grown_from _ _ _ c.self.view_is c.self.invariant c.restrict.ensures.kept) (again_ok _ _ c.self.view_is _ _ _ _ _ c.in_ok-r.was refl c.restrict.ensures.finished)
