use Rattle.std.proofs.Common.{List, refl, sym, subst, ◌∙◌, Some}
use Rattle.cf_reference.specs.declared.grammar.Head.TheVariants.{Exists}
use Rattle.cf_session.proofs.Growth.{held, grown_from, flat}
use Rattle.cf_session.proofs.Jobs.{calls_told}
use Rattle.cf_model.specs.declared.terms.Word2.TheVariants.{Or}
use Rattle.cf_model.specs.Quantified.{some_setting}
use Rattle.cf_pkg.specs.Packages.{Package}
use Rattle.cf_restrict.specs.Quantified.{AreVariables, AreQuantified}
use Rattle.cf_session.specs.declared.values.Value.{Value}
use Rattle.cf_session.specs.Values.{AreOwned, places_of}
use Rattle.cf_session.proofs.VariableLaws.{exists_calls}
use Rattle.cf_session.proofs.OverFacts.{over_ok, over_err, variables_low, all_low, some_variables, over_values, exists_known}
use Rattle.cf_session.proofs.session.Session.exists.Goals as goal

pub positions-requires-clause-low : goal.positions-requires-clause-low
positions-requires-clause-low c =
    let p = c.args.self.now.pkg in
    let f = c.function_and_variables.result.0 in
    let vs = c.function_and_variables.result.1.now in
    let owned = subst (λ (l : List Value). AreOwned c.args.self.now.pkg l) c.function_and_variables.ensures.first c.requires.owned in
    all_low f.head.level (places_of vs) owned.0.1.level_in (variables_low Exists p c.args.args.now vs f c.function_and_variables.ensures.first c.requires.owned c.requires.ruled)

pub exists-requires-clause-variables : goal.exists-requires-clause-variables
exists-requires-clause-variables c =
    let p = c.args.self.now.pkg in
    let f = c.function_and_variables.result.0 in
    let vs = c.function_and_variables.result.1.now in
    subst (AreVariables f.head.level) (sym (c.as_slice.ensures.value ∙ c.in_ok-vars.ensures))
    (some_variables f.head.level vs c.function_and_variables.ensures.variables
    (variables_low Exists p c.args.args.now vs f c.function_and_variables.ensures.first c.requires.owned c.requires.ruled))

pub invariant_of-self : goal.invariant_of-self
invariant_of-self c = held _ _ c.self.invariant c.exists.ensures.kept

pub returns-in_err-r-clause-grows : goal.returns-in_err-r-clause-grows
returns-in_err-r-clause-grows c = grown_from _ _ _ c.self.view_is c.self.invariant c.exists.ensures.kept

pub invariant_of-self-2 : goal.invariant_of-self-2
invariant_of-self-2 c = held _ _ c.self.invariant c.exists.ensures.kept

pub returns-clause-grows : goal.returns-clause-grows
returns-clause-grows c = grown_from _ _ _ c.self.view_is c.self.invariant c.exists.ensures.kept

pub returns-clause-calls : goal.returns-clause-calls
returns-clause-calls c =
    let f = c.function_and_variables.result.0 in
    let vs = c.function_and_variables.result.1.now in
    calls_told Exists Exists c.args.args.now _ c.args.self.now.pkg c.exists.new.pkg c.in_ok-r.r refl c.function_and_variables.ensures.first
    (exists_calls c.args.self.now.pkg c.exists.new.pkg f c.in_ok-r.r vs
    (over_values _ _ c.self.view_is c.exists.new.pkg f c.in_ok-r.r c.as_slice.result.now (places_of vs) (λ x vars bits. Some (some_setting x vars bits)) (c.as_slice.ensures.value ∙ c.in_ok-vars.ensures) c.in_ok-r.ensures.values)
    (flat c.exists.new.pkg c.in_ok-r.r c.law.ensures.good c.law.ensures.level c.law.ensures.function))

pub returns-clause-again : goal.returns-clause-again
returns-clause-again c g k =
    let f = c.function_and_variables.result.0 in
    let vs = c.function_and_variables.result.1.now in
    let known = exists_known c.args.self.now.pkg c.args.args.now vs f g c.as_slice.result.now c.function_and_variables.ensures.first (c.as_slice.ensures.value ∙ c.in_ok-vars.ensures) k in
    over_ok _ _ c.self.view_is _ c.self.invariant c.exists.ensures.kept (λ (p : Package). AreQuantified p Or f c.as_slice.result.now) c.exists.result c.in_ok-r.r c.in_ok-r.was c.exists.ensures.again g known

pub returns-in_err-r-clause-again : goal.returns-in_err-r-clause-again
returns-in_err-r-clause-again c g k =
    let f = c.function_and_variables.result.0 in
    let vs = c.function_and_variables.result.1.now in
    let known = exists_known c.args.self.now.pkg c.args.args.now vs f g c.as_slice.result.now c.function_and_variables.ensures.first (c.as_slice.ensures.value ∙ c.in_ok-vars.ensures) k in
    absurd (over_err _ _ c.self.view_is _ (λ (p : Package). AreQuantified p Or f c.as_slice.result.now) c.exists.result _ c.in_err-r.was c.exists.ensures.again g known)
