use Rattle.std.proofs.Common.{List, ◌∷◌, refl, sym, subst, ◌∙◌, Some}
use Rattle.cf_reference.specs.declared.grammar.Head.TheVariants.{SumOut}
use Rattle.cf_session.proofs.Growth.{held, grown_from, flat}
use Rattle.cf_session.proofs.Jobs.{calls_told, fault_told}
use Rattle.std.proofs.lemmas.Result.{IfErr-weaker}
use Rattle.cf_session.specs.declared.values.Value.TheVariants.{Function}
use Rattle.cf_model.specs.declared.terms.Word2.TheVariants.{Plus}
use Rattle.cf_model.specs.Quantified.{over_all}
use Rattle.cf_pkg.specs.Packages.{Package}
use Rattle.cf_restrict.specs.Quantified.{some_value, IsFirstFailing, AreVariables, AreQuantified}
use Rattle.cf_session.specs.declared.values.Value.{Value}
use Rattle.cf_session.specs.Values.{AreOwned, places_of}
use Rattle.cf_session.proofs.VariableLaws.{sum_calls, sum_fails}
use Rattle.cf_session.proofs.OverFacts.{over_ok, over_err, variables_low, all_low, some_variables, over_values, sum_known, kinds_on, fault_is, over_fault}
use Rattle.cf_session.proofs.session.Session.sum_out.Goals as goal

pub positions-requires-clause-low : goal.positions-requires-clause-low
positions-requires-clause-low c =
    let p = c.args.self.now.pkg in
    let f = c.function_and_variables.result.0 in
    let vs = c.function_and_variables.result.1.now in
    let owned = subst (λ (l : List Value). AreOwned c.args.self.now.pkg l) c.function_and_variables.ensures.first c.requires.owned in
    all_low f.head.level (places_of vs) owned.0.1.level_in (variables_low SumOut p c.args.args.now vs f c.function_and_variables.ensures.first c.requires.owned c.requires.ruled)

pub sum_out-requires-clause-variables : goal.sum_out-requires-clause-variables
sum_out-requires-clause-variables c =
    let p = c.args.self.now.pkg in
    let f = c.function_and_variables.result.0 in
    let vs = c.function_and_variables.result.1.now in
    subst (AreVariables f.head.level) (sym (c.as_slice.ensures.value ∙ c.in_ok-vars.ensures))
    (some_variables f.head.level vs c.function_and_variables.ensures.variables
    (variables_low SumOut p c.args.args.now vs f c.function_and_variables.ensures.first c.requires.owned c.requires.ruled))

pub invariant_of-self : goal.invariant_of-self
invariant_of-self c = held _ _ c.self.invariant c.sum_out.ensures.kept

pub returns-in_err-r-clause-grows : goal.returns-in_err-r-clause-grows
returns-in_err-r-clause-grows c = grown_from _ _ _ c.self.view_is c.self.invariant c.sum_out.ensures.kept

pub invariant_of-self-2 : goal.invariant_of-self-2
invariant_of-self-2 c = held _ _ c.self.invariant c.sum_out.ensures.kept

pub returns-clause-grows : goal.returns-clause-grows
returns-clause-grows c = grown_from _ _ _ c.self.view_is c.self.invariant c.sum_out.ensures.kept

pub returns-clause-calls : goal.returns-clause-calls
returns-clause-calls c =
    let f = c.function_and_variables.result.0 in
    let vs = c.function_and_variables.result.1.now in
    let owned = subst (λ (l : List Value). AreOwned c.args.self.now.pkg l) c.function_and_variables.ensures.first c.requires.owned in
    calls_told SumOut SumOut c.args.args.now _ c.args.self.now.pkg c.sum_out.new.pkg c.in_ok-r.r refl c.function_and_variables.ensures.first
    (sum_calls c.args.self.now.pkg c.sum_out.new.pkg f c.in_ok-r.r vs owned.0.1 (kinds_on vs c.function_and_variables.ensures.variables)
    (over_values _ _ c.self.view_is c.sum_out.new.pkg f c.in_ok-r.r c.as_slice.result.now (places_of vs) (λ x vars bits. over_all Plus (λ b. Some (x b)) vars bits) (c.as_slice.ensures.value ∙ c.in_ok-vars.ensures) c.in_ok-r.ensures.values)
    (flat c.sum_out.new.pkg c.in_ok-r.r c.law.ensures.good c.law.ensures.level c.law.ensures.function))

pub returns-clause-again : goal.returns-clause-again
returns-clause-again c g k =
    let f = c.function_and_variables.result.0 in
    let vs = c.function_and_variables.result.1.now in
    let known = sum_known c.args.self.now.pkg c.args.args.now vs f g c.as_slice.result.now c.function_and_variables.ensures.first (c.as_slice.ensures.value ∙ c.in_ok-vars.ensures) k in
    over_ok _ _ c.self.view_is _ c.self.invariant c.sum_out.ensures.kept (λ (p : Package). AreQuantified p Plus f c.as_slice.result.now) c.sum_out.result c.in_ok-r.r c.in_ok-r.was c.sum_out.ensures.again g known

pub returns-in_err-r-clause-again : goal.returns-in_err-r-clause-again
returns-in_err-r-clause-again c g k =
    let f = c.function_and_variables.result.0 in
    let vs = c.function_and_variables.result.1.now in
    let known = sum_known c.args.self.now.pkg c.args.args.now vs f g c.as_slice.result.now c.function_and_variables.ensures.first (c.as_slice.ensures.value ∙ c.in_ok-vars.ensures) k in
    absurd (over_err _ _ c.self.view_is _ (λ (p : Package). AreQuantified p Plus f c.as_slice.result.now) c.sum_out.result _ c.in_err-r.was c.sum_out.ensures.again g known)

pub returns-in_err-r-clause-fault : goal.returns-in_err-r-clause-fault
returns-in_err-r-clause-fault c =
    let p = c.args.self.now.pkg in
    let f = c.function_and_variables.result.0 in
    let vs = c.function_and_variables.result.1.now in
    let owned = subst (λ (l : List Value). AreOwned p l) c.function_and_variables.ensures.first c.requires.owned in
    IfErr-weaker c.from_residual-in_err-r.result _ _
    (λ fault h. fault_told SumOut SumOut c.args.args.now (Function f ∷ vs) p fault refl c.function_and_variables.ensures.first
    (sum_fails p f vs owned.0.1 (kinds_on vs c.function_and_variables.ensures.variables) fault
    (over_fault _ _ c.self.view_is f c.as_slice.result.now (places_of vs) (c.as_slice.ensures.value ∙ c.in_ok-vars.ensures) fault h)))
    (fault_is (IsFirstFailing f.head.level Plus (some_value c.self.inside.pkg f) c.as_slice.result.now) c.sum_out.result _ c.from_residual-in_err-r.result c.in_err-r.was c.sum_out.ensures.overflow c.from_residual-in_err-r.ensures.1)
