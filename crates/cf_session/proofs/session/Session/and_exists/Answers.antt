use Rattle.std.proofs.Common.{List, refl, sym, subst, ◌∙◌}
use Rattle.cf_pkg.specs.Packages.{Package}
use Rattle.cf_reference.specs.declared.grammar.Head.TheVariants.{AndExists}
use Rattle.cf_restrict.specs.Quantified.{AreVariables, IsJoined}
use Rattle.cf_session.specs.declared.values.Value.{Value}
use Rattle.cf_session.specs.Values.{AreOwned, places_of}
use Rattle.cf_session.proofs.Growth.{held, grown_from, flat}
use Rattle.cf_session.proofs.Jobs.{calls_told}
use Rattle.cf_session.proofs.VariableLaws.{joined_calls}
use Rattle.cf_session.proofs.OverFacts.{over_ok, joined_low, all_low, some_variables, joined_values, joined_known}
use Rattle.cf_session.proofs.session.Session.and_exists.Goals as goal

pub positions-requires-clause-low : goal.positions-requires-clause-low
positions-requires-clause-low c =
    let p = c.args.self.now.pkg in
    let f = c.two_functions_and_variables.result.0 in
    let g = c.two_functions_and_variables.result.1 in
    let vs = c.two_functions_and_variables.result.2.now in
    let owned = subst (λ (l : List Value). AreOwned p l) c.two_functions_and_variables.ensures.first c.requires.owned in
    all_low f.head.level (places_of vs) owned.0.1.level_in (joined_low p c.args.args.now vs f g c.two_functions_and_variables.ensures.first c.requires.ruled)

pub and_exists-requires-clause-variables : goal.and_exists-requires-clause-variables
and_exists-requires-clause-variables c =
    let p = c.args.self.now.pkg in
    let f = c.two_functions_and_variables.result.0 in
    let g = c.two_functions_and_variables.result.1 in
    let vs = c.two_functions_and_variables.result.2.now in
    subst (AreVariables f.head.level) (sym (c.as_slice.ensures.value ∙ c.in_ok-vars.ensures))
    (some_variables f.head.level vs c.two_functions_and_variables.ensures.variables (joined_low p c.args.args.now vs f g c.two_functions_and_variables.ensures.first c.requires.ruled))

pub invariant_of-self : goal.invariant_of-self
invariant_of-self c = held _ _ c.self.invariant c.and_exists.ensures.kept

pub returns-in_err-r-clause-grows : goal.returns-in_err-r-clause-grows
returns-in_err-r-clause-grows c = grown_from _ _ _ c.self.view_is c.self.invariant c.and_exists.ensures.kept

pub invariant_of-self-2 : goal.invariant_of-self-2
invariant_of-self-2 c = held _ _ c.self.invariant c.and_exists.ensures.kept

pub returns-clause-grows : goal.returns-clause-grows
returns-clause-grows c = grown_from _ _ _ c.self.view_is c.self.invariant c.and_exists.ensures.kept

pub returns-clause-calls : goal.returns-clause-calls
returns-clause-calls c =
    let f = c.two_functions_and_variables.result.0 in
    let g = c.two_functions_and_variables.result.1 in
    let vs = c.two_functions_and_variables.result.2.now in
    calls_told AndExists AndExists c.args.args.now _ c.args.self.now.pkg c.and_exists.new.pkg c.in_ok-r.r refl c.two_functions_and_variables.ensures.first
    (joined_calls c.args.self.now.pkg c.and_exists.new.pkg f g c.in_ok-r.r vs
    (joined_values _ _ c.self.view_is c.and_exists.new.pkg f g c.in_ok-r.r c.as_slice.result.now (places_of vs) (c.as_slice.ensures.value ∙ c.in_ok-vars.ensures) c.in_ok-r.ensures.values)
    (flat c.and_exists.new.pkg c.in_ok-r.r c.law.ensures.good c.law.ensures.level c.law.ensures.function))

pub returns-clause-again : goal.returns-clause-again
returns-clause-again c r k =
    let f = c.two_functions_and_variables.result.0 in
    let g = c.two_functions_and_variables.result.1 in
    let vs = c.two_functions_and_variables.result.2.now in
    let known = joined_known c.args.self.now.pkg c.args.args.now vs f g r c.as_slice.result.now c.two_functions_and_variables.ensures.first (c.as_slice.ensures.value ∙ c.in_ok-vars.ensures) k in
    over_ok _ _ c.self.view_is _ c.self.invariant c.and_exists.ensures.kept (λ (p : Package). IsJoined p f g c.as_slice.result.now) c.and_exists.result c.in_ok-r.r c.in_ok-r.was c.and_exists.ensures.again r known
