use Rattle.std.proofs.Common.{rules, refl, ap, ◌∙◌}
use Rattle.std.specs.Prelude.{nat_abs}
use mir.Val.{SFits}
use Rattle.std.specs.Int.{w128}
use Rattle.std.proofs.lemmas.Int.{to_z-of_z}
use Rattle.cf_reference.specs.declared.grammar.Head.TheVariants.{Compose}
use Rattle.cf_session.proofs.Growth.{held, grown_from, flat}
use Rattle.cf_session.proofs.Jobs.{calls_told}
use Rattle.cf_session.proofs.VariableLaws.{compose_calls}
use Rattle.cf_session.proofs.OverFacts.{compose_values}
use Rattle.cf_session.proofs.session.Session.compose.Goals as goal

pub invariant_of-self : goal.invariant_of-self
invariant_of-self c = held _ _ c.self.invariant c.compose.ensures.kept

pub returns-in_err-r-clause-grows : goal.returns-in_err-r-clause-grows
returns-in_err-r-clause-grows c = grown_from _ _ _ c.self.view_is c.self.invariant c.compose.ensures.kept

pub invariant_of-self-2 : goal.invariant_of-self-2
invariant_of-self-2 c = held _ _ c.self.invariant c.compose.ensures.kept

pub returns-clause-grows : goal.returns-clause-grows
returns-clause-grows c = grown_from _ _ _ c.self.view_is c.self.invariant c.compose.ensures.kept

pub returns-clause-calls : goal.returns-clause-calls
returns-clause-calls c =
    let f = c.function_position_function-i.result.0 in
    let g = c.function_position_function-i.result.2 in
    let j = c.function_position_function-i.result.1 in
    let fits : SFits w128 c.function_position_function-i.result.1 = search rules in
    let same = c.unsigned_abs-i.ensures.value ∙ ap nat_abs (to_z-of_z w128 j fits) in
    calls_told Compose Compose c.args.args.now _ c.args.self.now.pkg c.compose.new.pkg c.in_ok-r.r refl c.function_position_function-i.ensures
    (compose_calls c.args.self.now.pkg c.compose.new.pkg f g c.in_ok-r.r j
    (compose_values _ _ c.self.view_is c.compose.new.pkg f g c.in_ok-r.r _ (nat_abs j) same c.in_ok-r.ensures.values)
    (flat c.compose.new.pkg c.in_ok-r.r c.law.ensures.good c.law.ensures.level c.law.ensures.function))
