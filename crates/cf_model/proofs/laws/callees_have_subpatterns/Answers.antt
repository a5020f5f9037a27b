use Rattle.cf_model.proofs.Callees.{a_law, callees_law, returns_law, sub_in}
use Rattle.cf_model.proofs.laws.callees_have_subpatterns.Goals as goal

pub returns : goal.returns
returns c = record { a_callee = a_law; b_callees = callees_law; returns = returns_law; all = sub_in }
