use Rattle.cf_circuit.proofs.TruthCases.{shows_never, shows_always}
use Rattle.cf_circuit.proofs.truths.function_of.Goals as goal

pub returns-in-Never-clause-shown : goal.returns-in-Never-clause-shown
returns-in-Never-clause-shown c =
    shows_never c.args.pkg.now c.constant.new.self c.args.level c.args.a c.constant.result c.in-Never.is c.constant.ensures.level c.constant.ensures.means

pub returns-in-Always-clause-shown : goal.returns-in-Always-clause-shown
returns-in-Always-clause-shown c =
    shows_always c.args.pkg.now c.constant-in-Always.new.self c.args.level c.args.a c.constant-in-Always.result c.in-Always.is c.constant-in-Always.ensures.level c.constant-in-Always.ensures.means
