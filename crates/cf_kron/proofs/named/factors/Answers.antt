use Rattle.std.proofs.Common.{◌∙◌, ap}
use Rattle.cf_kron.specs.declared.named.Named.{Named}
use Rattle.cf_kron.specs.Matrices.{named_value}
use Rattle.cf_kron.proofs.NamedMade.{identity_factors, walsh_factors, unit_factors}
use Rattle.cf_kron.proofs.named.factors.Goals as goal

pub returns-in-Identity : goal.returns-in-Identity
returns-in-Identity c bits a = ap (λ (m : Named). named_value m bits) c.in-Identity.is ∙ identity_factors c.args.level c.requires.above bits a

pub returns-in-Walsh : goal.returns-in-Walsh
returns-in-Walsh c bits a = ap (λ (m : Named). named_value m bits) c.in-Walsh.is ∙ walsh_factors c.args.level c.requires.above bits a

pub returns-in-Unit : goal.returns-in-Unit
returns-in-Unit c bits a =
    ap (λ (m : Named). named_value m bits) c.in-Unit.is ∙ unit_factors c.args.level c.indices-size.result c.in-Unit.row c.in-Unit.column c.requires.above c.indices-size.ensures.is bits a
