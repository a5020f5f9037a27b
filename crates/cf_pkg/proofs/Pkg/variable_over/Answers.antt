use Rattle.std.proofs.Common.{IfOk, refl, subst}
use Rattle.cf_values.proofs.BookLaws.{Lengthens-same}
use Rattle.cf_pair.specs.Products.{AddsPartsOf}
use Rattle.cf_pkg.specs.Packages.{Package, Keeps}
use Rattle.cf_pkg.proofs.Keeping.{keeps}
use Rattle.cf_pkg.proofs.Remembering.{sound_above}
use Rattle.cf_pkg.proofs.Pkg.variable_over.Goals as goal

pub invariant_of-self : goal.invariant_of-self
invariant_of-self c = sound_above c.self.inside.table c.variable_above.new.table c.self.inside.values c.self.inside.memo c.law.ensures.good c.variable_above.ensures.extends c.variable_above.ensures.longer c.self.invariant

pub returns-clause-kept : goal.returns-clause-kept
returns-clause-kept c =
    let before : Package = record { groupings = c.self.inside.table; lists = c.self.inside.values; memo = c.self.inside.memo } in
    let now : Package = record { groupings = c.variable_above.new.table; lists = c.self.inside.values; memo = c.self.inside.memo } in
    subst (λ (p : Package). Keeps p now) c.self.view_is (keeps before now c.law.ensures.good c.variable_above.ensures.extends c.variable_above.ensures.longer (Lengthens-same c.self.inside.values c.self.inside.values refl) refl)

pub returns-clause-added : goal.returns-clause-added
returns-clause-added c =
    subst (λ (p : Package). IfOk c.variable_above.result (AddsPartsOf p.groupings c.variable_above.new.table)) c.self.view_is c.variable_above.ensures.added
