use Rattle.std.proofs.Common.{◌≡◌, ◌↔◌, IsTrue, ap, rules}
use Rattle.cf_model.specs.FlatFunctions.{value_at}
use Rattle.cf_pkg.specs.declared.Func.{Func}
use Rattle.cf_pkg.specs.Packages.{meaning}
use Rattle.cf_pkg.proofs.Meanings.{Known, agreeing}
use Rattle.cf_pkg.proofs.Pkg.same.Goals as goal

pub returns-clause-agree : goal.returns-clause-agree
returns-clause-agree c =
    let p = c.args.self.now in
    let known_f : Known p c.args.f = record { owned = c.requires.first; good = c.law.ensures.good; level = c.law.ensures.level; once = c.law.ensures.once; function = c.law.ensures.function } in
    let known_g : Known p c.args.g = record { owned = c.requires.second; good = c.law.ensures.good; level = c.law-2.ensures.level; once = c.law.ensures.once; function = c.law-2.ensures.function } in
    let one : IsTrue c.eq.result ↔ (c.args.f ≡ c.args.g) = search rules in (
      λ h bits assigns. ap (λ (x : Func). value_at (meaning p x) bits) (one.0 h),
      λ agree. one.1 (agreeing p c.args.f c.args.g known_f known_g c.requires.level agree),
    )
