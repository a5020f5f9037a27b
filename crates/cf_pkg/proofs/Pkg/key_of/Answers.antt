use Rattle.std.proofs.Common.{refl, sym, ap, ◌∙◌, subst}
use Rattle.cf_pkg.specs.Packages.{Package, package_of, IsRemembered, Keeps}
use Rattle.cf_pkg.specs.Memos.{Remembered}
use Rattle.cf_pkg.specs.Jobs.{task_of}
use Rattle.cf_pkg.proofs.Remembering.{sound_told, told_keeps}
use Rattle.cf_pkg.proofs.Pkg.key_of.Goals as goal

pub invariant_of-self : goal.invariant_of-self
invariant_of-self c =
    let inside = package_of c.self.inside.table c.self.inside.values c.self.inside.memo in
    sound_told inside (package_of c.self.inside.table c.self.inside.values c.key_of.new.self) (told_keeps inside c.key_of.new.self c.key_of.ensures.entered.jobs) c.key_of.ensures.entered.jobs refl c.self.invariant

pub returns-clause-kept : goal.returns-clause-kept
returns-clause-kept c =
    let inside = package_of c.self.inside.table c.self.inside.values c.self.inside.memo in
    subst (λ (p : Package). Keeps p (package_of c.self.inside.table c.self.inside.values c.key_of.new.self)) c.self.view_is (told_keeps inside c.key_of.new.self c.key_of.ensures.entered.jobs)

pub returns-clause-known : goal.returns-clause-known
returns-clause-known c f h =
    let there = subst (λ (p : Package). IsRemembered p (task_of c.args.job.now) f) (sym c.self.view_is) h in
    ap (λ (m : Remembered). package_of c.self.inside.table c.self.inside.values m) (c.key_of.ensures.known f there) ∙ c.self.view_is

pub returns-clause-answers : goal.returns-clause-answers
returns-clause-answers c f h = c.key_of.ensures.answers f (subst (λ (p : Package). IsRemembered p (task_of c.args.job.now) f) (sym c.self.view_is) h)
