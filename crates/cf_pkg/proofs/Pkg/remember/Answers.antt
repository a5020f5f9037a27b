use Rattle.std.proofs.Common.{sym, subst}
use Rattle.cf_pkg.specs.Memos.{task_at, IsUndone}
use Rattle.cf_pkg.specs.Packages.{Package, package_of}
use Rattle.cf_pkg.specs.Jobs.{Finishes}
use Rattle.cf_pkg.proofs.Remembering.{sound_entered}
use Rattle.cf_pkg.proofs.Pkg.remember.Goals as goal

pub enter-requires-clause-undone : goal.enter-requires-clause-undone
enter-requires-clause-undone c = subst (λ (p : Package). IsUndone p.memo (task_at p.memo.trees c.args.key)) (sym c.self.view_is) c.requires.undone

pub invariant_of-self : goal.invariant_of-self
invariant_of-self c =
    let inside = package_of c.self.inside.table c.self.inside.values c.self.inside.memo in
    sound_entered inside c.self.invariant c.args.key c.args.f (subst (λ (p : Package). Finishes p (task_at p.memo.trees c.args.key) c.args.f) (sym c.self.view_is) c.requires.is_it) c.enter.new.self c.enter.result c.enter.ensures.entered c.enter.ensures.no_memory
