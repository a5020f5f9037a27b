use Rattle.std.proofs.Common.{MatchOption, subst}
use Rattle.cf_pkg.specs.Memos.{task_at, IsUndone}
use Rattle.cf_pkg.specs.Packages.{Package, package_of}
use Rattle.cf_pkg.specs.Remembering.{IsDone}
use Rattle.cf_pkg.proofs.Remembering.{done}
use Rattle.cf_pkg.proofs.Pkg.finished.Goals as goal

pub returns : goal.returns
returns c =
    let inside = package_of c.self.inside.table c.self.inside.values c.self.inside.memo in
    subst (λ (p : Package). MatchOption c.get.result (IsUndone p.memo (task_at p.memo.trees c.args.key)) (IsDone p (task_at p.memo.trees c.args.key))) c.self.view_is
    (done inside c.law.ensures.good c.self.invariant (task_at inside.memo.trees c.args.key) c.get.result c.get.ensures)
