use Rattle.std.proofs.Common.{subst}
use Rattle.cf_pkg.specs.declared.Func.{Func}
use Rattle.cf_pkg.specs.Tasks.{Task}
use Rattle.cf_pkg.specs.Packages.{Package, IsRemembered}
use Rattle.cf_pkg.specs.Jobs.{Finishes}
use Rattle.cf_pkg.proofs.Pkg.finished_law.Goals as goal

pub returns : goal.returns
returns c =
    subst (λ (p : Package). (t : Task) (f : Func) → IsRemembered p t f → Finishes p t f) c.self.view_is
    c.self.invariant.finished
