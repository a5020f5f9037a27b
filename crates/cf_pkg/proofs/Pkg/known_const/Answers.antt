use Rattle.std.proofs.Common.{ℤ, IfNone, subst}
use Rattle.std.specs.Int.{w128}
use Rattle.std.proofs.lemmas.Int.{to_z-of_z}
use mir.Val.{to_z, of_z}
use Rattle.cf_pkg.specs.Tasks as task
use Rattle.cf_pkg.specs.Memos.{IsUndone}
use Rattle.cf_pkg.specs.Remembering.{IsDone}
use Rattle.cf_pkg.proofs.Remembering.{none-of}
use Rattle.cf_pkg.proofs.Pkg.known_const.Goals as goal

pub returns-clause-none : goal.returns-clause-none
returns-clause-none c =
    let p = c.args.self.now in
    let level = c.args.level in
    let same = to_z-of_z w128 c.args.v c.ranges.v in
    let v : ℤ = to_z w128 (of_z w128 c.args.v) in
    subst (λ (z : ℤ). IfNone c.finished.result (IsUndone p.memo (task.Const level z))) same
    (none-of c.finished.result (IsUndone p.memo (task.Const level v)) (IsDone p (task.Const level v)) c.finished.ensures)
