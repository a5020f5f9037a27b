use Rattle.std.proofs.Common.{MatchOption, ◌∙◌, sym, subst}
use Rattle.cf_pkg.specs.Memos.{Remembered, task_at, IsTold, IsUndone, IsAnswer}
use Rattle.cf_pkg.proofs.Memos.{answered}
use Rattle.cf_pkg.proofs.memo.Memo.get.Goals as goal

pub returns : goal.returns
returns c =
    let inside : Remembered = record { trees = c.self.inside.trees.items; entries = c.self.inside.jobs.entries } in
    let told : IsTold inside.trees c.args.key = subst (λ (m : Remembered). IsTold m.trees c.args.key) (sym c.self.view_is) c.requires in
    subst (λ (m : Remembered). MatchOption c.copied.result (IsUndone m (task_at m.trees c.args.key)) (IsAnswer m (task_at m.trees c.args.key))) c.self.view_is
    (answered inside c.self.invariant c.args.key told c.copied.result (c.copied.ensures ∙ c.get.ensures.value))
