use Rattle.std.proofs.Common.{Option, Bor, option_map, sym, ◌∙◌, ap, subst}
use Rattle.std.specs.Map.Iter.{deref_pair}
use Rattle.cf_ops.specs.Operations.{of_two}
use Rattle.cf_pkg.specs.declared.Func.{Func}
use Rattle.cf_pkg.specs.declared.memo.JobKey.{JobKey}
use Rattle.cf_pkg.specs.Tasks as task
use Rattle.cf_pkg.specs.Memos.{Remembered, task_at, IsAnswer}
use Rattle.cf_pkg.proofs.Memos.{member, entry-answers}
use Rattle.cf_pkg.proofs.memo.Memo.apply_in_slot.Goals as goal

pub returns-then-is_apply : goal.returns-then-is_apply
returns-then-is_apply c =
    let inside : Remembered = record { trees = c.self.inside.trees.items; entries = c.self.inside.jobs.entries } in
    let known = c.in_ok-known.known.now in
    let f = c.in_ok-known.r.now in
    subst (λ (m : Remembered). IsAnswer m (task.Apply (of_two c.args.word) c.args.f c.args.g) f) c.self.view_is
    (subst (λ (k : JobKey). IsAnswer inside (task_at inside.trees k) f) (c.is_apply.ensures c.if-is_apply.true)
    (entry-answers inside c.self.invariant known f
    (member inside.entries c.in_ok-place.field-0.now (known, f)
    (sym c.get_index.ensures.entry
    ∙ ap (λ (o : Option (Bor JobKey × Bor Func)). option_map deref_pair o) c.in_ok-known.was))))
