use Rattle.std.proofs.Common.{Option, Bor, option_map, sym, ◌∙◌, ap, subst, Contains}
use Rattle.std.specs.Map.Iter.{deref_pair}
use Rattle.cf_pkg.specs.declared.Func.{Func}
use Rattle.cf_pkg.specs.declared.memo.JobKey.{JobKey}
use Rattle.cf_pkg.specs.Memos.{Remembered, task_at, IsAnswer}
use Rattle.cf_pkg.proofs.Keys.{same_key}
use Rattle.cf_pkg.proofs.Memos.{member, entry-answers}
use Rattle.cf_pkg.proofs.memo.Memo.in_slot.Goals as goal

pub returns-then-eq : goal.returns-then-eq
returns-then-eq c =
    let inside : Remembered = record { trees = c.self.inside.trees.items; entries = c.self.inside.jobs.entries } in
    let known = c.in_ok-known.known.now in
    let f = c.in_ok-known.f.now in
    subst (λ (m : Remembered). IsAnswer m (task_at m.trees c.args.key.now) f) c.self.view_is
    (entry-answers inside c.self.invariant c.args.key.now f
    (subst (λ (k : JobKey). Contains inside.entries (k, f))
    (same_key known c.args.key.now (sym c.eq.ensures ∙ c.if-eq.true))
    (member inside.entries c.in_ok-place.field-0.now (known, f)
    (sym c.get_index.ensures.entry
    ∙ ap (λ (o : Option (Bor JobKey × Bor Func)). option_map deref_pair o) c.in_ok-known.was))))
