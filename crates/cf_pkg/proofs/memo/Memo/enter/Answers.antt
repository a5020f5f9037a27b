use Rattle.std.proofs.Common.{◌≡◌, [], ◌∷◌, ◌++◌, List, ap, ◌∙◌, sym, subst}
use Rattle.indexmap.proofs.CallerLemmas.{insert_entry-new}
use Rattle.cf_pkg.specs.declared.Func.{Func}
use Rattle.cf_pkg.specs.declared.memo.JobKey.{JobKey}
use Rattle.cf_pkg.specs.Memos.{Remembered, task_at, IsTold, IsUndone, IsMemo, with_entry}
use Rattle.cf_pkg.proofs.Keys.{same}
use Rattle.cf_pkg.proofs.Memos.{entered, not_there}
use Rattle.cf_pkg.proofs.memo.Memo.enter.Goals as goal

abbrev inside : goal.In_ok-insert → Remembered
inside c = record { trees = c.self.inside.trees.items; entries = c.self.inside.jobs.entries }

-- the memo inside is the one that was handed
view : (c : goal.In_ok-insert) → inside c ≡ c.args.self.now
view c = c.self.view_is ∙ c.take_slot.ensures

told : (c : goal.In_ok-insert) → IsTold (inside c).trees c.args.key
told c = subst (λ (m : Remembered). IsTold m.trees c.args.key) (sym (view c)) c.requires.told

undone : (c : goal.In_ok-insert) → IsUndone (inside c) (task_at (inside c).trees c.args.key)
undone c = subst (λ (m : Remembered). IsUndone m (task_at m.trees c.args.key)) (sym (view c)) c.requires.undone

added : (c : goal.In_ok-insert) → c.insert.new.self.entries ≡ (inside c).entries ++ (c.args.key, c.args.f) ∷ []
added c = c.in_ok-insert.ensures.entries ∙ insert_entry-new same c.self.inside.jobs c.args.key c.args.f (not_there (inside c) c.self.invariant c.args.key (told c) (undone c))

pub invariant_of-self-2 : goal.invariant_of-self-2
invariant_of-self-2 c =
    subst (λ (es : List (JobKey × Func)). IsMemo (record { trees = (inside c).trees; entries = es })) (sym (added c)) (entered (inside c) c.self.invariant c.args.key c.args.f (told c) (undone c))

pub returns-clause-entered : goal.returns-clause-entered
returns-clause-entered c =
    ap (λ (es : List (JobKey × Func)). record { trees = (inside c).trees; entries = es }) (added c) ∙ ap (λ (m : Remembered). with_entry m c.args.key c.args.f) (view c)
