use Rattle.std.proofs.Common.{subst, ◌∙◌, IfSome}
use Rattle.cf_table.specs.Groupings.{Groupings, IsReduction}
use Rattle.cf_table.specs.Kept.{shown_levels, KeepsReduction}
use Rattle.cf_table.proofs.Entries.{found}
use Rattle.cf_table.proofs.Reductions.{same, follows}
use Rattle.cf_table.proofs.Table.reduction_of.Goals as goal

pub returns : goal.returns
returns c =
    let t = shown_levels c.self.inside.levels c.self.inside.book in
    let k = c.args.key.now in
    subst (λ (t : Groupings). IfSome c.copied.result (λ h. IsReduction t.levels k.grouping k.classes.items h)) c.self.view_is
    (found same (KeepsReduction t) (follows t) c.self.inside.reductions.entries c.self.invariant.reductions k c.copied.result (c.copied.ensures ∙ c.get.ensures.value))
