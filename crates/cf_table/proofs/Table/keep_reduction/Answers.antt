use Rattle.std.proofs.Common.{List, subst, sym}
use Rattle.cf_table.specs.declared.Gid.{Gid}
use Rattle.cf_table.specs.declared.Classed.{Classed}
use Rattle.cf_table.specs.Groupings.{Groupings, IsReduction}
use Rattle.cf_table.specs.Kept.{shown_levels, Each, KeepsReduction}
use Rattle.cf_table.proofs.Entries.{inserted}
use Rattle.cf_table.proofs.Reductions.{same, follows}
use Rattle.cf_table.proofs.Table.keep_reduction.Goals as goal

pub invariant_of-self-2 : goal.invariant_of-self-2
invariant_of-self-2 c =
    let t = shown_levels c.self.inside.levels c.self.inside.book in
    let k = c.args.key in
    record {
      groupings = c.self.invariant.groupings;
      products = c.self.invariant.products;
      triples = c.self.invariant.triples;
      reductions = subst (λ (es : List (Classed × Gid)). Each (KeepsReduction t) es) (sym c.in_ok-insert.ensures.entries)
          (inserted same (KeepsReduction t) (follows t) c.self.inside.reductions.entries c.self.invariant.reductions k c.args.h
          (subst (λ (t : Groupings). IsReduction t.levels k.grouping k.classes.items c.args.h) (sym c.self.view_is) c.requires));
    }
