use Rattle.std.proofs.Common.{List, sym, subst}
use Rattle.cf_build.specs.Joining.{ArePlaced}
use Rattle.cf_build.specs.declared.rows.Row.{Row}
use Rattle.cf_build.proofs.Rowing.{placed}
use Rattle.cf_build.proofs.rows.Rows.places.Goals as goal

pub returns : goal.returns
returns g c =
    let rows = c.args.self.now.rows in
    subst (λ (v : List Row). ArePlaced rows v c.as_slice-2.result.now) (sym c.as_slice.ensures)
    (subst (λ (v : List _). ArePlaced rows c.self.inside.rows.items v) (sym c.as_slice-2.ensures.value)
    (placed c.self.inside.rows.items c.self.inside.labels.items c.self.inside.start c.args.self.now c.self.invariant c.self.view_is c.requires))
