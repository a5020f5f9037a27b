use Rattle.std.proofs.Common.{suc, map, subst, IfOk}
use Rattle.cf_model.specs.Diagrams.{pattern}
use Rattle.cf_build.specs.Assembling.{Rowed, HasCanon, row_of, labels_over}
use Rattle.cf_build.proofs.assemble.Goals as goal

pub returns-clause-assembled : goal.returns-clause-assembled
returns-clause-assembled g c =
    subst (λ (s : Rowed _). IfOk c.assemble_rows.result (λ r. HasCanon c.assemble_rows.new.table.levels r.0 (suc c.args.a.level) (labels_over (pattern c.args.table.now.levels c.args.a.level) c.args.a.at (map row_of s.rows)) r.1.items))
    c.in_ok-rows.ensures c.assemble_rows.ensures.assembled
