use Rattle.cf_build.proofs.Turns.{if_ok}
use Rattle.cf_kron.proofs.Words.{two_rows}
use Rattle.cf_kron.proofs.TransposeLaws.{base_made}
use Rattle.cf_kron.proofs.transposition.transpose_base.Goals as goal

pub returns-clause-transposed : goal.returns-clause-transposed
returns-clause-transposed c =
    let t = c.args.table.now.levels in
    if_ok c.assemble_rows.result _ _ c.assemble_rows.ensures.assembled
    (λ r h. base_made t t c.assemble_rows.new.table.levels c.args.g c.requires.level c.push_column-2.new.rows.rows r.0 r.1.items
    (two_rows c.in_ok-rows.rows c.push_column.new.rows c.push_column-2.new.rows _ _ c.in_ok-rows.ensures c.in_ok-push_column.ensures c.in_ok-push_column-2.ensures) h)
