use Rattle.cf_build.proofs.Turns.{if_ok}
use Rattle.cf_kron.proofs.Words.{two_rows}
use Rattle.cf_kron.proofs.NamedMade.{base_given}
use Rattle.cf_kron.proofs.named.base.Goals as goal

pub returns-clause-value : goal.returns-clause-value
returns-clause-value c =
    if_ok c.assemble_rows.result _ _ c.assemble_rows.ensures.assembled
    (λ r h. base_given c.args.table.now.levels c.assemble_rows.new.table.levels c.assemble_rows.ensures.good c.args.matrix c.push_entries-2.new.rows.rows r.0 r.1.items
    (two_rows c.in_ok-rows.rows c.push_entries.new.rows c.push_entries-2.new.rows _ _ c.in_ok-rows.ensures c.in_ok-push_entries.ensures c.in_ok-push_entries-2.ensures) h)
