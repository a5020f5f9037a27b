use Rattle.cf_kron.proofs.TransposeLaws.{read_level_one, one_read}
use Rattle.cf_kron.proofs.transposition.exit_in_row.Goals as goal

pub returns : goal.returns
returns c =
    let t = c.args.table.now in
    let g = c.args.g in
    let r = read_level_one t.levels c.requires.good g.level g.at c.requires.level c.requires.owned c.args.row c.args.column in
    (one_read t.tuples _ _ c.args.row c.args.column r c.a_callee-a.result.at c.exit_at_bit.result c.connection-conn.result c.tuple.result.now c.exit_at_bit-2.result c.a_callee-a.ensures.callee c.exit_at_bit.ensures c.connection-conn.ensures.connection c.tuple.ensures c.exit_at_bit-2.ensures).1
