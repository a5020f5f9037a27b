use Rattle.cf_table.specs.Groupings.{pattern_of}
use Rattle.cf_build.proofs.Turns.{if_ok}
use Rattle.cf_build.specs.Assembling.{listed}
use Rattle.cf_matmul.proofs.BaseLaws.{base_made}
use Rattle.cf_matmul.proofs.base.base_sums.Goals as goal

pub returns-clause-summed : goal.returns-clause-summed
returns-clause-summed c =
    if_ok c.assemble.result _ _ c.assemble.ensures.assembled
    (λ r s. base_made c.args.table.now.levels c.assemble.new.table.levels c.args.book.now c.row_at_two.new.book c.row_at_two-2.new.book c.law.ensures.once (pattern_of c.args.table.now c.args.g) (pattern_of c.args.table.now c.args.h)
    c.in_ok-top.top.items c.in_ok-bottom.bottom.items c.in_ok-top.ensures.made c.in_ok-bottom.ensures.made (listed r) s)
