use Rattle.std.proofs.Common.{◌∙◌, rules}
use Rattle.indexmap.specs.Entry.{entry_value}
use Rattle.cf_table.specs.Groupings.{exits_with}
use Rattle.cf_table.proofs.Placed.{entered_by, unwraps_so}
use Rattle.cf_table.proofs.level.Level.enter.Goals as goal

pub returns-clause-entered : goal.returns-clause-entered
returns-clause-entered c =
    let exits = exits_with c.args.book.now c.args.bs.now in
    let v = c.in_ok-or_try_insert_with.field-0.now in
    entered_by c.self.inside.nodes.entries _ c.args.self.now c.args.node exits c.index-at.result v c.self.view_is
    (search rules)
    (c.index-at.ensures ∙ c.in_ok-entry.ensures.index)
    (unwraps_so (entry_value c.in_ok-entry.entry) _ v exits c.in_ok-entry.ensures.value (λ w learnt. search rules) c.in_ok-or_try_insert_with.ensures.value)
