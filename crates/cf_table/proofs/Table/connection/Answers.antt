use Rattle.std.proofs.Common.{◌≡◌, List, ◌-◌, ◌<◌, length, map, get_or, sym, ◌∙◌, ap, arith}
use Rattle.std.proofs.lemmas.List.{length-map, get_or-map}
use Rattle.cf_model.specs.Diagrams.{Node, no_connection, connection_at}
use Rattle.cf_table.specs.declared.level.PackedConnection.{PackedConnection}
use Rattle.cf_table.specs.Groupings.{node_of}
use Rattle.cf_table.specs.Kept.{shown_connection}
use Rattle.cf_table.proofs.Told.{callee_owned}
use Rattle.cf_table.proofs.Table.connection.Goals as goal

abbrev blank : PackedConnection
blank = record { callee = 0; returns = 0 }

pub returns-clause-callee : goal.returns-clause-callee
returns-clause-callee c =
    let t = c.args.self.now in
    let ps = c.as_slice.result.now in
    let shown = c.kept.ensures.shown in
    let within : c.args.j < length ps = omega (arith, c.requires.middle, ap length c.as_slice.ensures, length-map c.kept.result.0.now.connections.items (shown_connection t.tuples), ap (λ (n : Node). length n.connections) shown) in
    let is : shown_connection t.tuples (get_or ps c.args.j blank) ≡ connection_at (node_of t c.args.g).connections c.args.j =
    sym (get_or-map (shown_connection t.tuples) ps c.args.j blank no_connection within)
    ∙ ap (λ (xs : List PackedConnection). get_or (map (shown_connection t.tuples) xs) c.args.j no_connection) c.as_slice.ensures
    ∙ ap (λ (n : Node). connection_at n.connections c.args.j) shown in
    callee_owned t.levels c.law.ensures.good c.args.g.level (c.args.g.level - 1) c.args.g.at c.args.j (omega (arith, c.requires.level)) c.requires.owned c.requires.middle (shown_connection t.tuples (get_or ps c.args.j blank)) is
