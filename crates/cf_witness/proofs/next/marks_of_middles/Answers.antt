use Rattle.std.proofs.Common.{◌≡◌, ◌<◌, ◌++◌, [], ◌∷◌, ◌∙◌, sym, ap, List, ℕ, Bool, map, take, length, arith}
use Rattle.std.proofs.lemmas.List.{take_all, take_more, map_push}
use Rattle.cf_model.specs.Diagrams.{Connection, no_connection, connection_at}
use Rattle.cf_table.specs.Groupings.{node_of}
use Rattle.cf_witness.specs.Nexts.{has_marked}
use Rattle.cf_witness.proofs.next.marks_of_middles.Goals as goal

pub loop-j-preserved : goal.loop-j-preserved
loop-j-preserved c =
    let ns = (node_of c.args.table.now c.args.g).connections in
    let j = c.loop-j.j in
    let mark : Connection → Bool = λ b. has_marked c.args.marks.now b.returns in
    let lt : j < length ns = omega (arith, c.loop-j-test.true, c.middle_count-j-end.ensures) in
    c.in_ok-push.ensures.items
    ∙ ap (λ (v : List Bool). v ++ c.has_marked.result ∷ []) c.loop-j.invariant
    ∙ ap (λ (b : Bool). map mark (take j ns) ++ b ∷ []) (c.has_marked.ensures ∙ ap (λ (r : List ℕ). has_marked c.args.marks.now r) (c.tuple.ensures ∙ ap (λ (x : Connection). x.returns) c.connection.ensures.connection))
    ∙ sym (map_push mark (take j ns) (connection_at ns j))
    ∙ ap (λ (v : List Connection). map mark v) (sym (take_more ns j no_connection lt))

pub returns : goal.returns
returns c =
    let ns = (node_of c.args.table.now c.args.g).connections in
    let mark : Connection → Bool = λ b. has_marked c.args.marks.now b.returns in
    c.loop-j.invariant ∙ ap (λ (v : List Connection). map mark v) (take_all c.loop-j.j ns (omega (arith, c.loop-j-test.false, c.middle_count-j-end.ensures)))
