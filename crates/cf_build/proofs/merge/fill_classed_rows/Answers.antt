use Rattle.std.proofs.Common.{◌≡◌, ◌+◌, ◌<◌, List, ℕ, ◌∙◌, ap, length, arith}
use Rattle.cf_model.specs.Diagrams.{Connection, connection_at}
use Rattle.cf_table.specs.Groupings.{node_of}
use Rattle.cf_build.specs.Assembling.{classed}
use Rattle.cf_build.specs.Joining.{returning, classed_connection}
use Rattle.cf_build.proofs.Loops.{within, rows_more, all_more}
use Rattle.cf_build.proofs.merge.fill_classed_rows.Goals as goal

pub append_classes-requires : goal.append_classes-requires
append_classes-requires c = record {
  within = λ m d lm.
      within c.args.table.now c.args.g.level c.args.g.at c.requires.level c.loop-j.j (omega (arith, c.loop-j-test.true, c.middle_count-count.ensures)) c.tuple.result.now
      (c.tuple.ensures ∙ ap (λ (x : Connection). x.returns) c.connection-conn.ensures.connection) _ c.requires.entries m d lm;
}

pub loop-j-preserved : goal.loop-j-preserved
loop-j-preserved c =
    let b = c.connection-conn.result in
    let ns = (node_of c.args.table.now c.args.g).connections in
    let lt : c.loop-j.j < length ns = omega (arith, c.loop-j-test.true, c.middle_count-count.ensures) in
    let labels = c.loop-j.labels in
    let all = c.append_classes.new.labels in
    let exits = c.tuple.result.now in
    let start : c.len-start.result ≡ length labels.items = c.len-start.ensures.value in
    let end : c.len.result ≡ length all.items = c.len.ensures.value in
    let shown : returning b.«to».at (classed c.args.classes.now exits) ≡ classed_connection c.args.classes.now (connection_at ns c.loop-j.j) =
    ap (λ (r : List ℕ). returning b.«to».at (classed c.args.classes.now r)) c.tuple.ensures ∙ ap (λ (x : Connection). classed_connection c.args.classes.now x) c.connection-conn.ensures.connection in (
      rows_more c.args.classes.now labels.items (classed c.args.classes.now exits) all.items c.loop-j.rows.items c.push.new.self.items _ ns c.loop-j.j c.loop-j.invariant.0.1 c.loop-j.invariant.0.0
          c.in_ok-push.ensures.ok c.in_ok-append_classes.ensures start end shown lt,
      all_more (λ r. r.callee.level + 1 ≡ c.args.g.level) c.loop-j.rows.items c.push.new.self.items _ c.in_ok-push.ensures.ok c.loop-j.invariant.1 c.connection-conn.ensures.level,
    )
