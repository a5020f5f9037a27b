use Rattle.std.proofs.Common.{◌≡◌, ℕ, List, length, ◌-◌, ◌∙◌, ap, arith, get_or}
use Rattle.cf_model.specs.Diagrams.{Connection, connection_at, node, row, pattern}
use Rattle.cf_table.specs.declared.Gid.{Gid}
use Rattle.cf_table.specs.Groupings.{connection_of}
use Rattle.cf_table.proofs.Told.{good_node}
use Rattle.cf_build.specs.Assembling.{Rowed}
use Rattle.cf_pair.specs.Products.{Lists}
use Rattle.cf_pair.proofs.Pushing.{gains}
use Rattle.cf_restrict.proofs.Turns.{row_as_it_is, each_more}
use Rattle.cf_restrict.proofs.rows.middle_rows.Goals as goal

pub loop-i-init : goal.loop-i-init
loop-i-init c = record {
  listed = record { long = ap (λ (s : Rowed ℕ). length s.rows) c.in_ok-rows.ensures; each = λ i d li. absurd (omega (arith, li)) };
  ended = ap (λ (s : Rowed ℕ). s.begun) c.in_ok-rows.ensures;
}

pub loop-i-preserved : goal.loop-i-preserved
loop-i-preserved c =
    let t = c.args.table.now in
    let k = c.args.g.level in
    let l = k - 1 in
    let m = get_or c.args.middles.now c.loop-i.i 0 in
    let hm = c.requires.middles c.loop-i.i 0 c.loop-i-test.true in
    let b = c.connection-conn.result in
    let bs = (node t.levels k c.args.g.at).connections in
    let n = good_node t.levels c.requires.good k l c.args.g.at (omega (arith, c.requires.above)) c.requires.owned in
    let is : connection_of t.tuples b ≡ connection_at bs m = c.connection-conn.ensures.connection in
    let lev : b.«to».level ≡ l = omega (arith, c.connection-conn.ensures.level) in
    let said : c.tuple.result.now ≡ (connection_at bs m).returns = c.tuple.ensures ∙ ap (λ (x : Connection). x.returns) is in
    let r = row_as_it_is t.levels c.requires.good l (connection_at bs m) (n.good_connections m hm) b.«to» lev (ap (λ (x : Connection). x.callee) is) c.tuple.result.now said in
    let word : ℕ → List ℕ = λ i. row (pattern t.levels l) (connection_at bs (get_or c.args.middles.now i 0)) in
    let g = gains (λ (x : Gid × List ℕ). Lists t.levels l (word c.loop-i.i) x) c.loop-i.rows c.push_labels.new.rows c.end_row.new.self b.«to» c.tuple.result.now c.loop-i.invariant.ended c.in_ok-push_labels.ensures c.in_ok-end_row.ensures.ended r in
    record {
      listed = each_more t c.requires.good l word c.loop-i.i c.loop-i.rows.rows c.end_row.new.self.rows g.row c.loop-i.invariant.listed g.is_asked (ap (λ (s : Rowed ℕ). s.rows) g.is_last);
      ended = ap (λ (s : Rowed ℕ). s.begun) g.is_last;
    }
