use Rattle.std.proofs.Common.{◌≡◌, ◌++◌, [], ◌∷◌, List, ℕ, cond, map, ap, ◌∙◌, nat_eq, subst, arith}
use Rattle.std.specs.List.{list_any}
use Rattle.std.proofs.lemmas.List.{take_all}
use Rattle.cf_model.specs.Diagrams.{Connection, no_connection}
use Rattle.cf_model.specs.Renumbering.{distinct_on}
use Rattle.cf_table.specs.Groupings.{node_of}
use Rattle.cf_pkg.proofs.Sizing.{place_entered}
use Rattle.cf_pkg.proofs.reached.insert_callees.Goals as goal

abbrev callee : Connection → ℕ
callee b = b.callee

pub loop-j-preserved : goal.loop-j-preserved
loop-j-preserved c =
    let n = node_of c.args.table.now c.args.g in
    let keys = c.loop-j.places.keys in
    place_entered callee n.connections c.loop-j.j no_connection n.a_callee c.args.places.now.keys keys c.insert-in-loop-j.new.self.keys
    (omega (arith, c.loop-j-test.true, c.middle_count-j-end.ensures)) c.loop-j.invariant
    (subst (λ (x : ℕ). c.insert-in-loop-j.new.self.keys ≡ cond (list_any (nat_eq x) keys) keys (keys ++ x ∷ [])) (ap callee c.connection.ensures.connection) c.in_ok-insert-2.ensures.keys)

pub returns : goal.returns
returns c =
    let n = node_of c.args.table.now c.args.g in
    c.loop-j.invariant
    ∙ ap (λ (v : List ℕ). distinct_on nat_eq c.args.places.now.keys (n.a_callee ∷ v)) (ap (map callee) (take_all c.loop-j.j n.connections (omega (arith, c.loop-j-test.false, c.middle_count-j-end.ensures))))
