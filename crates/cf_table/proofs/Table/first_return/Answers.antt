use Rattle.std.proofs.Common.{◌≡◌, ◌+◌, ◌-◌, ℕ, List, ◌∙◌, ap, subst, below_more, arith}
use Rattle.cf_model.specs.Renumbering.{IsNew}
use Rattle.cf_model.specs.Diagrams.{Connection}
use Rattle.cf_table.specs.Groupings.{node_of}
use Rattle.cf_table.proofs.Told.{good_node, exits_above}
use Rattle.cf_table.proofs.First.{given_out}
use Rattle.cf_table.proofs.Table.first_return.Goals as goal

pub loop-j-preserved : goal.loop-j-preserved
loop-j-preserved c =
    below_more _ _ c.loop-j.invariant
    (subst (λ (xs : List ℕ). IsNew xs c.args.e) (c.tuple.ensures ∙ ap (λ (x : Connection). x.returns) c.connection.ensures.connection) c.in_default.ensures)

pub unreachable-requires : goal.unreachable-requires
unreachable-requires c =
    let t = c.args.self.now in
    let g = c.args.g in
    let below : g.level - 1 + 1 ≡ g.level = omega (arith, c.requires.level) in
    given_out (node_of t g).connections 0 c.args.e (good_node t.levels c.law.ensures.good g.level (g.level - 1) g.at below c.requires.owned).first_reach (omega arith)
    (omega (arith, c.requires.exit, exits_above t.levels g.level (g.level - 1) g.at below))
    (λ k hk. c.loop-j.invariant k (omega (arith, hk, c.middle_count-j-end.ensures, c.loop-j-test.false)))
