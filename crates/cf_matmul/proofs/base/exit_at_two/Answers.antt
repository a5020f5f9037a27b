use Rattle.std.proofs.Common.{◌≡◌, ℕ, List, get_or, ◌∙◌, ap, subst, inl, inr}
use Rattle.cf_model.specs.Diagrams.{Connection, connection_at, node}
use Rattle.cf_table.specs.Groupings.{connection_of}
use Rattle.cf_matmul.proofs.BaseLaws.{IsExitAt, two_exit}
use Rattle.cf_matmul.proofs.base.exit_at_two.Goals as goal
use Rattle.cf_matmul.proofs.base.exit_at_two.Goals.{then-a-eq0, else-a-eq0, then-b-eq0, else-b-eq0}

pub returns : goal.returns
returns c =
    let t = c.args.table.now in
    let b = c.connection-b.result in
    let a : IsExitAt c.a_callee-a.result.at c.args.row c.if-a-eq0.j = elim c.if-a-eq0.branch [ then-a-eq0 w ↦ inl (w.if-a-eq0.true, w.j-is) | else-a-eq0 w ↦ inr (w.if-a-eq0.false, w.j-is) ] in
    let e : IsExitAt b.«to».at c.args.col c.if-b-eq0.i = elim c.if-b-eq0.branch [ then-b-eq0 w ↦ inl (w.if-b-eq0.true, w.i-is) | else-b-eq0 w ↦ inr (w.if-b-eq0.false, w.i-is) ] in
    let is : connection_of t.tuples b ≡ connection_at (node t.levels c.args.g.level c.args.g.at).connections c.if-a-eq0.j = c.connection-b.ensures.connection in
    ap (λ (v : List ℕ). get_or v c.if-b-eq0.i 0) (c.tuple.ensures ∙ ap (λ (d : Connection). d.returns) is)
    ∙ two_exit t.levels c.requires.good c.args.g.level c.args.g.at c.args.row c.args.col c.requires.level c.requires.owned c.requires.row c.requires.col c.if-a-eq0.j c.if-b-eq0.i
    (subst (λ (k : ℕ). IsExitAt k c.args.row c.if-a-eq0.j) c.a_callee-a.ensures.callee a) (subst (λ (k : ℕ). IsExitAt k c.args.col c.if-b-eq0.i) (ap (λ (d : Connection). d.callee) is) e)
