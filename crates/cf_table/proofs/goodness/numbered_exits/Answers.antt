use Rattle.std.proofs.Common.{ℕ, List, sym, subst}
use Rattle.std.specs.Prelude.{Option, MatchOption}
use Rattle.cf_model.specs.Renumbering.{Grows}
use Rattle.cf_table.specs.declared.BConn.{BConn}
use Rattle.cf_table.specs.Groupings.{tuple_of}
use Rattle.cf_table.specs.Goodness.{returns_of, IsNumberedOn}
use Rattle.cf_table.proofs.Told.{blank}
use Rattle.cf_table.proofs.Numbered.{numbered_word, word_stops}
use Rattle.cf_table.proofs.goodness.numbered_exits.Goals as goal

pub loop-b-preserved : goal.loop-b-preserved
loop-b-preserved c =
    numbered_word (λ (b : BConn). tuple_of c.args.table.now.tuples b.ret) blank c.args.bs.now c.loop-b.b-index c.loop-b.next c.in_ok-next.next c.loop-b-test.true c.loop-b.invariant
    (subst (λ (xs : List ℕ). IsNumberedOn c.loop-b.next xs c.in_ok-next.next) c.tuple.ensures c.in_ok-next.ensures)

pub returns-in_err-next : goal.returns-in_err-next
returns-in_err-next c =
    let t = c.args.table.now.tuples in
    let bs = c.args.bs.now in
    subst (λ (o : Option ℕ). MatchOption o (Grows 0 (returns_of t bs) → ⊥) (IsNumberedOn 0 (returns_of t bs))) (sym c.from_residual.ensures)
    (word_stops (λ (b : BConn). tuple_of t b.ret) blank bs c.loop-b.b-index c.loop-b.next c.loop-b-test.true c.loop-b.invariant
    (subst (λ (xs : List ℕ). Grows c.loop-b.next xs → ⊥) c.tuple.ensures c.in_err-next.ensures))
