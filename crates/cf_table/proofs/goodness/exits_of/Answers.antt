use Rattle.std.proofs.Common.{◌≡◌, ◌∙◌, ℕ, List, sym, ap, subst, get_or, [], arith}
use Rattle.std.proofs.lemmas.List.{take_all}
use Rattle.std.proofs.lemmas.Option.{get_or_from_slice_get}
use Rattle.std.proofs.lemmas.List.Folds.{flat_map-map}
use Rattle.cf_model.specs.Renumbering.{width}
use Rattle.cf_table.specs.declared.BConn.{BConn}
use Rattle.cf_table.specs.Groupings.{connection_of, tuple_of}
use Rattle.cf_table.specs.Goodness.{returns_of}
use Rattle.cf_table.proofs.Told.{blank}
use Rattle.cf_table.proofs.Numbered.{width_word}
use Rattle.cf_table.proofs.goodness.exits_of.Goals as goal

pub loop-b-preserved : goal.loop-b-preserved
loop-b-preserved c =
    width_word (λ (b : BConn). tuple_of c.args.book.now b.ret) blank c.args.bs.now c.loop-b.b-index c.loop-b.next c.in_ok-next.next c.loop-b-test.true c.loop-b.invariant
    (subst (λ (xs : List ℕ). c.in_ok-next.next ≡ width c.loop-b.next xs) (sym (get_or_from_slice_get c.args.book.now (get_or c.args.bs.now c.loop-b.b-index blank).ret.at c.get.result.now [] c.get.ensures)) c.in_ok-next.ensures)

pub returns : goal.returns
returns c =
    let t = c.args.book.now in
    let bs = c.args.bs.now in
    c.loop-b.invariant ∙ ap (λ (xs : List BConn). width 0 (returns_of t xs)) (take_all c.loop-b.b-index bs (omega (arith, c.loop-b-test.false)))
    ∙ ap (width 0) (sym (flat_map-map (λ b. b.returns) (connection_of t) bs))
