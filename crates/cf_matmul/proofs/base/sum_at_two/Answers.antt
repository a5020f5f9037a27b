use Rattle.std.proofs.Common.{◌≡◌, [], ◌∙◌, ap}
use Rattle.cf_model.specs.PairSums.{PairSum, single, added}
use Rattle.cf_tuple.proofs.BookLaws.{kept_at}
use Rattle.cf_table.specs.Groupings.{pattern_of}
use Rattle.cf_build.proofs.Turns.{if_ok}
use Rattle.cf_comb.specs.CombBooks.{sum_of}
use Rattle.cf_matmul.proofs.Loops.{entered_owned, entered_sum}
use Rattle.cf_matmul.proofs.BaseLaws.{sum_of_two}
use Rattle.cf_matmul.proofs.base.sum_at_two.Goals as goal

pub returns-clause-sum : goal.returns-clause-sum
returns-clause-sum c =
    let t = c.args.table.now in
    let b1 = c.single.new.self in
    let b2 = c.single-2.new.self in
    let left = c.exit_at_two-left.result in
    let top = c.exit_at_two-top.result in
    let right = c.exit_at_two-right.result in
    let bottom = c.exit_at_two-bottom.result in
    let one : sum_of b2 c.in_ok-first.first ≡ single left top =
    kept_at b1 b2 c.in_ok-second.ensures.kept c.in_ok-first.first.at [] (entered_owned c.args.book.now b1 (single left top) c.in_ok-first.first c.in_ok-first.ensures.interned)
    ∙ entered_sum c.args.book.now b1 (single left top) c.in_ok-first.first c.in_ok-first.ensures.interned in
    let two : sum_of b2 c.in_ok-second.second ≡ single right bottom = entered_sum b1 b2 (single right bottom) c.in_ok-second.second c.in_ok-second.ensures.interned in
    let whole = sum_of_two (pattern_of t c.args.g) (pattern_of t c.args.h) c.args.row c.args.col left top right bottom c.requires.row c.requires.col c.exit_at_two-left.ensures c.exit_at_two-top.ensures c.exit_at_two-right.ensures c.exit_at_two-bottom.ensures in
    if_ok c.add.result _ _ c.add.ensures.interned
    (λ r s. entered_sum b2 c.add.new.self (added (sum_of b2 c.in_ok-first.first) (sum_of b2 c.in_ok-second.second)) r s
    ∙ ap (λ (x : PairSum). added x (sum_of b2 c.in_ok-second.second)) one ∙ ap (λ (x : PairSum). added (single left top) x) two ∙ whole)
