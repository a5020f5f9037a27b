use Rattle.std.proofs.Common.{suc, ◌≤◌, ◌*◌, ◌-◌, ◌^◌, [], map, take, get_or}
use Rattle.cf_model.specs.PairSums.{total}
use Rattle.cf_build.specs.Assembling.{listed}
use Rattle.cf_matmul.specs.Symbolic.{sums_of, row_sums, HasSumRow, HaveSumRows, HasGrown}
use Rattle.cf_matmul.specs.Memos.{AreProducts}
use Rattle.cf_matmul.proofs.products.+product.Given as goal

abbrev pub decreases-product_once : goal.decreases-product_once
decreases-product_once l = 5 * l.g.level

abbrev pub decreases-product_sums : goal.decreases-product_sums
decreases-product_sums l = 5 * l.g.level - 1

abbrev pub decreases-sum_rows : goal.decreases-sum_rows
decreases-sum_rows l = 5 * l.g.level - 2

abbrev pub decreases-sum_row : goal.decreases-sum_row
decreases-sum_row l = 5 * l.g.level - 3

abbrev pub decreases-middle_row : goal.decreases-middle_row
decreases-middle_row l = 5 * l.g.level - 4

abbrev pub invariant-sum_row-loop-i : goal.invariant-sum_row-loop-i
invariant-sum_row-loop-i l = record {
  grown : HasGrown l.fn.table l.table l.fn.book l.book;
  known : AreProducts l.table.levels l.book l.done.entries;
  from : 1 ≤ l.i;
  row_is : HasSumRow l.table.levels l.book (suc (l.fn.g.level - 2)) (row_sums l.fn.table l.fn.g l.fn.h (take l.i l.terms)) (total (take l.i l.terms) * 2 ^ (2 ^ (l.fn.g.level - 2))) (listed l.row);
}

abbrev pub invariant-sum_rows-loop-i : goal.invariant-sum_rows-loop-i
invariant-sum_rows-loop-i l = record {
  grown : HasGrown l.fn.table l.table l.fn.book l.book;
  known : AreProducts l.table.levels l.book l.done.entries;
  rows_are : HaveSumRows l.table.levels l.book (suc (l.fn.g.level - 2)) (λ i. row_sums l.fn.table l.fn.g l.fn.h (get_or (sums_of l.fn.book l.sums) i [])) (2 ^ (2 ^ (l.fn.g.level - 2)) * 2 ^ (2 ^ (l.fn.g.level - 2))) l.i (map listed l.rows.items);
}
