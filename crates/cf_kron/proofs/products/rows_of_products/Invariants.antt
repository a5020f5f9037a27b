use Rattle.std.proofs.Common.{◌≡◌, take}
use Rattle.cf_build.specs.Assembling.{ended}
use Rattle.cf_kron.specs.Products.{product_rows}
use Rattle.cf_kron.proofs.products.rows_of_products.Given as goal

abbrev pub invariant-loop-i : goal.invariant-loop-i
invariant-loop-i l = l.rows ≡ ended (product_rows l.fn.g (take l.i l.left) l.right)
