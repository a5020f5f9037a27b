use Rattle.std.proofs.Common.{◌≡◌, ◌++◌, take}
use Rattle.cf_kron.specs.Products.{scaled}
use Rattle.cf_kron.proofs.products.push_scaled.Given as goal

abbrev pub invariant-loop-j : goal.invariant-loop-j
invariant-loop-j l = l.rows ≡ record { rows = l.fn.rows.rows; begun = l.fn.rows.begun ++ scaled l.fn.x (take l.j l.values) }
