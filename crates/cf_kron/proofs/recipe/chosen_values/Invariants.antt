use Rattle.std.proofs.Common.{◌≡◌, take}
use Rattle.cf_kron.specs.Transposed.{values_at}
use Rattle.cf_kron.proofs.recipe.chosen_values.Given as goal

abbrev pub invariant-loop-i : goal.invariant-loop-i
invariant-loop-i l = l.chosen.items ≡ values_at l.values (take l.i l.exits)
