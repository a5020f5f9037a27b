use Rattle.std.proofs.Common.{◌≤◌, ◌^◌, ℕ, sym, subst}
use Rattle.cf_witness.proofs.Tables.{half_fits, shifted, shift_small}
use Rattle.cf_witness.proofs.next.assignments.Goals as goal

pub overflow_shl-result : goal.overflow_shl-result
overflow_shl-result c = shift_small c.args.level c.variables.result c.requires c.variables.ensures

pub returns-clause-is : goal.returns-clause-is
returns-clause-is c = shifted c.args.level c.variables.result c.requires c.variables.ensures

pub returns-clause-most : goal.returns-clause-most
returns-clause-most c = subst (λ (n : ℕ). n ≤ 2 ^ 64) (sym (shifted c.args.level c.variables.result c.requires c.variables.ensures)) (half_fits c.args.level c.requires)
