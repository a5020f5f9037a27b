use Rattle.std.proofs.Common.{suc, Err, ◌∙◌, ap}
use Rattle.cf_model.specs.Assignments.{bits}
use Rattle.cf_kron.proofs.NamedMade.{factor_value, all_never}
use Rattle.cf_kron.proofs.named.fitting_product.Goals as goal

pub no_memory-requires : goal.no_memory-requires
no_memory-requires c at e =
    all_never (suc c.args.f.level) (factor_value c.args.table.now.levels c.args.f c.args.left.now c.args.g c.args.right.now) (bits at) (c.product.ensures.overflow at (c.in-Err.is ∙ ap Err e)) c.requires.fit
