use Rattle.std.proofs.Common.{Ok, Err, refl, sym, ◌∙◌, ap}
use Rattle.cf_model.specs.Assignments.{bits}
use Rattle.cf_model.specs.Matrices.{walsh}
use Rattle.cf_pkg.specs.declared.jobs.Job.TheVariants.{Walsh}
use Rattle.cf_pkg.specs.Jobs.{job_value}
use Rattle.cf_kron.proofs.NamedMade.{never, ok_same, no_ok}
use Rattle.cf_kron.proofs.walsh.Goals as goal

pub no_memory-requires : goal.no_memory-requires
no_memory-requires c at e = never c.args.level (job_value c.args.pkg.now (Walsh c.args.level)) walsh (bits at) (c.make.ensures.outcome.overflow at (c.in-Err.is ∙ ap Err e)) (λ bits a. refl)

pub returns-in-Ok-clause-finished : goal.returns-in-Ok-clause-finished
returns-in-Ok-clause-finished c g h =
    let told = c.make.ensures.finished g h in
    (ap Ok (ok_same c.in-Ok.r g (sym c.in-Ok.is ∙ told.0)), told.1)

pub returns-in-Err-clause-finished : goal.returns-in-Err-clause-finished
returns-in-Err-clause-finished c g h = absurd (no_ok g c.in-Err.fault (sym c.in-Err.is ∙ (c.make.ensures.finished g h).0))
