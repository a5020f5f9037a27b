use Rattle.std.specs.Prelude.{zero}
use Rattle.cf_pkg.specs.declared.jobs.Job.{Job}
use Rattle.cf_pkg.specs.declared.jobs.Job.TheVariants.{Const}

-- A job that makes a constant of level 0.
abbrev pub IsBaseConstant : Job → Type 0
IsBaseConstant (Const zero v) = Unit {0}
IsBaseConstant others = ⊥
