use Rattle.std.specs.Prelude.{◌++◌, Result, IfOk}
use Rattle.cf_pkg.specs.declared.Func.{Func}
use Rattle.cf_pkg.specs.declared.jobs.Job.{Job}
use Rattle.cf_pkg.specs.declared.jobs.OpFault.{OpFault}
use Rattle.cf_pkg.specs.Tasks.{Task}
use Rattle.cf_pkg.specs.Packages.{Package, function_parts, HasParts, Adds}
use Rattle.cf_pkg.specs.Jobs.{task_level, task_value, job_level, job_value, job_parts, HasValues, IsLeastWithout, IsRestriction}
use Rattle.cf_pkg.specs.Faults.{IfOverflow}
use Rattle.cf_pkg.specs.Products.{product_parts}

-- The function answers the operation: it has the operation's value at each assignment. The table has gained only parts
-- of the product of the operation's groupings and of the function's own pattern, and has all parts of the latter.
pub record Answers (before now : Package) (t : Task) (f : Func) : Type 0 where
  pub values : HasValues now f (task_level t) (task_value before t)
  pub added : Adds before now (product_parts before t ++ function_parts now f)
  pub parts : HasParts now f

-- The result is the operation's: a function that answers it, or no memory, or overflow at the least assignment without
-- a value.
pub record IsOutcome (before now : Package) (t : Task) (result : Result Func OpFault) : Type 0 where
  pub answer : IfOk result (Answers before now t)
  pub overflow : IfOverflow result (IsLeastWithout (task_level t) (task_value before t))

-- The function answers the job, which a recipe carries out: it has the job's value at each assignment, and the table
-- has all parts of its pattern. Where the job restricts a function, the table has gained only parts of its pattern.
pub record AnswersJob (before now : Package) (job : Job) (f : Func) : Type 0 where
  pub values : HasValues now f (job_level job) (job_value before job)
  pub parts : HasParts now f
  pub restricted : IsRestriction job → Adds before now (job_parts before job)

-- The result is the job's, in the same way.
pub record IsJobOutcome (before now : Package) (job : Job) (result : Result Func OpFault) : Type 0 where
  pub answer : IfOk result (AnswersJob before now job)
  pub overflow : IfOverflow result (IsLeastWithout (job_level job) (job_value before job))
