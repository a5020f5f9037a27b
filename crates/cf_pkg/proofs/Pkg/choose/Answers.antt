use Rattle.std.proofs.Common.{rules}
use Rattle.cf_ops.specs.Operations.{of_three}
use Rattle.cf_pkg.specs.Tasks as task
use Rattle.cf_pkg.proofs.Doing.{found_here, finished_here, undone_here}
use Rattle.cf_pkg.proofs.Pkg.choose.Goals as goal

pub returns-in-Some-clause-outcome : goal.returns-in-Some-clause-outcome
returns-in-Some-clause-outcome g c = found_here c.args.self.now (task.Ternary of_three c.args.f c.args.g c.args.h) c.in-Some.known c.in-Some.ensures

pub returns-in-Some-clause-finished : goal.returns-in-Some-clause-finished
returns-in-Some-clause-finished g c = finished_here c.args.self.now (task.Ternary of_three c.args.f c.args.g c.args.h) c.in-Some.known c.in-Some.ensures

pub returns-in_err-tree_of_three-clause-outcome : goal.returns-in_err-tree_of_three-clause-outcome
returns-in_err-tree_of_three-clause-outcome g c = record { answer = search rules; overflow = search rules }

pub returns-in_err-tree_of_three-clause-finished : goal.returns-in_err-tree_of_three-clause-finished
returns-in_err-tree_of_three-clause-finished g c = undone_here c.args.self.now c.args.self.now (task.Ternary of_three c.args.f c.args.g c.args.h) c.in_default.ensures _

pub returns-clause-finished : goal.returns-clause-finished
returns-clause-finished g c = undone_here c.args.self.now c.ternary.new.self (task.Ternary of_three c.args.f c.args.g c.args.h) c.in_default.ensures _
