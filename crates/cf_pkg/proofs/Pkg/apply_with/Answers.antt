use Rattle.std.proofs.Common.{rules}
use Rattle.cf_ops.specs.Operations.{of_two}
use Rattle.cf_pkg.specs.Tasks as task
use Rattle.cf_pkg.proofs.Doing.{undone_here}
use Rattle.cf_pkg.proofs.Pkg.apply_with.Goals as goal

pub returns-in_err-tree_of_two-clause-outcome : goal.returns-in_err-tree_of_two-clause-outcome
returns-in_err-tree_of_two-clause-outcome g c = record { answer = search rules; overflow = search rules }

pub returns-in_err-tree_of_two-clause-finished : goal.returns-in_err-tree_of_two-clause-finished
returns-in_err-tree_of_two-clause-finished g c = undone_here c.args.self.now c.args.self.now (task.Apply (of_two c.args.word) c.args.f c.args.g) c.requires.undone _

pub returns-clause-finished : goal.returns-clause-finished
returns-clause-finished g c = undone_here c.args.self.now c.apply.new.self (task.Apply (of_two c.args.word) c.args.f c.args.g) c.requires.undone _
