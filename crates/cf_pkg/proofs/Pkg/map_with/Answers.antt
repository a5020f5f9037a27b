use Rattle.std.proofs.Common.{rules}
use Rattle.cf_ops.specs.Operations.{of_one}
use Rattle.cf_pkg.specs.Tasks as task
use Rattle.cf_pkg.proofs.Doing.{undone_here}
use Rattle.cf_pkg.proofs.Pkg.map_with.Goals as goal

pub returns-in_err-tree_of_one-clause-outcome : goal.returns-in_err-tree_of_one-clause-outcome
returns-in_err-tree_of_one-clause-outcome g c = record { answer = search rules; overflow = search rules }

pub returns-in_err-tree_of_one-clause-finished : goal.returns-in_err-tree_of_one-clause-finished
returns-in_err-tree_of_one-clause-finished g c = undone_here c.args.self.now c.args.self.now (task.Map (of_one c.args.word) c.args.f) c.requires.undone _

pub returns-clause-finished : goal.returns-clause-finished
returns-clause-finished g c = undone_here c.args.self.now c.map1.new.self (task.Map (of_one c.args.word) c.args.f) c.requires.undone _
