use Rattle.cf_ops.specs.Operations.{of_two}
use Rattle.cf_pkg.specs.Tasks as task
use Rattle.cf_pkg.proofs.Doing.{found_here, finished_here}
use Rattle.cf_pkg.proofs.Pkg.apply_word.Goals as goal

pub returns-in-Some-clause-outcome : goal.returns-in-Some-clause-outcome
returns-in-Some-clause-outcome g c = found_here c.args.self.now (task.Apply (of_two c.args.word) c.args.f c.args.g) c.in-Some.known c.in-Some.ensures

pub returns-in-Some-clause-finished : goal.returns-in-Some-clause-finished
returns-in-Some-clause-finished g c = finished_here c.args.self.now (task.Apply (of_two c.args.word) c.args.f c.args.g) c.in-Some.known c.in-Some.ensures
