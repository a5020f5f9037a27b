use Rattle.std.proofs.Common.{pos, subst}
use Rattle.std.specs.Prelude.{if◌then◌else◌}
use Rattle.cf_model.specs.Assignments.{bit_at}
use Rattle.cf_model.specs.Diagrams.{IsGood}
use Rattle.cf_table.specs.Groupings.{Groupings}
use Rattle.cf_pkg.specs.Tasks as task
use Rattle.cf_pkg.proofs.Finishing.{has_means}
use Rattle.cf_pkg.proofs.Doing.{carried_fault, carried_answer}
use Rattle.cf_pkg.proofs.Pkg.variable.Goals as goal

pub returns-clause-means : goal.returns-clause-means
returns-clause-means c =
    let q = c.known_variable.new.self in
    let good : IsGood q.groupings.levels = subst (λ (g : Groupings). IsGood g.levels) c.table.ensures c.law.ensures.good in
    has_means q good c.in_ok-f.f c.args.level (λ bits. if bit_at bits c.args.i then pos 1 else pos 0) c.in_ok-f.ensures.is_it.values

pub returns-clause-level : goal.returns-clause-level
returns-clause-level c = c.in_ok-f.ensures.is_it.values.level

pub returns-in_err-f-clause-finished : goal.returns-in_err-f-clause-finished
returns-in_err-f-clause-finished c =
    carried_fault c.args.self.now c.known_variable.new.self (task.Var c.args.level c.args.i) c.known_variable.result _ c.in_err-f.was c.known_variable.ensures.finished _

pub returns-clause-finished : goal.returns-clause-finished
returns-clause-finished c =
    carried_answer c.args.self.now c.known_variable.new.self (task.Var c.args.level c.args.i) c.known_variable.result c.in_ok-f.f c.in_ok-f.was c.known_variable.ensures.finished
