use Rattle.std.proofs.Common.{ℤ, Some, subst}
use mir.Syntax.{w128}
use Rattle.std.proofs.lemmas.Int.{to_z-of_z}
use Rattle.cf_model.specs.Diagrams.{IsGood}
use Rattle.cf_table.specs.Groupings.{Groupings}
use Rattle.cf_pkg.specs.Tasks as task
use Rattle.cf_pkg.specs.Jobs.{HasValues, AnswersFinished}
use Rattle.cf_pkg.proofs.Finishing.{has_means}
use Rattle.cf_pkg.proofs.Doing.{carried_fault, carried_answer}
use Rattle.cf_pkg.proofs.Pkg.constant.Goals as goal

pub returns-clause-means : goal.returns-clause-means
returns-clause-means c =
    let q = c.known_constant.new.self in
    let f = c.in_ok-f.f in
    let good : IsGood q.groupings.levels = subst (λ (g : Groupings). IsGood g.levels) c.table.ensures c.law.ensures.good in
    has_means q good f c.args.level (λ bits. c.args.v)
    (subst (λ (z : ℤ). HasValues q f c.args.level (λ bits. Some z)) (to_z-of_z w128 c.args.v c.ranges.v) c.in_ok-f.ensures.is_it.values)

pub returns-clause-level : goal.returns-clause-level
returns-clause-level c = c.in_ok-f.ensures.is_it.values.level

pub returns-in_err-f-clause-finished : goal.returns-in_err-f-clause-finished
returns-in_err-f-clause-finished c =
    carried_fault c.args.self.now c.known_constant.new.self (task.Const c.args.level c.args.v) c.known_constant.result _ c.in_err-f.was
    (subst (λ (z : ℤ). AnswersFinished c.args.self.now c.known_constant.new.self (task.Const c.args.level z) c.known_constant.result) (to_z-of_z w128 c.args.v c.ranges.v) c.known_constant.ensures.finished) _

pub returns-clause-finished : goal.returns-clause-finished
returns-clause-finished c =
    carried_answer c.args.self.now c.known_constant.new.self (task.Const c.args.level c.args.v) c.known_constant.result c.in_ok-f.f c.in_ok-f.was
    (subst (λ (z : ℤ). AnswersFinished c.args.self.now c.known_constant.new.self (task.Const c.args.level z) c.known_constant.result) (to_z-of_z w128 c.args.v c.ranges.v) c.known_constant.ensures.finished)
