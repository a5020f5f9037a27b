use Rattle.std.proofs.Common.{rules}
use Rattle.cf_pkg.proofs.Memos.{job_tree}
use Rattle.cf_pkg.proofs.memo.Memo.key_of.Goals as goal

pub returns-in_err-operation-in-Map-clause-known : goal.returns-in_err-operation-in-Map-clause-known
returns-in_err-operation-in-Map-clause-known c r h = c.operation_of.ensures.known (job_tree _ c.args.self.now c.self.invariant c.self.view_is c.args.job.now _ c.in-Map.is r h)

pub returns-in_err-operation-in-Map-clause-answers : goal.returns-in_err-operation-in-Map-clause-answers
returns-in_err-operation-in-Map-clause-answers c r h = (let no = c.operation_of.ensures.answers (job_tree _ c.args.self.now c.self.invariant c.self.view_is c.args.job.now _ c.in-Map.is r h) in search (rules, no))

pub returns-in_ok-operation-in-Map-clause-known : goal.returns-in_ok-operation-in-Map-clause-known
returns-in_ok-operation-in-Map-clause-known c r h = c.operation_of.ensures.known (job_tree _ c.args.self.now c.self.invariant c.self.view_is c.args.job.now _ c.in-Map.is r h)

pub returns-in_err-operation-in-Apply-clause-known : goal.returns-in_err-operation-in-Apply-clause-known
returns-in_err-operation-in-Apply-clause-known c r h = c.operation_of-in-Apply.ensures.known (job_tree _ c.args.self.now c.self.invariant c.self.view_is c.args.job.now _ c.in-Apply.is r h)

pub returns-in_err-operation-in-Apply-clause-answers : goal.returns-in_err-operation-in-Apply-clause-answers
returns-in_err-operation-in-Apply-clause-answers c r h = (let no = c.operation_of-in-Apply.ensures.answers (job_tree _ c.args.self.now c.self.invariant c.self.view_is c.args.job.now _ c.in-Apply.is r h) in search (rules, no))

pub returns-in_ok-operation-in-Apply-clause-known : goal.returns-in_ok-operation-in-Apply-clause-known
returns-in_ok-operation-in-Apply-clause-known c r h = c.operation_of-in-Apply.ensures.known (job_tree _ c.args.self.now c.self.invariant c.self.view_is c.args.job.now _ c.in-Apply.is r h)

pub returns-in_err-operation-in-Ternary-clause-known : goal.returns-in_err-operation-in-Ternary-clause-known
returns-in_err-operation-in-Ternary-clause-known c r h = c.operation_of-in-Ternary.ensures.known (job_tree _ c.args.self.now c.self.invariant c.self.view_is c.args.job.now _ c.in-Ternary.is r h)

pub returns-in_err-operation-in-Ternary-clause-answers : goal.returns-in_err-operation-in-Ternary-clause-answers
returns-in_err-operation-in-Ternary-clause-answers c r h = (let no = c.operation_of-in-Ternary.ensures.answers (job_tree _ c.args.self.now c.self.invariant c.self.view_is c.args.job.now _ c.in-Ternary.is r h) in search (rules, no))

pub returns-in_ok-operation-in-Ternary-clause-known : goal.returns-in_ok-operation-in-Ternary-clause-known
returns-in_ok-operation-in-Ternary-clause-known c r h = c.operation_of-in-Ternary.ensures.known (job_tree _ c.args.self.now c.self.invariant c.self.view_is c.args.job.now _ c.in-Ternary.is r h)
