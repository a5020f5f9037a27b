use Rattle.std.proofs.Common.{rules, ◌≡◌, ℤ, List, map, Some, ◌∙◌, ap, subst}
use Rattle.cf_model.specs.Functions.{function_of}
use Rattle.cf_model.specs.Diagrams.{IsGood}
use Rattle.cf_model.specs.declared.terms.Term.{Term}
use Rattle.cf_pkg.specs.declared.Func.{Func}
use Rattle.cf_pkg.specs.Tasks as task
use Rattle.cf_pkg.specs.Packages.{Package, OwnsFunction, Means, values_of}
use Rattle.cf_pkg.specs.Exits.{map_each}
use Rattle.cf_pkg.specs.Jobs.{map_value}
use Rattle.cf_pkg.proofs.Valued.{Worked, worked_gives, has_values, fault_exit, fault_least, first_of, values_read}
use Rattle.cf_pkg.proofs.Works.{map_worked}
use Rattle.cf_pkg.proofs.Doing.{answered, overflowed}
use Rattle.cf_pkg.proofs.Pkg.map_anew.Goals as goal

worked_at : (p : Package) → IsGood p.groupings.levels → (tree : Term) (f : Func) → OwnsFunction p f → (vs : List ℤ) → values_of p f ≡ vs → Worked p.groupings.levels f.head f.head.level (map_each tree vs) (map_value p tree f)
worked_at p good tree f o vs e = subst (λ (ws : List ℤ). Worked p.groupings.levels f.head f.head.level (map_each tree ws) (map_value p tree f)) e (map_worked p good tree f o)

pub overflow-requires-clause-exit : goal.overflow-requires-clause-exit
overflow-requires-clause-exit g c =
    let p = c.args.self.now in
    let f = c.args.f in
    let tree = c.args.op.now.tree in
    let vs = c.get.result.now in
    let inside : Package = record { groupings = c.self.inside.table; lists = c.self.inside.values; memo = c.self.inside.memo } in
    let worked = worked_at p c.law.ensures.good tree f c.requires.owned vs (values_read p inside f vs c.self.view_is c.get.ensures.list) in
    fault_exit p.groupings.levels f.head f.head.level (map_each tree vs) (map_value p tree f) worked c.in-Err.fault
    (first_of c.map_exits.result (map_each tree vs) c.in-Err.fault c.in-Err.is c.map_exits.ensures.first)

pub returns-in_ok-valued-in-Ok-clause-outcome : goal.returns-in_ok-valued-in-Ok-clause-outcome
returns-in_ok-valued-in-Ok-clause-outcome g c =
    let p = c.args.self.now in
    let f = c.args.f in
    let tree = c.args.op.now.tree in
    let vs = c.get.result.now in
    let inside : Package = record { groupings = c.self.inside.table; lists = c.self.inside.values; memo = c.self.inside.memo } in
    let worked = worked_at p c.law.ensures.good tree f c.requires.owned vs (values_read p inside f vs c.self.view_is c.get.ensures.list) in
    let made : Means c.valued.new.self c.in_ok-valued-in-Ok.field-0 (function_of p.groupings.levels f.head.level f.head.at c.as_slice.result.now) = c.in_ok-valued-in-Ok.ensures.means in
    answered p c.valued.new.self (task.Map tree f) c.in_ok-valued-in-Ok.field-0
    (has_values p.groupings.levels c.valued.new.self f.head c.in_ok-valued-in-Ok.field-0 c.as_slice.result.now f.head.level (map_value p tree f)
    (worked_gives p.groupings.levels f.head f.head.level (map_each tree vs) (map_value p tree f) worked c.as_slice.result.now (ap (map Some) c.as_slice.ensures.value ∙ c.in-Ok.ensures.values))
    made)
    c.in_ok-valued-in-Ok.ensures.added c.in_ok-valued-in-Ok.ensures.parts

pub returns-in-Err-clause-outcome : goal.returns-in-Err-clause-outcome
returns-in-Err-clause-outcome g c =
    let p = c.args.self.now in
    let f = c.args.f in
    let tree = c.args.op.now.tree in
    let vs = c.get.result.now in
    let inside : Package = record { groupings = c.self.inside.table; lists = c.self.inside.values; memo = c.self.inside.memo } in
    let worked = worked_at p c.law.ensures.good tree f c.requires.owned vs (values_read p inside f vs c.self.view_is c.get.ensures.list) in
    overflowed p p (task.Map tree f) c.overflow.result
    (fault_least p.groupings.levels f.head f.head.level (map_each tree vs) (map_value p tree f) worked c.in-Err.fault
    (first_of c.map_exits.result (map_each tree vs) c.in-Err.fault c.in-Err.is c.map_exits.ensures.first)
    c.overflow.result c.overflow.ensures)

pub returns-in_err-valued-in-Ok-clause-outcome : goal.returns-in_err-valued-in-Ok-clause-outcome
returns-in_err-valued-in-Ok-clause-outcome g c = record { answer = search rules; overflow = search rules }
