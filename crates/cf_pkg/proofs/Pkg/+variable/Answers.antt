use Rattle.std.proofs.Common.{ℕ, ◌+◌, ◌-◌, ◌%◌, pos, refl, sym, subst, arith, rules}
use Rattle.cf_model.specs.Values.{Fits}
use Rattle.cf_model.specs.Diagrams.{IsGood}
use Rattle.cf_table.specs.Groupings.{Groupings}
use Rattle.cf_build.specs.Assembling.{Stands}
use Rattle.cf_pkg.specs.declared.memo.JobKey.{JobKey}
use Rattle.cf_pkg.specs.declared.memo.JobKey.TheVariants as key
use Rattle.cf_pkg.specs.declared.memo.Alone.TheVariants.{Variable}
use Rattle.cf_pkg.specs.Basics.{constant_pattern, variable_pattern}
use Rattle.cf_pkg.specs.Tasks as task
use Rattle.cf_pkg.specs.Packages.{Package, IsRemembered}
use Rattle.cf_pkg.specs.Jobs.{Finishes}
use Rattle.cf_pkg.specs.Remembering.{FinishesBelow}
use Rattle.cf_pkg.proofs.Made.{variable_base, stands_kept, two_rows}
use Rattle.cf_pkg.proofs.BasicParts.{variable_adds}
use Rattle.cf_pkg.proofs.Finishing.{constant_stands, variable_stands}
use Rattle.cf_pkg.proofs.Remembering.{variable_is, stands_known, known_is_it, known_below, undone_below, below_memo, below_both, added_known, parts_known}
use Rattle.cf_pkg.proofs.Doing.{finished_here, undone_here, new_remembered, entered_kept, unentered_kept, adds_none}
use Rattle.cf_pkg.proofs.Pkg.+variable.Goals as goal

pub known_variable-with_values-requires-clause-fit : goal.known_variable-with_values-requires-clause-fit
known_variable-with_values-requires-clause-fit t c =
    let zero : Fits (pos 0) = search rules in
    let one : Fits (pos 1) = search rules in
    two_rows Fits (pos 0) (pos 1) zero one

pub variable_grouping-returns-then-level-eq0-clause-stands : goal.variable_grouping-returns-then-level-eq0-clause-stands
variable_grouping-returns-then-level-eq0-clause-stands t c =
    let good : IsGood c.args.self.now.groupings.levels = subst (λ (g : Groupings). IsGood g.levels) c.table.ensures c.law.ensures.good in
    variable_base c.args.self.now.groupings.levels (omega (arith, good.base)) c.args.level c.args.i c.if-level-eq0.true c.requires.variable

pub variable_grouping-returns-in_err-constant-clause-below : goal.variable_grouping-returns-in_err-constant-clause-below
variable_grouping-returns-in_err-constant-clause-below t c =
    below_memo c.args.self.now c.known_constant.new.self c.known_constant.new.self (c.args.level - 1 + 1) c.args.level refl (omega arith) c.known_constant.ensures.below

pub variable_grouping-returns-in_err-variable-clause-below : goal.variable_grouping-returns-in_err-variable-clause-below
variable_grouping-returns-in_err-variable-clause-below t c =
    let p = c.args.self.now in
    let q = c.known_constant.new.self in
    let r = c.known_variable.new.self in
    below_both p q r c.args.level (below_memo p q q (c.args.level - 1 + 1) c.args.level refl (omega arith) c.known_constant.ensures.below)
    (below_memo q r r (c.args.level - 1 + 1) c.args.level refl (omega arith) c.known_variable.ensures.below)

pub variable_grouping-returns-clause-below : goal.variable_grouping-returns-clause-below
variable_grouping-returns-clause-below t c =
    let p = c.args.self.now in
    let q = c.known_constant.new.self in
    let r = c.known_variable.new.self in
    below_both p q c.variable_over.new.self c.args.level (below_memo p q q (c.args.level - 1 + 1) c.args.level refl (omega arith) c.known_constant.ensures.below)
    (below_memo q r c.variable_over.new.self (c.args.level - 1 + 1) c.args.level c.variable_over.ensures.memo (omega arith) c.known_variable.ensures.below)

pub variable_grouping-variable_over-requires-clause-below : goal.variable_grouping-variable_over-requires-clause-below
variable_grouping-variable_over-requires-clause-below t c =
    let p = c.known_constant.new.self in
    let q = c.known_variable.new.self in
    let l = c.args.level - 1 in
    record {
      constant = stands_kept p.groupings.levels q.groupings.levels c.law-2.ensures.good c.in_ok-variable.ensures.kept.groupings c.in_ok-constant.constant.head l (constant_pattern l)
          (constant_stands p c.law-2.ensures.good c.in_ok-constant.constant c.law-2.ensures.function l _ c.in_ok-constant.ensures.is_it);
      variable = subst (λ (h : ℕ). Stands q.groupings.levels c.in_ok-variable.variable.head l (variable_pattern l (c.args.i % h))) c.half_of.ensures
          (variable_stands q c.law-3.ensures.good c.in_ok-variable.variable c.law-3.ensures.function l _ c.in_ok-variable.ensures.is_it);
    }

pub known_variable-remember-requires-clause-undone : goal.known_variable-remember-requires-clause-undone
known_variable-remember-requires-clause-undone t c =
    let p = c.args.self.now in
    let q = c.with_values.new.self in
    undone_below p q (task.Var c.args.level c.args.i) c.in_default.ensures
    (below_memo p c.variable_grouping.new.self q c.args.level c.args.level c.in_ok-made.ensures.memo (omega arith) c.in_ok-head.ensures.below)

pub known_variable-remember-requires-clause-is_it : goal.known_variable-remember-requires-clause-is_it
known_variable-remember-requires-clause-is_it t c =
    let q = c.with_values.new.self in
    let f = c.in_ok-made.made in
    let good : IsGood q.groupings.levels = subst (λ (g : Groupings). IsGood g.levels) c.table.ensures c.law.ensures.good in
    let s = stands_known c.variable_grouping.new.self q c.in_ok-head.head f c.args.level (variable_pattern c.args.level c.args.i) c.in_ok-made.ensures.groupings c.in_ok-made.ensures.head c.in_ok-head.ensures.stands in
    variable_is q f c.args.level c.args.i c.requires.level c.requires.variable good s c.in_ok-made.ensures.values

-- what the variable is remembered by
abbrev known_key : ℕ → ℕ → JobKey
known_key level i = key.Alone (Variable level i)

pub known_variable-returns-in-Some-clause-finished : goal.known_variable-returns-in-Some-clause-finished
known_variable-returns-in-Some-clause-finished t c =
    let p = c.args.self.now in
    finished_here p (task.Var c.args.level c.args.i) c.in-Some.known c.in-Some.ensures

pub known_variable-returns-in_err-head-clause-finished : goal.known_variable-returns-in_err-head-clause-finished
known_variable-returns-in_err-head-clause-finished t c = undone_here c.args.self.now c.variable_grouping.new.self (task.Var c.args.level c.args.i) c.in_default.ensures _

pub known_variable-returns-in_err-made-clause-finished : goal.known_variable-returns-in_err-made-clause-finished
known_variable-returns-in_err-made-clause-finished t c = undone_here c.args.self.now c.with_values.new.self (task.Var c.args.level c.args.i) c.in_default.ensures _

pub known_variable-returns-in_err-remember-clause-finished : goal.known_variable-returns-in_err-remember-clause-finished
known_variable-returns-in_err-remember-clause-finished t c = undone_here c.args.self.now c.remember.new.self (task.Var c.args.level c.args.i) c.in_default.ensures _

pub known_variable-returns-clause-finished : goal.known_variable-returns-clause-finished
known_variable-returns-clause-finished t c = undone_here c.args.self.now c.remember.new.self (task.Var c.args.level c.args.i) c.in_default.ensures _

pub known_variable-returns-in_err-head-clause-below : goal.known_variable-returns-in_err-head-clause-below
known_variable-returns-in_err-head-clause-below t c = below_memo c.args.self.now c.variable_grouping.new.self c.variable_grouping.new.self c.args.level (c.args.level + 1) refl (omega arith) c.variable_grouping.ensures.below

pub known_variable-returns-in_err-made-clause-below : goal.known_variable-returns-in_err-made-clause-below
known_variable-returns-in_err-made-clause-below t c =
    below_memo c.args.self.now c.variable_grouping.new.self c.with_values.new.self c.args.level (c.args.level + 1) c.with_values.ensures.memo (omega arith) c.variable_grouping.ensures.below

pub known_variable-returns-in_err-remember-clause-below : goal.known_variable-returns-in_err-remember-clause-below
known_variable-returns-in_err-remember-clause-below t c =
    subst (λ (x : Package). FinishesBelow c.args.self.now x (c.args.level + 1)) (sym c.in_err-remember.ensures.no_memory)
    (below_memo c.args.self.now c.variable_grouping.new.self c.with_values.new.self c.args.level (c.args.level + 1) c.with_values.ensures.memo (omega arith) c.variable_grouping.ensures.below)

pub known_variable-returns-in_err-remember-clause-kept : goal.known_variable-returns-in_err-remember-clause-kept
known_variable-returns-in_err-remember-clause-kept t c =
    unentered_kept c.args.self.now c.variable_grouping.new.self c.with_values.new.self c.remember.new.self c.in_err-remember.ensures.no_memory c.variable_grouping.ensures.kept c.with_values.ensures.kept

pub known_variable-returns-clause-is_it : goal.known_variable-returns-clause-is_it
known_variable-returns-clause-is_it t c =
    let q = c.with_values.new.self in
    let f = c.in_ok-made.made in
    let good : IsGood q.groupings.levels = subst (λ (g : Groupings). IsGood g.levels) c.table.ensures c.law.ensures.good in
    let s = stands_known c.variable_grouping.new.self q c.in_ok-head.head f c.args.level (variable_pattern c.args.level c.args.i) c.in_ok-made.ensures.groupings c.in_ok-made.ensures.head c.in_ok-head.ensures.stands in
    let is_it : Finishes q (task.Var c.args.level c.args.i) f = variable_is q f c.args.level c.args.i c.requires.level c.requires.variable good s c.in_ok-made.ensures.values in
    known_is_it q c.remember.new.self (known_key c.args.level c.args.i) (task.Var c.args.level c.args.i) f c.in_ok-remember.ensures.remembered is_it

pub known_variable-returns-clause-remembered : goal.known_variable-returns-clause-remembered
known_variable-returns-clause-remembered t c =
    let q = c.with_values.new.self in
    let f = c.in_ok-made.made in
    subst (λ (x : Package). IsRemembered x (task.Var c.args.level c.args.i) f) (sym c.in_ok-remember.ensures.remembered) (new_remembered q (known_key c.args.level c.args.i) (task.Var c.args.level c.args.i) f (refl))

pub known_variable-returns-clause-below : goal.known_variable-returns-clause-below
known_variable-returns-clause-below t c =
    known_below c.args.self.now c.variable_grouping.new.self c.with_values.new.self c.remember.new.self (known_key c.args.level c.args.i) c.in_ok-made.made c.args.level (c.args.level + 1) c.in_ok-remember.ensures.remembered c.in_ok-made.ensures.memo (omega arith) (omega arith)
    c.in_ok-head.ensures.below

pub known_variable-returns-clause-kept : goal.known_variable-returns-clause-kept
known_variable-returns-clause-kept t c =
    entered_kept c.args.self.now c.variable_grouping.new.self c.with_values.new.self c.remember.new.self (known_key c.args.level c.args.i) c.in_ok-made.made c.in_ok-remember.ensures.remembered c.in_ok-head.ensures.kept c.in_ok-made.ensures.kept

pub variable_grouping-returns-then-level-eq0-clause-added : goal.variable_grouping-returns-then-level-eq0-clause-added
variable_grouping-returns-then-level-eq0-clause-added t c = adds_none c.args.self.now.groupings c.args.self.now.groupings refl _

pub variable_grouping-returns-clause-added : goal.variable_grouping-returns-clause-added
variable_grouping-returns-clause-added t c =
    let p = c.known_constant.new.self in
    let q = c.known_variable.new.self in
    let r = c.variable_over.new.self in
    let l = c.args.level - 1 in
    let b = c.in_ok-constant.constant in
    let a = c.in_ok-variable.variable in
    variable_adds c.args.self.now.groupings p.groupings q.groupings r.groupings c.law-2.ensures.good c.law-3.ensures.good c.variable_over.ensures.good c.in_ok-variable.ensures.kept.groupings c.variable_over.ensures.kept.groupings
    b.head a.head l c.args.level c.args.i (omega arith) c.requires.variable
    (constant_stands p c.law-2.ensures.good b c.law-2.ensures.function l _ c.in_ok-constant.ensures.is_it)
    (subst (λ (h : ℕ). Stands q.groupings.levels a.head l (variable_pattern l (c.args.i % h))) c.half_of.ensures (variable_stands q c.law-3.ensures.good a c.law-3.ensures.function l _ c.in_ok-variable.ensures.is_it))
    c.in_ok-constant.ensures.added c.in_ok-variable.ensures.added c.variable_over.result c.variable_over.ensures.stands c.variable_over.ensures.added

pub known_variable-returns-in-Some-clause-added : goal.known_variable-returns-in-Some-clause-added
known_variable-returns-in-Some-clause-added t c = adds_none c.args.self.now.groupings c.args.self.now.groupings refl _

pub known_variable-returns-clause-added : goal.known_variable-returns-clause-added
known_variable-returns-clause-added t c =
    added_known c.args.self.now c.variable_grouping.new.self c.with_values.new.self c.remember.new.self (known_key c.args.level c.args.i) c.in_ok-head.head c.in_ok-made.made c.in_ok-made.ensures.groupings c.in_ok-made.ensures.head
    c.in_ok-remember.ensures.remembered c.in_ok-head.ensures.added

pub known_variable-returns-in-Some-clause-parts : goal.known_variable-returns-in-Some-clause-parts
known_variable-returns-in-Some-clause-parts t c = c.in-Some.ensures.parts

pub known_variable-returns-clause-parts : goal.known_variable-returns-clause-parts
known_variable-returns-clause-parts t c =
    let q = c.with_values.new.self in
    let f = c.in_ok-made.made in
    let good : IsGood q.groupings.levels = subst (λ (g : Groupings). IsGood g.levels) c.table.ensures c.law.ensures.good in
    let s = stands_known c.variable_grouping.new.self q c.in_ok-head.head f c.args.level (variable_pattern c.args.level c.args.i) c.in_ok-made.ensures.groupings c.in_ok-made.ensures.head c.in_ok-head.ensures.stands in
    parts_known q c.remember.new.self (known_key c.args.level c.args.i) f good s.there c.in_ok-remember.ensures.remembered
