use Rattle.std.proofs.Common.{ℕ, ◌+◌, ◌-◌, ℤ, refl, sym, ap, subst, arith}
use mir.Syntax.{w128}
use mir.Val.{to_z, of_z}
use Rattle.std.proofs.lemmas.Int.{to_z-of_z}
use Rattle.cf_model.specs.Values.{Fits}
use Rattle.cf_model.specs.Diagrams.{IsGood}
use Rattle.cf_table.specs.Groupings.{Groupings}
use Rattle.cf_pkg.specs.declared.memo.JobKey.{JobKey}
use Rattle.cf_pkg.specs.declared.memo.JobKey.TheVariants as key
use Rattle.cf_pkg.specs.declared.memo.Alone.TheVariants.{Constant}
use Rattle.cf_pkg.specs.Basics.{constant_pattern}
use Rattle.cf_pkg.specs.Tasks as task
use Rattle.cf_pkg.specs.Memos.{IsUndone}
use Rattle.cf_pkg.specs.Packages.{Package, IsRemembered}
use Rattle.cf_pkg.specs.Jobs.{Finishes}
use Rattle.cf_pkg.specs.Remembering.{IsDone, FinishesBelow}
use Rattle.cf_pkg.proofs.Made.{constant_base, one_row}
use Rattle.cf_pkg.proofs.BasicParts.{constant_adds}
use Rattle.cf_pkg.proofs.Finishing.{constant_stands}
use Rattle.cf_pkg.proofs.Remembering.{constant_is, stands_known, known_is_it, known_below, undone_below, below_memo, added_known, parts_known}
use Rattle.cf_pkg.proofs.Doing.{finished_here, undone_here, new_remembered, entered_kept, unentered_kept, adds_none}
use Rattle.cf_pkg.proofs.Pkg.+constant.Goals as goal

pub constant_grouping-returns-then-level-eq0-clause-stands : goal.constant_grouping-returns-then-level-eq0-clause-stands
constant_grouping-returns-then-level-eq0-clause-stands t c =
    let good : IsGood c.args.self.now.groupings.levels = subst (λ (g : Groupings). IsGood g.levels) c.table.ensures c.law.ensures.good in
    constant_base c.args.self.now.groupings.levels (omega (arith, good.base)) c.args.level c.if-level-eq0.true

pub constant_grouping-constant_over-requires-clause-below : goal.constant_grouping-constant_over-requires-clause-below
constant_grouping-constant_over-requires-clause-below t c =
    constant_stands c.known_constant.new.self c.law-2.ensures.good c.in_ok-below.below c.law-2.ensures.function (c.args.level - 1) _ c.in_ok-below.ensures.is_it

pub constant_grouping-returns-in_err-below-clause-below : goal.constant_grouping-returns-in_err-below-clause-below
constant_grouping-returns-in_err-below-clause-below t c =
    below_memo c.args.self.now c.known_constant.new.self c.known_constant.new.self (c.args.level - 1 + 1) c.args.level refl (omega arith) c.known_constant.ensures.below

pub constant_grouping-returns-clause-below : goal.constant_grouping-returns-clause-below
constant_grouping-returns-clause-below t c =
    below_memo c.args.self.now c.known_constant.new.self c.constant_over.new.self (c.args.level - 1 + 1) c.args.level c.constant_over.ensures.memo (omega arith) c.known_constant.ensures.below

pub known_constant-with_values-requires-clause-fit : goal.known_constant-with_values-requires-clause-fit
known_constant-with_values-requires-clause-fit t c = one_row Fits _ (subst Fits (sym (to_z-of_z w128 c.args.v c.ranges.v)) c.ranges.v)

pub known_constant-remember-requires-clause-undone : goal.known_constant-remember-requires-clause-undone
known_constant-remember-requires-clause-undone t c =
    let p = c.args.self.now in
    let q = c.with_values.new.self in
    undone_below p q (task.Const c.args.level _) c.in_default.ensures
    (below_memo p c.constant_grouping.new.self q c.args.level c.args.level c.in_ok-made.ensures.memo (omega arith) c.in_ok-head.ensures.below)

pub known_constant-remember-requires-clause-is_it : goal.known_constant-remember-requires-clause-is_it
known_constant-remember-requires-clause-is_it t c =
    let q = c.with_values.new.self in
    let f = c.in_ok-made.made in
    let good : IsGood q.groupings.levels = subst (λ (g : Groupings). IsGood g.levels) c.table.ensures c.law.ensures.good in
    let s = stands_known c.constant_grouping.new.self q c.in_ok-head.head f c.args.level (constant_pattern c.args.level) c.in_ok-made.ensures.groupings c.in_ok-made.ensures.head c.in_ok-head.ensures.stands in
    constant_is q f c.args.level (to_z w128 (of_z w128 c.args.v)) c.requires.level good s c.in_ok-made.ensures.values

-- what the constant is remembered by
abbrev known_key : ℕ → ℤ → JobKey
known_key level v = key.Alone (Constant level (to_z w128 (of_z w128 v)))

pub known_constant-returns-in-Some-clause-finished : goal.known_constant-returns-in-Some-clause-finished
known_constant-returns-in-Some-clause-finished t c =
    let p = c.args.self.now in
    finished_here p (task.Const c.args.level c.args.v) c.in-Some.known (subst (λ (z : ℤ). IsDone p (task.Const c.args.level z) c.in-Some.known) (to_z-of_z w128 c.args.v c.ranges.v) c.in-Some.ensures)

pub known_constant-returns-in_err-head-clause-finished : goal.known_constant-returns-in_err-head-clause-finished
known_constant-returns-in_err-head-clause-finished t c = undone_here c.args.self.now c.constant_grouping.new.self (task.Const c.args.level c.args.v) (subst (λ (z : ℤ). IsUndone c.args.self.now.memo (task.Const c.args.level z)) (to_z-of_z w128 c.args.v c.ranges.v) c.in_default.ensures) _

pub known_constant-returns-in_err-made-clause-finished : goal.known_constant-returns-in_err-made-clause-finished
known_constant-returns-in_err-made-clause-finished t c = undone_here c.args.self.now c.with_values.new.self (task.Const c.args.level c.args.v) (subst (λ (z : ℤ). IsUndone c.args.self.now.memo (task.Const c.args.level z)) (to_z-of_z w128 c.args.v c.ranges.v) c.in_default.ensures) _

pub known_constant-returns-in_err-remember-clause-finished : goal.known_constant-returns-in_err-remember-clause-finished
known_constant-returns-in_err-remember-clause-finished t c = undone_here c.args.self.now c.remember.new.self (task.Const c.args.level c.args.v) (subst (λ (z : ℤ). IsUndone c.args.self.now.memo (task.Const c.args.level z)) (to_z-of_z w128 c.args.v c.ranges.v) c.in_default.ensures) _

pub known_constant-returns-clause-finished : goal.known_constant-returns-clause-finished
known_constant-returns-clause-finished t c = undone_here c.args.self.now c.remember.new.self (task.Const c.args.level c.args.v) (subst (λ (z : ℤ). IsUndone c.args.self.now.memo (task.Const c.args.level z)) (to_z-of_z w128 c.args.v c.ranges.v) c.in_default.ensures) _

pub known_constant-returns-in_err-head-clause-below : goal.known_constant-returns-in_err-head-clause-below
known_constant-returns-in_err-head-clause-below t c = below_memo c.args.self.now c.constant_grouping.new.self c.constant_grouping.new.self c.args.level (c.args.level + 1) refl (omega arith) c.constant_grouping.ensures.below

pub known_constant-returns-in_err-made-clause-below : goal.known_constant-returns-in_err-made-clause-below
known_constant-returns-in_err-made-clause-below t c =
    below_memo c.args.self.now c.constant_grouping.new.self c.with_values.new.self c.args.level (c.args.level + 1) c.with_values.ensures.memo (omega arith) c.constant_grouping.ensures.below

pub known_constant-returns-in_err-remember-clause-below : goal.known_constant-returns-in_err-remember-clause-below
known_constant-returns-in_err-remember-clause-below t c =
    subst (λ (x : Package). FinishesBelow c.args.self.now x (c.args.level + 1)) (sym c.in_err-remember.ensures.no_memory)
    (below_memo c.args.self.now c.constant_grouping.new.self c.with_values.new.self c.args.level (c.args.level + 1) c.with_values.ensures.memo (omega arith) c.constant_grouping.ensures.below)

pub known_constant-returns-in_err-remember-clause-kept : goal.known_constant-returns-in_err-remember-clause-kept
known_constant-returns-in_err-remember-clause-kept t c =
    unentered_kept c.args.self.now c.constant_grouping.new.self c.with_values.new.self c.remember.new.self c.in_err-remember.ensures.no_memory c.constant_grouping.ensures.kept c.with_values.ensures.kept

pub known_constant-returns-clause-is_it : goal.known_constant-returns-clause-is_it
known_constant-returns-clause-is_it t c =
    let q = c.with_values.new.self in
    let f = c.in_ok-made.made in
    let good : IsGood q.groupings.levels = subst (λ (g : Groupings). IsGood g.levels) c.table.ensures c.law.ensures.good in
    let s = stands_known c.constant_grouping.new.self q c.in_ok-head.head f c.args.level (constant_pattern c.args.level) c.in_ok-made.ensures.groupings c.in_ok-made.ensures.head c.in_ok-head.ensures.stands in
    let is_it : Finishes q (task.Const c.args.level c.args.v) f
    = subst (λ (z : ℤ). Finishes q (task.Const c.args.level z) f) (to_z-of_z w128 c.args.v c.ranges.v) (constant_is q f c.args.level (to_z w128 (of_z w128 c.args.v)) c.requires.level good s c.in_ok-made.ensures.values) in
    known_is_it q c.remember.new.self (known_key c.args.level c.args.v) (task.Const c.args.level c.args.v) f c.in_ok-remember.ensures.remembered is_it

pub known_constant-returns-clause-remembered : goal.known_constant-returns-clause-remembered
known_constant-returns-clause-remembered t c =
    let q = c.with_values.new.self in
    let f = c.in_ok-made.made in
    subst (λ (x : Package). IsRemembered x (task.Const c.args.level c.args.v) f) (sym c.in_ok-remember.ensures.remembered) (new_remembered q (known_key c.args.level c.args.v) (task.Const c.args.level c.args.v) f (ap (λ (z : ℤ). task.Const c.args.level z) (to_z-of_z w128 c.args.v c.ranges.v)))

pub known_constant-returns-clause-below : goal.known_constant-returns-clause-below
known_constant-returns-clause-below t c =
    known_below c.args.self.now c.constant_grouping.new.self c.with_values.new.self c.remember.new.self (known_key c.args.level c.args.v) c.in_ok-made.made c.args.level (c.args.level + 1) c.in_ok-remember.ensures.remembered c.in_ok-made.ensures.memo (omega arith) (omega arith)
    c.in_ok-head.ensures.below

pub known_constant-returns-clause-kept : goal.known_constant-returns-clause-kept
known_constant-returns-clause-kept t c =
    entered_kept c.args.self.now c.constant_grouping.new.self c.with_values.new.self c.remember.new.self (known_key c.args.level c.args.v) c.in_ok-made.made c.in_ok-remember.ensures.remembered c.in_ok-head.ensures.kept c.in_ok-made.ensures.kept

pub constant_grouping-returns-then-level-eq0-clause-added : goal.constant_grouping-returns-then-level-eq0-clause-added
constant_grouping-returns-then-level-eq0-clause-added t c = adds_none c.args.self.now.groupings c.args.self.now.groupings refl _

pub constant_grouping-returns-clause-added : goal.constant_grouping-returns-clause-added
constant_grouping-returns-clause-added t c =
    let q = c.known_constant.new.self in
    let r = c.constant_over.new.self in
    let l = c.args.level - 1 in
    let below = c.in_ok-below.below in
    constant_adds c.args.self.now.groupings q.groupings r.groupings c.law-2.ensures.good c.constant_over.ensures.good c.constant_over.ensures.kept.groupings below.head l c.args.level (omega arith)
    (constant_stands q c.law-2.ensures.good below c.law-2.ensures.function l _ c.in_ok-below.ensures.is_it) c.in_ok-below.ensures.added c.constant_over.result c.constant_over.ensures.stands c.constant_over.ensures.added

pub known_constant-returns-in-Some-clause-added : goal.known_constant-returns-in-Some-clause-added
known_constant-returns-in-Some-clause-added t c = adds_none c.args.self.now.groupings c.args.self.now.groupings refl _

pub known_constant-returns-clause-added : goal.known_constant-returns-clause-added
known_constant-returns-clause-added t c =
    added_known c.args.self.now c.constant_grouping.new.self c.with_values.new.self c.remember.new.self (known_key c.args.level c.args.v) c.in_ok-head.head c.in_ok-made.made c.in_ok-made.ensures.groupings c.in_ok-made.ensures.head
    c.in_ok-remember.ensures.remembered c.in_ok-head.ensures.added

pub known_constant-returns-in-Some-clause-parts : goal.known_constant-returns-in-Some-clause-parts
known_constant-returns-in-Some-clause-parts t c = c.in-Some.ensures.parts

pub known_constant-returns-clause-parts : goal.known_constant-returns-clause-parts
known_constant-returns-clause-parts t c =
    let q = c.with_values.new.self in
    let f = c.in_ok-made.made in
    let good : IsGood q.groupings.levels = subst (λ (g : Groupings). IsGood g.levels) c.table.ensures c.law.ensures.good in
    let s = stands_known c.constant_grouping.new.self q c.in_ok-head.head f c.args.level (constant_pattern c.args.level) c.in_ok-made.ensures.groupings c.in_ok-made.ensures.head c.in_ok-head.ensures.stands in
    parts_known q c.remember.new.self (known_key c.args.level c.args.v) f good s.there c.in_ok-remember.ensures.remembered
