use Rattle.std.proofs.Common.{rules, ◌≡◌, ℕ, ℤ, List, ◌++◌, map, Some, sym, ◌∙◌, ap, subst}
use Rattle.std.specs.List.{slice_get, zip}
use Rattle.cf_model.specs.Functions.{function_of}
use Rattle.cf_model.specs.Diagrams.{Levels, pattern, IsGood}
use Rattle.cf_model.specs.declared.terms.Term.{Term}
use Rattle.cf_table.specs.declared.Gid.{Gid}
use Rattle.cf_table.specs.Groupings.{pattern_of}
use Rattle.cf_build.specs.Assembling.{HasCanon, AddsOnly}
use Rattle.cf_pkg.specs.declared.Func.{Func}
use Rattle.cf_pkg.specs.Tasks as task
use Rattle.cf_pkg.specs.Packages.{Package, Means, values_of, function_parts}
use Rattle.cf_pkg.specs.Products.{pair_parts}
use Rattle.cf_pkg.specs.Exits.{apply_each, PairsWithin}
use Rattle.cf_pkg.specs.Jobs.{AreLevel, apply_value}
use Rattle.cf_pkg.proofs.Valued.{Worked, worked_gives, worked_long, has_values, fault_exit, fault_least, first_of, values_read}
use Rattle.cf_pkg.proofs.Works.{apply_worked, pairs_within}
use Rattle.cf_pkg.proofs.Added.{pair_added}
use Rattle.cf_pkg.proofs.Remembering.{sound_shown}
use Rattle.cf_pkg.proofs.Doing.{answered, overflowed}
use Rattle.cf_pkg.proofs.Pkg.apply_anew.Goals as goal

-- What is known once the pairs of the product and both lists of values were read.
record Read (p : Package) (f g : Func) (u : Levels) (r : Gid) (pairs : List (ℕ × ℕ)) (vs ws : List ℤ) : Type 0 where
  good : IsGood p.groupings.levels
  in_order : AreLevel p f g
  now_good : IsGood u
  canon : HasCanon u r f.head.level (zip (pattern_of p.groupings f.head) (pattern_of p.groupings g.head)) pairs
  left : values_of p f ≡ vs
  right : values_of p g ≡ ws

within : (p : Package) (f g : Func) (u : Levels) (r : Gid) (pairs : List (ℕ × ℕ)) (vs ws : List ℤ) → Read p f g u r pairs vs ws → PairsWithin vs ws pairs
within p f g u r pairs vs ws k =
    subst (λ (xs : List ℤ). PairsWithin xs ws pairs) k.left
    (subst (λ (xs : List ℤ). PairsWithin (values_of p f) xs pairs) k.right (pairs_within p k.good f g k.in_order (pattern u r.level r.at) pairs k.canon.canon))

worked : (p : Package) (f g : Func) (u : Levels) (r : Gid) (pairs : List (ℕ × ℕ)) (vs ws : List ℤ) → Read p f g u r pairs vs ws → (tree : Term) → Worked u r f.head.level (apply_each tree vs ws pairs) (apply_value p tree f g)
worked p f g u r pairs vs ws k tree =
    subst (λ (xs : List ℤ). Worked u r f.head.level (apply_each tree xs ws pairs) (apply_value p tree f g)) k.left
    (subst (λ (xs : List ℤ). Worked u r f.head.level (apply_each tree (values_of p f) xs pairs) (apply_value p tree f g)) k.right (apply_worked p k.good tree f g k.in_order u k.now_good r pairs k.canon))

-- the same from what the code has
reading : (p inside : Package) (f g : Func) (u : Levels) (r : Gid) (items pairs : List (ℕ × ℕ)) (vs ws : List ℤ) → IsGood p.groupings.levels → AreLevel p f g → IsGood u
    → HasCanon u r f.head.level (zip (pattern_of inside.groupings f.head) (pattern_of inside.groupings g.head)) items → pairs ≡ items → inside ≡ p
    → slice_get inside.lists f.vals.at ≡ Some vs → slice_get inside.lists g.vals.at ≡ Some ws → Read p f g u r pairs vs ws
reading p inside f g u r items pairs vs ws good o good_u c e is l m = record {
  good = good;
  in_order = o;
  now_good = good_u;
  canon = subst (λ (q : Package). HasCanon u r f.head.level (zip (pattern_of q.groupings f.head) (pattern_of q.groupings g.head)) pairs) is
      (subst (λ (v : List (ℕ × ℕ)). HasCanon u r f.head.level (zip (pattern_of inside.groupings f.head) (pattern_of inside.groupings g.head)) v) (sym e) c);
  left = values_read p inside f vs is l;
  right = values_read p inside g ws is m;
}

pub apply_exits-requires-clause-within : goal.apply_exits-requires-clause-within
apply_exits-requires-clause-within g c =
    let p = c.args.self.now in
    let inside : Package = record { groupings = c.self.inside.table; lists = c.self.inside.values; memo = c.self.inside.memo } in
    let u = c.pair.new.table.levels in
    let read = reading p inside c.args.f c.args.g u c.in_ok-head.head c.in_ok-head.pairs.items c.as_slice.result.now c.get-left.result.now c.get-right.result.now c.law.ensures.good c.requires.level c.in_ok-head.ensures.good
    c.in_ok-head.ensures.paired c.as_slice.ensures.value c.self.view_is c.get-left.ensures.list c.get-right.ensures.list in
    within p c.args.f c.args.g u c.in_ok-head.head c.as_slice.result.now c.get-left.result.now c.get-right.result.now read

pub valued-requires-clause-valued : goal.valued-requires-clause-valued
valued-requires-clause-valued g c =
    let p = c.args.self.now in
    let inside : Package = record { groupings = c.self.inside.table; lists = c.self.inside.values; memo = c.self.inside.memo } in
    let u = c.pair.new.table.levels in
    let read = reading p inside c.args.f c.args.g u c.in_ok-head.head c.in_ok-head.pairs.items c.as_slice.result.now c.get-left.result.now c.get-right.result.now c.law.ensures.good c.requires.level c.in_ok-head.ensures.good
    c.in_ok-head.ensures.paired c.as_slice.ensures.value c.self.view_is c.get-left.ensures.list c.get-right.ensures.list in
    let w = worked p c.args.f c.args.g u c.in_ok-head.head c.as_slice.result.now c.get-left.result.now c.get-right.result.now read c.args.op.now.tree in
    worked_long u c.in_ok-head.head c.args.f.head.level (apply_each c.args.op.now.tree c.get-left.result.now c.get-right.result.now c.as_slice.result.now) (apply_value p c.args.op.now.tree c.args.f c.args.g) w
    c.as_slice-in-Ok.result.now (ap (map Some) c.as_slice-in-Ok.ensures.value ∙ c.in-Ok.ensures.values)

pub returns-in-Ok-clause-outcome : goal.returns-in-Ok-clause-outcome
returns-in-Ok-clause-outcome g c =
    let p = c.args.self.now in
    let inside : Package = record { groupings = c.self.inside.table; lists = c.self.inside.values; memo = c.self.inside.memo } in
    let u = c.pair.new.table.levels in
    let read = reading p inside c.args.f c.args.g u c.in_ok-head.head c.in_ok-head.pairs.items c.as_slice.result.now c.get-left.result.now c.get-right.result.now c.law.ensures.good c.requires.level c.in_ok-head.ensures.good
    c.in_ok-head.ensures.paired c.as_slice.ensures.value c.self.view_is c.get-left.ensures.list c.get-right.ensures.list in
    let w = worked p c.args.f c.args.g u c.in_ok-head.head c.as_slice.result.now c.get-left.result.now c.get-right.result.now read c.args.op.now.tree in
    let made : Means c.valued.new.self c.in_ok-valued-in-Ok.field-0 (function_of u c.in_ok-head.head.level c.in_ok-head.head.at c.as_slice-in-Ok.result.now) = c.in_ok-valued-in-Ok.ensures.means in
    let q = c.valued.new.self in
    let answer = c.in_ok-valued-in-Ok in
    answered p q (task.Apply c.args.op.now.tree c.args.f c.args.g) answer.field-0
    (has_values u c.valued.new.self c.in_ok-head.head c.in_ok-valued-in-Ok.field-0 c.as_slice-in-Ok.result.now c.args.f.head.level (apply_value p c.args.op.now.tree c.args.f c.args.g)
    (worked_gives u c.in_ok-head.head c.args.f.head.level (apply_each c.args.op.now.tree c.get-left.result.now c.get-right.result.now c.as_slice.result.now) (apply_value p c.args.op.now.tree c.args.f c.args.g) w
    c.as_slice-in-Ok.result.now (ap (map Some) c.as_slice-in-Ok.ensures.value ∙ c.in-Ok.ensures.values))
    made)
    (subst (λ (b : Package). AddsOnly b.groupings.levels q.groupings.levels (pair_parts b c.args.f c.args.g ++ function_parts q answer.field-0)) c.self.view_is
    (pair_added inside q c.args.f c.args.g u c.in_ok-head.head c.in_ok-head.pairs.items answer.field-0 c.in_ok-head.ensures.good answer.ensures.kept.groupings c.in_ok-head.ensures.paired c.in_ok-head.ensures.added answer.ensures.added))
    answer.ensures.parts

pub overflow-requires-clause-exit : goal.overflow-requires-clause-exit
overflow-requires-clause-exit g c =
    let p = c.args.self.now in
    let inside : Package = record { groupings = c.self.inside.table; lists = c.self.inside.values; memo = c.self.inside.memo } in
    let u = c.pair.new.table.levels in
    let read = reading p inside c.args.f c.args.g u c.in_ok-head.head c.in_ok-head.pairs.items c.as_slice.result.now c.get-left.result.now c.get-right.result.now c.law.ensures.good c.requires.level c.in_ok-head.ensures.good
    c.in_ok-head.ensures.paired c.as_slice.ensures.value c.self.view_is c.get-left.ensures.list c.get-right.ensures.list in
    let w = worked p c.args.f c.args.g u c.in_ok-head.head c.as_slice.result.now c.get-left.result.now c.get-right.result.now read c.args.op.now.tree in
    let words = apply_each c.args.op.now.tree c.get-left.result.now c.get-right.result.now c.as_slice.result.now in
    fault_exit u c.in_ok-head.head c.args.f.head.level words (apply_value p c.args.op.now.tree c.args.f c.args.g) w c.in-Err.fault
    (first_of c.apply_exits.result words c.in-Err.fault c.in-Err.is c.apply_exits.ensures.first)

pub returns-clause-outcome : goal.returns-clause-outcome
returns-clause-outcome g c =
    let p = c.args.self.now in
    let inside : Package = record { groupings = c.self.inside.table; lists = c.self.inside.values; memo = c.self.inside.memo } in
    let u = c.pair.new.table.levels in
    let read = reading p inside c.args.f c.args.g u c.in_ok-head.head c.in_ok-head.pairs.items c.as_slice.result.now c.get-left.result.now c.get-right.result.now c.law.ensures.good c.requires.level c.in_ok-head.ensures.good
    c.in_ok-head.ensures.paired c.as_slice.ensures.value c.self.view_is c.get-left.ensures.list c.get-right.ensures.list in
    let w = worked p c.args.f c.args.g u c.in_ok-head.head c.as_slice.result.now c.get-left.result.now c.get-right.result.now read c.args.op.now.tree in
    let words = apply_each c.args.op.now.tree c.get-left.result.now c.get-right.result.now c.as_slice.result.now in
    overflowed p _ (task.Apply c.args.op.now.tree c.args.f c.args.g) c.overflow.result
    (fault_least u c.in_ok-head.head c.args.f.head.level words (apply_value p c.args.op.now.tree c.args.f c.args.g) w c.in-Err.fault
    (first_of c.apply_exits.result words c.in-Err.fault c.in-Err.is c.apply_exits.ensures.first)
    c.overflow.result c.overflow.ensures)

pub invariant_of-self : goal.invariant_of-self
invariant_of-self g c = sound_shown c.args.self.now c.self.inside.table c.pair.new.table c.self.inside.values c.self.inside.memo c.self.view_is c.law.ensures.good c.in_err-head.ensures.kept c.in_err-head.ensures.tuples c.self.invariant

pub invariant_of-self-in-Ok : goal.invariant_of-self-in-Ok
invariant_of-self-in-Ok g c = sound_shown c.args.self.now c.self.inside.table c.pair.new.table c.self.inside.values c.self.inside.memo c.self.view_is c.law.ensures.good c.in_ok-head.ensures.kept c.in_ok-head.ensures.tuples c.self.invariant

pub invariant_of-self-in-Err : goal.invariant_of-self-in-Err
invariant_of-self-in-Err g c = sound_shown c.args.self.now c.self.inside.table c.pair.new.table c.self.inside.values c.self.inside.memo c.self.view_is c.law.ensures.good c.in_ok-head.ensures.kept c.in_ok-head.ensures.tuples c.self.invariant

pub returns-in_err-head-clause-outcome : goal.returns-in_err-head-clause-outcome
returns-in_err-head-clause-outcome g c = record { answer = search rules; overflow = search rules }

pub returns-in_err-valued-in-Ok-clause-outcome : goal.returns-in_err-valued-in-Ok-clause-outcome
returns-in_err-valued-in-Ok-clause-outcome g c = record { answer = search rules; overflow = search rules }
