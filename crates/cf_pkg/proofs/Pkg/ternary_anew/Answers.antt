use Rattle.std.proofs.Common.{rules, ◌≡◌, ℕ, ℤ, List, ◌++◌, map, Some, sym, ◌∙◌, ap, subst}
use Rattle.std.specs.List.{slice_get}
use Rattle.cf_model.specs.Functions.{function_of}
use Rattle.cf_model.specs.Diagrams.{Levels, pattern, IsGood}
use Rattle.cf_model.specs.declared.terms.Term.{Term}
use Rattle.cf_table.specs.declared.Gid.{Gid}
use Rattle.cf_table.specs.Groupings.{pattern_of}
use Rattle.cf_build.specs.Assembling.{HasCanon, AddsOnly}
use Rattle.cf_table.specs.Triples.{zip3}
use Rattle.cf_pkg.specs.declared.Func.{Func}
use Rattle.cf_pkg.specs.Tasks as task
use Rattle.cf_pkg.specs.Packages.{Package, Means, values_of, function_parts}
use Rattle.cf_pkg.specs.Products.{triple_parts}
use Rattle.cf_pkg.specs.Exits.{ternary_each, TriplesWithin}
use Rattle.cf_pkg.specs.Jobs.{AreLevel, ternary_value}
use Rattle.cf_pkg.proofs.Valued.{Worked, worked_gives, worked_long, has_values, fault_exit, fault_least, first_of, values_read}
use Rattle.cf_pkg.proofs.Works.{ternary_worked, triples_within}
use Rattle.cf_pkg.proofs.Added.{triple_added}
use Rattle.cf_pkg.proofs.Remembering.{sound_shown}
use Rattle.cf_pkg.proofs.Doing.{answered, overflowed}
use Rattle.cf_pkg.proofs.Pkg.ternary_anew.Goals as goal

abbrev all_of : Package → Func → Func → Func → List (ℕ × ℕ × ℕ)
all_of p f g h = zip3 (pattern_of p.groupings f.head) (pattern_of p.groupings g.head) (pattern_of p.groupings h.head)

-- What is known once the triples of the product and the three lists of values were read.
record Read (p : Package) (f g h : Func) (u : Levels) (r : Gid) (triples : List (ℕ × ℕ × ℕ)) (us vs ws : List ℤ) : Type 0 where
  good : IsGood p.groupings.levels
  in_order : AreLevel p f g
  third_in_order : AreLevel p f h
  now_good : IsGood u
  canon : HasCanon u r f.head.level (all_of p f g h) triples
  first : values_of p f ≡ us
  second : values_of p g ≡ vs
  third : values_of p h ≡ ws

within : (p : Package) (f g h : Func) (u : Levels) (r : Gid) (triples : List (ℕ × ℕ × ℕ)) (us vs ws : List ℤ) → Read p f g h u r triples us vs ws → TriplesWithin us vs ws triples
within p f g h u r triples us vs ws k =
    subst (λ (xs : List ℤ). TriplesWithin xs vs ws triples) k.first
    (subst (λ (xs : List ℤ). TriplesWithin (values_of p f) xs ws triples) k.second
    (subst (λ (xs : List ℤ). TriplesWithin (values_of p f) (values_of p g) xs triples) k.third
    (triples_within p k.good f g h k.in_order k.third_in_order (pattern u r.level r.at) triples k.canon.canon)))

worked : (p : Package) (f g h : Func) (u : Levels) (r : Gid) (triples : List (ℕ × ℕ × ℕ)) (us vs ws : List ℤ) → Read p f g h u r triples us vs ws → (tree : Term)
    → Worked u r f.head.level (ternary_each tree us vs ws triples) (ternary_value p tree f g h)
worked p f g h u r triples us vs ws k tree =
    subst (λ (xs : List ℤ). Worked u r f.head.level (ternary_each tree xs vs ws triples) (ternary_value p tree f g h)) k.first
    (subst (λ (xs : List ℤ). Worked u r f.head.level (ternary_each tree (values_of p f) xs ws triples) (ternary_value p tree f g h)) k.second
    (subst (λ (xs : List ℤ). Worked u r f.head.level (ternary_each tree (values_of p f) (values_of p g) xs triples) (ternary_value p tree f g h)) k.third
    (ternary_worked p k.good tree f g h k.in_order k.third_in_order u k.now_good r triples k.canon)))

-- the same from what the code has
reading : (p inside : Package) (f g h : Func) (u : Levels) (r : Gid) (items triples : List (ℕ × ℕ × ℕ)) (us vs ws : List ℤ) → IsGood p.groupings.levels → AreLevel p f g → AreLevel p f h → IsGood u
    → HasCanon u r f.head.level (all_of inside f g h) items → triples ≡ items → inside ≡ p
    → slice_get inside.lists f.vals.at ≡ Some us → slice_get inside.lists g.vals.at ≡ Some vs → slice_get inside.lists h.vals.at ≡ Some ws → Read p f g h u r triples us vs ws
reading p inside f g h u r items triples us vs ws good o q good_u c e is l m n = record {
  good = good;
  in_order = o;
  third_in_order = q;
  now_good = good_u;
  canon = subst (λ (b : Package). HasCanon u r f.head.level (all_of b f g h) triples) is (subst (λ (v : List (ℕ × ℕ × ℕ)). HasCanon u r f.head.level (all_of inside f g h) v) (sym e) c);
  first = values_read p inside f us is l;
  second = values_read p inside g vs is m;
  third = values_read p inside h ws is n;
}

pub ternary_exits-requires-clause-within : goal.ternary_exits-requires-clause-within
ternary_exits-requires-clause-within g c =
    let p = c.args.self.now in
    let inside : Package = record { groupings = c.self.inside.table; lists = c.self.inside.values; memo = c.self.inside.memo } in
    let u = c.triple.new.table.levels in
    let r = c.in_ok-head.head in
    let triples = c.as_slice.result.now in
    let us = c.get-first.result.now in
    let vs = c.get-second.result.now in
    let ws = c.get-third.result.now in
    let read = reading p inside c.args.f c.args.g c.args.h u r c.in_ok-head.triples.items triples us vs ws c.law.ensures.good c.requires.level c.requires.third_level c.in_ok-head.ensures.good
    c.in_ok-head.ensures.tripled c.as_slice.ensures.value c.self.view_is c.get-first.ensures.list c.get-second.ensures.list c.get-third.ensures.list in
    within p c.args.f c.args.g c.args.h u r triples us vs ws read

pub valued-requires-clause-valued : goal.valued-requires-clause-valued
valued-requires-clause-valued g c =
    let p = c.args.self.now in
    let inside : Package = record { groupings = c.self.inside.table; lists = c.self.inside.values; memo = c.self.inside.memo } in
    let u = c.triple.new.table.levels in
    let r = c.in_ok-head.head in
    let triples = c.as_slice.result.now in
    let us = c.get-first.result.now in
    let vs = c.get-second.result.now in
    let ws = c.get-third.result.now in
    let read = reading p inside c.args.f c.args.g c.args.h u r c.in_ok-head.triples.items triples us vs ws c.law.ensures.good c.requires.level c.requires.third_level c.in_ok-head.ensures.good
    c.in_ok-head.ensures.tripled c.as_slice.ensures.value c.self.view_is c.get-first.ensures.list c.get-second.ensures.list c.get-third.ensures.list in
    let value = ternary_value p c.args.op.now.tree c.args.f c.args.g c.args.h in
    let words = ternary_each c.args.op.now.tree us vs ws triples in
    let w = worked p c.args.f c.args.g c.args.h u r triples us vs ws read c.args.op.now.tree in
    worked_long u r c.args.f.head.level words value w c.as_slice-in-Ok.result.now (ap (map Some) c.as_slice-in-Ok.ensures.value ∙ c.in-Ok.ensures.values)

pub returns-in-Ok-clause-outcome : goal.returns-in-Ok-clause-outcome
returns-in-Ok-clause-outcome g c =
    let p = c.args.self.now in
    let inside : Package = record { groupings = c.self.inside.table; lists = c.self.inside.values; memo = c.self.inside.memo } in
    let u = c.triple.new.table.levels in
    let r = c.in_ok-head.head in
    let triples = c.as_slice.result.now in
    let us = c.get-first.result.now in
    let vs = c.get-second.result.now in
    let ws = c.get-third.result.now in
    let read = reading p inside c.args.f c.args.g c.args.h u r c.in_ok-head.triples.items triples us vs ws c.law.ensures.good c.requires.level c.requires.third_level c.in_ok-head.ensures.good
    c.in_ok-head.ensures.tripled c.as_slice.ensures.value c.self.view_is c.get-first.ensures.list c.get-second.ensures.list c.get-third.ensures.list in
    let value = ternary_value p c.args.op.now.tree c.args.f c.args.g c.args.h in
    let words = ternary_each c.args.op.now.tree us vs ws triples in
    let w = worked p c.args.f c.args.g c.args.h u r triples us vs ws read c.args.op.now.tree in
    let made : Means c.valued.new.self c.in_ok-valued-in-Ok.field-0 (function_of u r.level r.at c.as_slice-in-Ok.result.now) = c.in_ok-valued-in-Ok.ensures.means in
    let q = c.valued.new.self in
    let answer = c.in_ok-valued-in-Ok in
    answered p q (task.Ternary c.args.op.now.tree c.args.f c.args.g c.args.h) answer.field-0
    (has_values u c.valued.new.self r c.in_ok-valued-in-Ok.field-0 c.as_slice-in-Ok.result.now c.args.f.head.level value
    (worked_gives u r c.args.f.head.level words value w c.as_slice-in-Ok.result.now (ap (map Some) c.as_slice-in-Ok.ensures.value ∙ c.in-Ok.ensures.values))
    made)
    (subst (λ (b : Package). AddsOnly b.groupings.levels q.groupings.levels (triple_parts b c.args.f c.args.g c.args.h ++ function_parts q answer.field-0)) c.self.view_is
    (triple_added inside q c.args.f c.args.g c.args.h c.triple.new.table.levels c.in_ok-head.head c.in_ok-head.triples.items answer.field-0 c.in_ok-head.ensures.good answer.ensures.kept.groupings
    c.in_ok-head.ensures.tripled c.in_ok-head.ensures.added answer.ensures.added))
    answer.ensures.parts

pub overflow-requires-clause-exit : goal.overflow-requires-clause-exit
overflow-requires-clause-exit g c =
    let p = c.args.self.now in
    let inside : Package = record { groupings = c.self.inside.table; lists = c.self.inside.values; memo = c.self.inside.memo } in
    let u = c.triple.new.table.levels in
    let r = c.in_ok-head.head in
    let triples = c.as_slice.result.now in
    let us = c.get-first.result.now in
    let vs = c.get-second.result.now in
    let ws = c.get-third.result.now in
    let read = reading p inside c.args.f c.args.g c.args.h u r c.in_ok-head.triples.items triples us vs ws c.law.ensures.good c.requires.level c.requires.third_level c.in_ok-head.ensures.good
    c.in_ok-head.ensures.tripled c.as_slice.ensures.value c.self.view_is c.get-first.ensures.list c.get-second.ensures.list c.get-third.ensures.list in
    let value = ternary_value p c.args.op.now.tree c.args.f c.args.g c.args.h in
    let words = ternary_each c.args.op.now.tree us vs ws triples in
    let w = worked p c.args.f c.args.g c.args.h u r triples us vs ws read c.args.op.now.tree in
    fault_exit u r c.args.f.head.level words value w c.in-Err.fault (first_of c.ternary_exits.result words c.in-Err.fault c.in-Err.is c.ternary_exits.ensures.first)

pub returns-clause-outcome : goal.returns-clause-outcome
returns-clause-outcome g c =
    let p = c.args.self.now in
    let inside : Package = record { groupings = c.self.inside.table; lists = c.self.inside.values; memo = c.self.inside.memo } in
    let u = c.triple.new.table.levels in
    let r = c.in_ok-head.head in
    let triples = c.as_slice.result.now in
    let us = c.get-first.result.now in
    let vs = c.get-second.result.now in
    let ws = c.get-third.result.now in
    let read = reading p inside c.args.f c.args.g c.args.h u r c.in_ok-head.triples.items triples us vs ws c.law.ensures.good c.requires.level c.requires.third_level c.in_ok-head.ensures.good
    c.in_ok-head.ensures.tripled c.as_slice.ensures.value c.self.view_is c.get-first.ensures.list c.get-second.ensures.list c.get-third.ensures.list in
    let value = ternary_value p c.args.op.now.tree c.args.f c.args.g c.args.h in
    let words = ternary_each c.args.op.now.tree us vs ws triples in
    let w = worked p c.args.f c.args.g c.args.h u r triples us vs ws read c.args.op.now.tree in
    overflowed p _ (task.Ternary c.args.op.now.tree c.args.f c.args.g c.args.h) c.overflow.result
    (fault_least u r c.args.f.head.level words value w c.in-Err.fault (first_of c.ternary_exits.result words c.in-Err.fault c.in-Err.is c.ternary_exits.ensures.first)
    c.overflow.result c.overflow.ensures)

pub invariant_of-self : goal.invariant_of-self
invariant_of-self g c = sound_shown c.args.self.now c.self.inside.table c.triple.new.table c.self.inside.values c.self.inside.memo c.self.view_is c.law.ensures.good c.in_err-head.ensures.kept c.in_err-head.ensures.tuples c.self.invariant

pub invariant_of-self-in-Ok : goal.invariant_of-self-in-Ok
invariant_of-self-in-Ok g c = sound_shown c.args.self.now c.self.inside.table c.triple.new.table c.self.inside.values c.self.inside.memo c.self.view_is c.law.ensures.good c.in_ok-head.ensures.kept c.in_ok-head.ensures.tuples c.self.invariant

pub invariant_of-self-in-Err : goal.invariant_of-self-in-Err
invariant_of-self-in-Err g c = sound_shown c.args.self.now c.self.inside.table c.triple.new.table c.self.inside.values c.self.inside.memo c.self.view_is c.law.ensures.good c.in_ok-head.ensures.kept c.in_ok-head.ensures.tuples c.self.invariant

pub returns-in_err-head-clause-outcome : goal.returns-in_err-head-clause-outcome
returns-in_err-head-clause-outcome g c = record { answer = search rules; overflow = search rules }

pub returns-in_err-valued-in-Ok-clause-outcome : goal.returns-in_err-valued-in-Ok-clause-outcome
returns-in_err-valued-in-Ok-clause-outcome g c = record { answer = search rules; overflow = search rules }
