use Rattle.std.proofs.Common.{rules, ◌≡◌, ◌<◌, ◌≤◌, ◌-◌, ◌*◌, length, get_or, sym, ap, ◌∙◌, arith}
use Rattle.std.proofs.lemmas.List.{length-map}
use Rattle.cf_model.specs.FlatFunctions.{points}
use Rattle.cf_table.specs.Groupings.{Owns, node_of, pattern_of, connection_of}
use Rattle.cf_witness.specs.Nexts.{LacksMarked, IsNext}
use Rattle.cf_witness.proofs.Marks.{none_told, some_told}
use Rattle.cf_witness.proofs.Tables.{Turn, RowTurn, row_of, turn_positive, turn_begun, turn_none, turn_ended, turn_found, turn_passed, turn_first, turn_fits, row_callee, row_none, row_some}
use Rattle.cf_witness.proofs.next.+next.Goals as goal

pub next_in_row-next_place-requires : goal.next_in_row-next_place-requires
next_in_row-next_place-requires t' c =
    let t = c.args.table.now in
    let g = c.args.g in
    let j = c.args.middle in
    let b = c.connection-b.result in
    let xs = c.tuple-exits.result.now in
    let marks = c.args.marks.now in
    let inner = c.as_slice.result.now in
    let turn : RowTurn t g j b xs marks inner = record {
      good = c.law.ensures.good;
      owned = c.requires.owned;
      level = c.connection-b.ensures.level;
      middle = c.requires.middle;
      connection = c.connection-b.ensures.connection;
      exits_are = c.tuple-exits.ensures;
      inner_are = c.as_slice.ensures.value ∙ c.in_ok-inner.ensures;
    } in
    let level = turn.level in
    let own : Owns t b.«to» = row_callee t g j b xs marks inner turn in
    let seven : b.«to».level ≤ 7 = omega (arith, level, c.requires.level) in
    let falls : 2 * b.«to».level < 2 * g.level - 1 = omega (arith, level) in
    search rules

pub next_in_row-returns-in_default : goal.next_in_row-returns-in_default
next_in_row-returns-in_default t' c =
    let t = c.args.table.now in
    let g = c.args.g in
    let j = c.args.middle in
    let b = c.connection-b.result in
    let xs = c.tuple-exits.result.now in
    let marks = c.args.marks.now in
    let inner = c.as_slice.result.now in
    let turn : RowTurn t g j b xs marks inner = record {
      good = c.law.ensures.good;
      owned = c.requires.owned;
      level = c.connection-b.ensures.level;
      middle = c.requires.middle;
      connection = c.connection-b.ensures.connection;
      exits_are = c.tuple-exits.ensures;
      inner_are = c.as_slice.ensures.value ∙ c.in_ok-inner.ensures;
    } in
    row_none t g j b xs marks inner c.args.from turn (none_told c.in_ok-place.field-0 _ _ c.in_ok-place.ensures c.in_default.is)

pub next_in_row-returns : goal.next_in_row-returns
next_in_row-returns t' c =
    let t = c.args.table.now in
    let g = c.args.g in
    let j = c.args.middle in
    let b = c.connection-b.result in
    let xs = c.tuple-exits.result.now in
    let marks = c.args.marks.now in
    let inner = c.as_slice.result.now in
    let turn : RowTurn t g j b xs marks inner = record {
      good = c.law.ensures.good;
      owned = c.requires.owned;
      level = c.connection-b.ensures.level;
      middle = c.requires.middle;
      connection = c.connection-b.ensures.connection;
      exits_are = c.tuple-exits.ensures;
      inner_are = c.as_slice.ensures.value ∙ c.in_ok-inner.ensures;
    } in
    row_some t g j b xs marks inner c.args.from c.in-Some.place.number c.in-Some.place.exit turn (some_told c.in_ok-place.field-0 c.in-Some.place _ _ c.in_ok-place.ensures c.in-Some.is)

pub next_place-nonzero_div-first : goal.next_place-nonzero_div-first
next_place-nonzero_div-first t c = turn_positive (c.args.g.level - 1) c.assignments-half.result c.assignments-half.ensures.is

pub next_place-nonzero_rem-second : goal.next_place-nonzero_rem-second
next_place-nonzero_rem-second t c = turn_positive (c.args.g.level - 1) c.assignments-half.result c.assignments-half.ensures.is

pub next_place-loop-first-init : goal.next_place-loop-first-init
next_place-loop-first-init t c = turn_begun (pattern_of c.args.table.now c.args.g) c.args.marks.now c.args.from c.assignments-half.result (c.args.g.level - 1) c.assignments-half.ensures.is

pub next_place-returns-in_default : goal.next_place-returns-in_default
next_place-returns-in_default t' c =
    let t = c.args.table.now in
    let g = c.args.g in
    let a = c.a_callee-a.result in
    let marks = c.args.marks.now in
    let middles = c.as_slice.result.now in
    let half = c.assignments-half.result in
    let turn : Turn t g a marks middles half = record { good = c.law.ensures.good; owned = c.requires.owned; level = c.a_callee-a.ensures.level; callee = c.a_callee-a.ensures.callee; half_is = c.assignments-half.ensures.is; most = c.assignments-half.ensures.most; middles_are = c.as_slice.ensures.value ∙ c.in_ok-middles.ensures } in
    turn_none t g a marks middles half c.args.from c.loop-first.first c.loop-first.second turn c.loop-first.invariant.0 (none_told c.in_ok-middle.field-0 _ _ c.in_ok-middle.ensures c.in_default.is)

pub next_place-overflow_mul-number : goal.next_place-overflow_mul-number
next_place-overflow_mul-number t' c =
    let t = c.args.table.now in
    let g = c.args.g in
    let a = c.a_callee-a.result in
    let marks = c.args.marks.now in
    let middles = c.as_slice.result.now in
    let half = c.assignments-half.result in
    let turn : Turn t g a marks middles half = record { good = c.law.ensures.good; owned = c.requires.owned; level = c.a_callee-a.ensures.level; callee = c.a_callee-a.ensures.callee; half_is = c.assignments-half.ensures.is; most = c.assignments-half.ensures.most; middles_are = c.as_slice.ensures.value ∙ c.in_ok-middles.ensures } in
    let first : IsNext (pattern_of t a) middles c.loop-first.first c.in-Some.middle.number c.in-Some.middle.exit = some_told c.in_ok-middle.field-0 c.in-Some.middle _ _ c.in_ok-middle.ensures c.in-Some.is in
    let second : IsNext (row_of t g c.in-Some.middle.exit) marks c.second_from-low.result c.in-Some-2.inner.number c.in-Some-2.inner.exit = some_told c.in_ok-inner.field-0 c.in-Some-2.inner _ _ c.in_ok-inner.ensures c.in-Some-2.is in
    let fits = turn_fits t g a marks middles half c.loop-first.first c.in-Some.middle.number c.in-Some.middle.exit c.second_from-low.result c.in-Some-2.inner.number c.in-Some-2.inner.exit turn first second in
    omega (arith, fits)

pub next_place-overflow_add-number : goal.next_place-overflow_add-number
next_place-overflow_add-number t' c =
    let t = c.args.table.now in
    let g = c.args.g in
    let a = c.a_callee-a.result in
    let marks = c.args.marks.now in
    let middles = c.as_slice.result.now in
    let half = c.assignments-half.result in
    let turn : Turn t g a marks middles half = record { good = c.law.ensures.good; owned = c.requires.owned; level = c.a_callee-a.ensures.level; callee = c.a_callee-a.ensures.callee; half_is = c.assignments-half.ensures.is; most = c.assignments-half.ensures.most; middles_are = c.as_slice.ensures.value ∙ c.in_ok-middles.ensures } in
    let first : IsNext (pattern_of t a) middles c.loop-first.first c.in-Some.middle.number c.in-Some.middle.exit = some_told c.in_ok-middle.field-0 c.in-Some.middle _ _ c.in_ok-middle.ensures c.in-Some.is in
    let second : IsNext (row_of t g c.in-Some.middle.exit) marks c.second_from-low.result c.in-Some-2.inner.number c.in-Some-2.inner.exit = some_told c.in_ok-inner.field-0 c.in-Some-2.inner _ _ c.in_ok-inner.ensures c.in-Some-2.is in
    let fits = turn_fits t g a marks middles half c.loop-first.first c.in-Some.middle.number c.in-Some.middle.exit c.second_from-low.result c.in-Some-2.inner.number c.in-Some-2.inner.exit turn first second in
    omega (arith, fits)

pub next_place-returns-in-Some-2 : goal.next_place-returns-in-Some-2
next_place-returns-in-Some-2 t' c =
    let t = c.args.table.now in
    let g = c.args.g in
    let a = c.a_callee-a.result in
    let marks = c.args.marks.now in
    let middles = c.as_slice.result.now in
    let half = c.assignments-half.result in
    let turn : Turn t g a marks middles half = record { good = c.law.ensures.good; owned = c.requires.owned; level = c.a_callee-a.ensures.level; callee = c.a_callee-a.ensures.callee; half_is = c.assignments-half.ensures.is; most = c.assignments-half.ensures.most; middles_are = c.as_slice.ensures.value ∙ c.in_ok-middles.ensures } in
    let first : IsNext (pattern_of t a) middles c.loop-first.first c.in-Some.middle.number c.in-Some.middle.exit = some_told c.in_ok-middle.field-0 c.in-Some.middle _ _ c.in_ok-middle.ensures c.in-Some.is in
    let second : IsNext (row_of t g c.in-Some.middle.exit) marks c.second_from-low.result c.in-Some-2.inner.number c.in-Some-2.inner.exit = some_told c.in_ok-inner.field-0 c.in-Some-2.inner _ _ c.in_ok-inner.ensures c.in-Some-2.is in
    turn_found t g a marks middles half c.args.from c.loop-first.first c.loop-first.second c.in-Some.middle.number c.in-Some.middle.exit c.second_from-low.result c.in-Some-2.inner.number c.in-Some-2.inner.exit
    turn c.loop-first.invariant.0 c.loop-first.invariant.1 first c.second_from-low.ensures second

pub next_place-overflow_add-first : goal.next_place-overflow_add-first
next_place-overflow_add-first t' c =
    let t = c.args.table.now in
    let g = c.args.g in
    let a = c.a_callee-a.result in
    let marks = c.args.marks.now in
    let middles = c.as_slice.result.now in
    let half = c.assignments-half.result in
    let turn : Turn t g a marks middles half = record { good = c.law.ensures.good; owned = c.requires.owned; level = c.a_callee-a.ensures.level; callee = c.a_callee-a.ensures.callee; half_is = c.assignments-half.ensures.is; most = c.assignments-half.ensures.most; middles_are = c.as_slice.ensures.value ∙ c.in_ok-middles.ensures } in
    let first : IsNext (pattern_of t a) middles c.loop-first.first c.in-Some.middle.number c.in-Some.middle.exit = some_told c.in_ok-middle.field-0 c.in-Some.middle _ _ c.in_ok-middle.ensures c.in-Some.is in
    let small = turn_first t g a marks middles half c.loop-first.first c.in-Some.middle.number c.in-Some.middle.exit turn first in
    omega (arith, small, c.assignments-half.ensures.most)

pub next_place-loop-first-preserved : goal.next_place-loop-first-preserved
next_place-loop-first-preserved t' c =
    let t = c.args.table.now in
    let g = c.args.g in
    let a = c.a_callee-a.result in
    let marks = c.args.marks.now in
    let middles = c.as_slice.result.now in
    let half = c.assignments-half.result in
    let turn : Turn t g a marks middles half = record { good = c.law.ensures.good; owned = c.requires.owned; level = c.a_callee-a.ensures.level; callee = c.a_callee-a.ensures.callee; half_is = c.assignments-half.ensures.is; most = c.assignments-half.ensures.most; middles_are = c.as_slice.ensures.value ∙ c.in_ok-middles.ensures } in
    let first : IsNext (pattern_of t a) middles c.loop-first.first c.in-Some.middle.number c.in-Some.middle.exit = some_told c.in_ok-middle.field-0 c.in-Some.middle _ _ c.in_ok-middle.ensures c.in-Some.is in
    let none : LacksMarked (row_of t g c.in-Some.middle.exit) marks c.second_from-low.result (points (g.level - 1)) = none_told c.in_ok-inner.field-0 _ _ c.in_ok-inner.ensures c.in_default-2.is in (
      turn_passed t g a marks middles half c.args.from c.loop-first.first c.loop-first.second c.in-Some.middle.number c.in-Some.middle.exit c.second_from-low.result turn c.loop-first.invariant.0 c.loop-first.invariant.1 first c.second_from-low.ensures none,
      omega arith,
    )

pub next_place-returns : goal.next_place-returns
next_place-returns t' c =
    let t = c.args.table.now in
    let g = c.args.g in
    let a = c.a_callee-a.result in
    let marks = c.args.marks.now in
    let middles = c.in_ok-middles.middles.items in
    let half = c.assignments-half.result in
    let turn : Turn t g a marks middles half = record { good = c.law.ensures.good; owned = c.requires.owned; level = c.a_callee-a.ensures.level; callee = c.a_callee-a.ensures.callee; half_is = c.assignments-half.ensures.is; most = c.assignments-half.ensures.most; middles_are = c.in_ok-middles.ensures } in
    turn_ended t g a marks middles half c.args.from c.loop-first.first c.loop-first.second turn c.loop-first.invariant.0 c.loop-first-test.false
