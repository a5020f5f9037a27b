use Rattle.std.proofs.Common.{rules, ◌≡◌, sym, ◌∙◌, ap, refl, arith, ℤ, true, false}
use Rattle.std.specs.Prelude.{nat_abs, ◌&&◌}
use mir.Val.{SFits}
use Rattle.std.specs.Int.{w128}
use Rattle.std.proofs.lemmas.Int.{to_z-of_z}
use Rattle.cf_reference.specs.Trees.{Entry}
use Rattle.cf_reference.specs.Replies.{value_reply}
use Rattle.cf_reference.specs.Calls.{is_index}
use Rattle.cf_reference.specs.Carrying.{Refuses, Goes, tell_entry}
use Rattle.cf_session.specs.Faults.{reason_of}
use Rattle.cf_session.specs.Sessions.{state_of}
use Rattle.cf_session.proofs.WalkFacts.{handed-on}
use Rattle.cf_session.proofs.AnswerFacts.{unknown-refused}
use Rattle.cf_session.proofs.EntryFacts.{number_is, index_told, index_is, both-outside, row_fits}
use Rattle.cf_session.proofs.EntryFacts.{entry-low, entry-outside, entry-goes, entry_told}
use Rattle.cf_session.proofs.session.Session.entry.Goals as goal
use Rattle.cf_session.proofs.session.Session.entry.Goals.{then-not-is_index-via-then-not-is_index, then-not-is_index-via-else-not-is_index+then-not-is_index-2}

pub returns-in_err-f-clause-refused : goal.returns-in_err-f-clause-refused
returns-in_err-f-clause-refused c =
    let h = c.args.self.now in
    let name = c.args.name.now in
    let row = c.args.row in
    let column = c.args.column in
    handed-on c.from_residual.result c.in_err-f.field-0.0
    (λ r. tell_entry (state_of h) name row column ≡ Refuses (reason_of r)) c.from_residual.ensures.1
    (unknown-refused h (Entry name row column) name c.in_err-f.field-0.0 c.requires.set refl
    c.in_err-f.ensures.unknown)

pub returns-then-level-eq0-clause-refused : goal.returns-then-level-eq0-clause-refused
returns-then-level-eq0-clause-refused c =
    entry-low c.args.self.now c.args.name.now c.args.row c.args.column c.in_ok-f.f c.requires.set
    c.in_ok-f.ensures.named c.if-level-eq0.true

pub returns-then-not-is_index-clause-refused : goal.returns-then-not-is_index-clause-refused
returns-then-not-is_index-clause-refused c =
    let level = c.in_ok-f.f.head.level in
    let row = c.args.row in
    let column = c.args.column in
    let row_is = to_z-of_z w128 c.args.row c.ranges.row in
    let column_is = to_z-of_z w128 c.args.column c.ranges.column in
    entry-outside c.args.self.now c.args.name.now row column c.in_ok-f.f c.requires.set
    c.in_ok-f.ensures.named c.if-level-eq0.false
    (elim c.then-not-is_index.branch [
      | then-not-is_index-via-then-not-is_index w ↦
          ap (λ b. b && is_index level column)
          (index_told level _ row _ false row_is c.is_index.ensures w.if-not-is_index.true)
      | then-not-is_index-via-else-not-is_index+then-not-is_index-2 w ↦
          both-outside (is_index level row) _
          (index_told level _ column _ false column_is w.is_index-else-not-is_index.ensures
          w.if-not-is_index-2.true)
    ])

pub overflow_cast-row : goal.overflow_cast-row
overflow_cast-row c =
    let level = c.in_ok-f.f.head.level in
    let row = c.args.row in
    let is = to_z-of_z w128 c.args.row c.ranges.row in
    let told = index_told level _ row _ true is c.is_index.ensures c.if-not-is_index.false in
    let same = number_is c.args.row c.ranges.row _ c.unsigned_abs-row.ensures.value in
    let most = c.in_ok-f.ensures.named.flat.level_in in
    let below = row_fits level (nat_abs row) most (index_is level row told) in
    omega (arith, same, below)

pub overflow_cast-column : goal.overflow_cast-column
overflow_cast-column c =
    let level = c.in_ok-f.f.head.level in
    let column = c.args.column in
    let is = to_z-of_z w128 c.args.column c.ranges.column in
    let told =
    index_told level _ column _ true is c.is_index-else-not-is_index.ensures
    c.if-not-is_index-2.false in
    let same = number_is c.args.column c.ranges.column _ c.unsigned_abs-column.ensures.value in
    let most = c.in_ok-f.ensures.named.flat.level_in in
    let below = row_fits level (nat_abs column) most (index_is level column told) in
    omega (arith, same, below)

pub returns-clause-goes : goal.returns-clause-goes
returns-clause-goes c =
    let h = c.args.self.now in
    let level = c.in_ok-f.f.head.level in
    let row = c.args.row in
    let column = c.args.column in
    let row_is = to_z-of_z w128 c.args.row c.ranges.row in
    let column_is = to_z-of_z w128 c.args.column c.ranges.column in
    let fits : SFits w128 c.entry.result = search rules in
    let same_row = number_is c.args.row c.ranges.row _ c.unsigned_abs-row.ensures.value in
    let same_column = number_is c.args.column c.ranges.column _ c.unsigned_abs-column.ensures.value in
    let told =
    entry_told _ h c.in_ok-f.f c.entry.result _ _ (nat_abs row) (nat_abs column) c.self.view_is
    same_row same_column c.entry.ensures in
    let value = sym (to_z-of_z w128 c.entry.result fits ∙ told) in
    entry-goes h c.args.name.now row column c.in_ok-f.f c.requires.set c.in_ok-f.ensures.named
    c.if-level-eq0.false
    (index_told level _ row _ true row_is c.is_index.ensures c.if-not-is_index.false)
    (index_told level _ column _ true column_is c.is_index-else-not-is_index.ensures
    c.if-not-is_index-2.false)
    ∙ ap (Goes (state_of h)) (ap (λ (z : ℤ). value_reply z) value ∙ sym c.value_text.ensures)
