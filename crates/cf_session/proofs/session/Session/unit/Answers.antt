use Rattle.std.proofs.Common.{rules, refl, arith, Ok}
use Rattle.std.specs.Prelude.{nat_abs}
use Rattle.cf_reference.specs.declared.grammar.Head.TheVariants.{Unit as UnitAt}
use Rattle.cf_session.proofs.Growth.{held, grown_from, flat}
use Rattle.cf_session.proofs.Jobs.{calls_told}
use Rattle.cf_session.proofs.Kept.{job_answered, again_ok, again_err}
use Rattle.cf_session.proofs.MatrixLaws.{unit_calls}
use Rattle.cf_session.proofs.EntryFacts.{number_is, row_fits, unit_placed, unit_values, unit_is}
use Rattle.cf_session.proofs.session.Session.unit.Goals as goal

pub overflow_cast-row : goal.overflow_cast-row
overflow_cast-row c =
    let t = c.three_numbers-level.result in
    let placed =
    unit_placed c.args.self.now.pkg c.args.args.now t.0 t.1 t.2 c.three_numbers-level.ensures
    c.requires.ruled in
    let row =
    number_is c.three_numbers-level.result.1 (search rules) _ c.unsigned_abs-row.ensures.value in
    let below = row_fits (nat_abs t.0) (nat_abs t.1) placed.most placed.row in
    omega (arith, row, below)

pub overflow_cast-column : goal.overflow_cast-column
overflow_cast-column c =
    let t = c.three_numbers-level.result in
    let placed =
    unit_placed c.args.self.now.pkg c.args.args.now t.0 t.1 t.2 c.three_numbers-level.ensures
    c.requires.ruled in
    let column =
    number_is c.three_numbers-level.result.2 (search rules) _ c.unsigned_abs-column.ensures.value in
    let below = row_fits (nat_abs t.0) (nat_abs t.2) placed.most placed.column in
    omega (arith, column, below)

pub invariant_of-self : goal.invariant_of-self
invariant_of-self c = held _ _ c.self.invariant c.unit.ensures.kept

pub returns-in_err-r-clause-grows : goal.returns-in_err-r-clause-grows
returns-in_err-r-clause-grows c =
    grown_from _ _ _ c.self.view_is c.self.invariant c.unit.ensures.kept

pub invariant_of-self-2 : goal.invariant_of-self-2
invariant_of-self-2 c = held _ _ c.self.invariant c.unit.ensures.kept

pub returns-clause-grows : goal.returns-clause-grows
returns-clause-grows c = grown_from _ _ _ c.self.view_is c.self.invariant c.unit.ensures.kept

pub returns-clause-calls : goal.returns-clause-calls
returns-clause-calls c =
    let t = c.three_numbers-level.result in
    let level =
    number_is c.three_numbers-level.result.0 (search rules) _ c.unsigned_abs-level.ensures.value in
    let row =
    number_is c.three_numbers-level.result.1 (search rules) _ c.unsigned_abs-row.ensures.value in
    let column =
    number_is c.three_numbers-level.result.2 (search rules) _ c.unsigned_abs-column.ensures.value in
    let values =
    unit_values c.unit.new.pkg c.in_ok-r.r _ _ _ (nat_abs t.0) (nat_abs t.1) (nat_abs t.2)
    level row column c.in_ok-r.ensures.values in
    calls_told UnitAt UnitAt c.args.args.now _ c.args.self.now.pkg c.unit.new.pkg c.in_ok-r.r refl
    c.three_numbers-level.ensures
    (unit_calls c.unit.new.pkg c.in_ok-r.r t.0 t.1 t.2 values
    (flat c.unit.new.pkg c.in_ok-r.r c.law.ensures.good c.law.ensures.level c.law.ensures.function))

pub returns-in_err-r-clause-again : goal.returns-in_err-r-clause-again
returns-in_err-r-clause-again c =
    let t = c.three_numbers-level.result in
    let level =
    number_is c.three_numbers-level.result.0 (search rules) _ c.unsigned_abs-level.ensures.value in
    let row =
    number_is c.three_numbers-level.result.1 (search rules) _ c.unsigned_abs-row.ensures.value in
    let column =
    number_is c.three_numbers-level.result.2 (search rules) _ c.unsigned_abs-column.ensures.value in
    job_answered c.args.self.now _ UnitAt UnitAt c.args.args.now _ _ _ c.from_residual.result refl
    c.three_numbers-level.ensures refl
    (unit_is _ _ _ (nat_abs t.0) (nat_abs t.1) (nat_abs t.2) level row column)
    (grown_from _ _ _ c.self.view_is c.self.invariant c.unit.ensures.kept)
    (again_err _ _ c.self.view_is _ _ _ _ _ c.in_err-r.was c.unit.ensures.finished)

pub returns-clause-again : goal.returns-clause-again
returns-clause-again c =
    let t = c.three_numbers-level.result in
    let level =
    number_is c.three_numbers-level.result.0 (search rules) _ c.unsigned_abs-level.ensures.value in
    let row =
    number_is c.three_numbers-level.result.1 (search rules) _ c.unsigned_abs-row.ensures.value in
    let column =
    number_is c.three_numbers-level.result.2 (search rules) _ c.unsigned_abs-column.ensures.value in
    job_answered c.args.self.now _ UnitAt UnitAt c.args.args.now _ _ _ (Ok c.in_ok-r.r) refl
    c.three_numbers-level.ensures refl
    (unit_is _ _ _ (nat_abs t.0) (nat_abs t.1) (nat_abs t.2) level row column)
    (grown_from _ _ _ c.self.view_is c.self.invariant c.unit.ensures.kept)
    (again_ok _ _ c.self.view_is _ _ _ _ _ c.in_ok-r.was refl c.unit.ensures.finished)
