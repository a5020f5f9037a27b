use Rattle.std.proofs.Common.{◌+◌, ◌^◌, ◌++◌, length, sym, ap, subst, ◌∙◌}
use Rattle.std.specs.Prelude.{nat_le}
use Rattle.std.specs.List.{list_any}
use Rattle.cf_reference.specs.States.{level_in, is_among}
use Rattle.cf_reference.specs.Carrying.{declare}
use Rattle.cf_session.specs.Sessions.{names_of, state_of}
use Rattle.cf_session.specs.Statements.{bytes_of, ArePositions}
use Rattle.cf_table.proofs.Told.{on_err}
use Rattle.cf_session.proofs.ListFacts.{length-bytes}
use Rattle.cf_session.proofs.StatementFacts.{vars-taken, vars-many, CanDeclare, can-declare, can-free, HasAdded, declared-held, declared-goes}
use Rattle.cf_session.proofs.Growth.{held, grown_from}
use Rattle.cf_session.proofs.session.Session.declare.Goals as goal
use Rattle.cf_session.proofs.session.Session.declare.Goals.{After-drop-self-inside-5}

pub returns-then-branch-clause-fault : goal.returns-then-branch-clause-fault
returns-then-branch-clause-fault c =
    vars-taken c.args.self.now (bytes_of c.args.names.now) c.in_ok-clashes.field-0 c.requires.set c.in_ok-clashes.ensures c.if-branch.true

pub returns-then-not-has_room-clause-fault : goal.returns-then-not-has_room-clause-fault
returns-then-not-has_room-clause-fault c =
    vars-many c.args.self.now (bytes_of c.args.names.now) c.in_ok-clashes.field-0 c.has_room.result c.requires.set c.in_ok-clashes.ensures c.if-branch.false
    (c.has_room.ensures ∙ ap (λ n. nat_le (length c.args.self.now.variables + n) (2 ^ level_in (state_of c.args.self.now))) (sym (length-bytes c.args.names.now)))
    c.if-not-has_room.true

pub add_variables-requires-clause-positions : goal.add_variables-requires-clause-positions
add_variables-requires-clause-positions c =
    subst (λ bound. ArePositions c.self.inside.pkg c.level_of_variables-level.result bound) (sym c.in_ok-bound.ensures)
    (subst (λ k. ArePositions c.self.inside.pkg k c.self.inside.variables) (ap (λ h. level_in (state_of h)) c.self.view_is ∙ sym c.level_of_variables-level.ensures.level) c.self.invariant.positions)

pub add_variables-requires-clause-new : goal.add_variables-requires-clause-new
add_variables-requires-clause-new c =
    ap (λ bound. list_any (is_among (names_of bound)) (bytes_of c.args.names.now)) c.in_ok-bound.ensures
    ∙ can-free (record { pkg = c.self.inside.pkg; level = c.self.inside.level; variables = c.self.inside.variables; functions = c.self.inside.functions }) (bytes_of c.args.names.now)
    (can-declare (record { pkg = c.self.inside.pkg; level = c.self.inside.level; variables = c.self.inside.variables; functions = c.self.inside.functions }) c.args.self.now c.args.names.now c.in_ok-clashes.field-0 c.has_room.result c.self.view_is c.requires.set c.in_ok-clashes.ensures c.if-branch.false c.has_room.ensures c.if-not-has_room.false)

pub invariant_of-self : goal.invariant_of-self
invariant_of-self c = held (record { pkg = c.self.inside.pkg; level = c.self.inside.level; variables = c.self.inside.variables; functions = c.self.inside.functions }) c.add_variables.new.pkg c.self.invariant c.add_variables.ensures.kept

pub returns-in_err-add_variables-clause-same : goal.returns-in_err-add_variables-clause-same
returns-in_err-add_variables-clause-same c =
    on_err c.from_residual-in_err-add_variables.result _
    (grown_from (record { pkg = c.self.inside.pkg; level = c.self.inside.level; variables = c.self.inside.variables; functions = c.self.inside.functions }) c.args.self.now c.add_variables.new.pkg c.self.view_is c.self.invariant c.add_variables.ensures.kept)

added : (c : After-drop-self-inside-5) → HasAdded c.self.inside.pkg c.add_variables.new.pkg (level_in (state_of (record { pkg = c.self.inside.pkg; level = c.self.inside.level; variables = c.self.inside.variables; functions = c.self.inside.functions }))) c.self.inside.variables c.add_variables.new.bound (bytes_of c.args.names.now)
added c = record {
  names = c.in_ok-add_variables.ensures.added ∙ ap (λ bound. names_of bound ++ bytes_of c.args.names.now) c.in_ok-bound.ensures;
  positions =
      subst (λ k. ArePositions c.add_variables.new.pkg k c.add_variables.new.bound) (c.level_of_variables-level.ensures.level ∙ ap (λ h. level_in (state_of h)) (sym c.self.view_is)) c.in_ok-add_variables.ensures.positions;
  kept = c.add_variables.ensures.kept;
}

can : (c : After-drop-self-inside-5) → CanDeclare (record { pkg = c.self.inside.pkg; level = c.self.inside.level; variables = c.self.inside.variables; functions = c.self.inside.functions }) (bytes_of c.args.names.now)
can c =
    can-declare (record { pkg = c.self.inside.pkg; level = c.self.inside.level; variables = c.self.inside.variables; functions = c.self.inside.functions }) c.args.self.now c.args.names.now c.in_ok-clashes.field-0 c.has_room.result c.self.view_is c.requires.set c.in_ok-clashes.ensures c.if-branch.false c.has_room.ensures c.if-not-has_room.false

pub invariant_of-self-2 : goal.invariant_of-self-2
invariant_of-self-2 c =
    declared-held (record { pkg = c.self.inside.pkg; level = c.self.inside.level; variables = c.self.inside.variables; functions = c.self.inside.functions }) c.add_variables.new.pkg c.add_variables.new.bound (bytes_of c.args.names.now) c.self.invariant (can c) (added c)

pub returns-clause-goes : goal.returns-clause-goes
returns-clause-goes c =
    ap (λ h. declare (state_of h) (bytes_of c.args.names.now)) (sym c.self.view_is)
    ∙ declared-goes (record { pkg = c.self.inside.pkg; level = c.self.inside.level; variables = c.self.inside.variables; functions = c.self.inside.functions }) c.add_variables.new.pkg c.add_variables.new.bound (bytes_of c.args.names.now) c.self.invariant (can c) (added c)
