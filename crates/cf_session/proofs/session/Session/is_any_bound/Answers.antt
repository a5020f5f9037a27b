use Rattle.std.proofs.Common.{sym, ◌∙◌}
use Rattle.cf_reference.specs.States.{is_bound}
use Rattle.cf_session.specs.Sessions.{state_of}
use Rattle.cf_session.specs.Statements.{bytes_of}
use Rattle.cf_session.proofs.ListFacts.{get-read, any-at, none-next}
use Rattle.cf_session.proofs.session.Session.is_any_bound.Goals as goal

pub returns-then-is_bound : goal.returns-then-is_bound
returns-then-is_bound c =
    sym
    (any-at (is_bound (state_of c.args.self.now)) (bytes_of c.args.names.now) c.loop-name.name-index _ (get-read c.args.names.now c.loop-name.name-index _ c.loop-name-test.true) (sym c.is_bound.ensures ∙ c.if-is_bound.true))

pub loop-name-preserved : goal.loop-name-preserved
loop-name-preserved c =
    none-next (is_bound (state_of c.args.self.now)) (bytes_of c.args.names.now) c.loop-name.name-index _
    (get-read c.args.names.now c.loop-name.name-index _ c.loop-name-test.true) c.loop-name.invariant
    (sym c.is_bound.ensures ∙ c.if-is_bound.false)
