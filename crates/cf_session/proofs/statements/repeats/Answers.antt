use Rattle.std.proofs.Common.{sym, ◌∙◌}
use Rattle.cf_session.specs.Statements.{bytes_of}
use Rattle.cf_session.proofs.ListFacts.{get-read, repeats-found, noted-next, repeats-missed}
use Rattle.cf_session.proofs.statements.repeats.Goals as goal

pub returns-then-is_some : goal.returns-then-is_some
returns-then-is_some c =
    sym
    (repeats-found (bytes_of c.args.names.now) c.loop-name.name-index _ c.loop-name.seen c.find.result (get-read c.args.names.now c.loop-name.name-index _ c.loop-name-test.true) c.loop-name.invariant.0 c.find.ensures.number (sym c.is_some.ensures ∙ c.if-is_some.true))

pub loop-name-preserved : goal.loop-name-preserved
loop-name-preserved c = (
  noted-next (bytes_of c.args.names.now) c.loop-name.name-index _ c.loop-name.seen c.number.new.self c.find.result (get-read c.args.names.now c.loop-name.name-index _ c.loop-name-test.true) c.loop-name.invariant.0 c.find.ensures.number (sym c.is_some.ensures ∙ c.if-is_some.false) c.in_ok-number.ensures.noted,
  repeats-missed (bytes_of c.args.names.now) c.loop-name.name-index _ c.loop-name.seen c.find.result (get-read c.args.names.now c.loop-name.name-index _ c.loop-name-test.true) c.loop-name.invariant c.find.ensures.number (sym c.is_some.ensures ∙ c.if-is_some.false),
)
