use Rattle.std.proofs.Common.{Err, ap, subst}
use Rattle.cf_reference.specs.Carrying.{Outcome}
use Rattle.cf_reference.specs.LineRefusals.{TooDeep, Malformed, WideNumber, Good}
use Rattle.cf_script.specs.Views.{statement_of}
use Rattle.cf_session.specs.Sessions.{state_of}
use Rattle.cf_top.specs.Carrying.{StopsAt, Carries}
use Rattle.cf_top.proofs.Carried.{parsed}
use Rattle.cf_top.proofs.script.carry_line.Goals as goal

pub returns-in-Ok-clause-carries : goal.returns-in-Ok-clause-carries
returns-in-Ok-clause-carries g c = λ told_files told.
    subst (λ (o : Outcome). Carries o c.args.number (state_of c.args.session.now) (g.K.Sink.shown c.args.out.now).written (state_of c.carry_statement.new.session) (g.K.Sink.shown c.carry_statement.new.out).written c.carry_statement.result)
    (parsed (g.F.Files.shown c.args.files.now).entries (state_of c.args.session.now) c.args.line.now (Good (statement_of c.in-Ok.statement)) c.in-Ok.ensures.spelled)
    (c.carry_statement.ensures.carries told_files told)

pub returns-in-Err-Malformed-clause-carries : goal.returns-in-Err-Malformed-clause-carries
returns-in-Err-Malformed-clause-carries g c = λ told_files told.
    subst (λ (o : Outcome). StopsAt o c.args.number (state_of c.args.session.now) (g.K.Sink.shown c.args.out.now).written (state_of c.args.session.now) (g.K.Sink.shown c.refuse.new.out).written c.refuse.result)
    (parsed (g.F.Files.shown c.args.files.now).entries (state_of c.args.session.now) c.args.line.now Malformed (c.in-Err-Malformed.ensures.malformed (ap Err c.in-Err-Malformed.field-0-is)))
    (c.refuse.ensures.refused told (state_of c.args.session.now))

pub returns-in-Err-WideNumber-clause-carries : goal.returns-in-Err-WideNumber-clause-carries
returns-in-Err-WideNumber-clause-carries g c = λ told_files told.
    subst (λ (o : Outcome). StopsAt o c.args.number (state_of c.args.session.now) (g.K.Sink.shown c.args.out.now).written (state_of c.args.session.now) (g.K.Sink.shown c.refuse-in-Err-WideNumber.new.out).written c.refuse-in-Err-WideNumber.result)
    (parsed (g.F.Files.shown c.args.files.now).entries (state_of c.args.session.now) c.args.line.now WideNumber (c.in-Err-WideNumber.ensures.wide (ap Err c.in-Err-WideNumber.field-0-is)))
    (c.refuse-in-Err-WideNumber.ensures.refused told (state_of c.args.session.now))

pub returns-in-Err-TooDeep-clause-carries : goal.returns-in-Err-TooDeep-clause-carries
returns-in-Err-TooDeep-clause-carries g c = λ told_files told.
    subst (λ (o : Outcome). StopsAt o c.args.number (state_of c.args.session.now) (g.K.Sink.shown c.args.out.now).written (state_of c.args.session.now) (g.K.Sink.shown c.refuse-in-Err-TooDeep.new.out).written c.refuse-in-Err-TooDeep.result)
    (parsed (g.F.Files.shown c.args.files.now).entries (state_of c.args.session.now) c.args.line.now TooDeep (c.in-Err-TooDeep.ensures.deep (ap Err c.in-Err-TooDeep.field-0-is)))
    (c.refuse-in-Err-TooDeep.ensures.refused told (state_of c.args.session.now))
