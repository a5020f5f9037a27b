use Rattle.std.proofs.Common.{IsTrue, subst, sym}
use Rattle.cf_script.specs.Views.{statement_of}
use Rattle.cf_top.proofs.Carried.{told_for, written, refused, unwritten}
use Rattle.cf_top.proofs.script.carry_statement.Goals as goal

pub returns-in-Written-clause-carries : goal.returns-in-Written-clause-carries
returns-in-Written-clause-carries g c = λ told_files told.
    let here = told_for (g.F.Files.shown c.args.files.now) (statement_of c.args.statement.now) told_files in
    written _ c.args.number c.args.session.now c.step.new.self _ (g.K.Sink.shown c.step.new.out).written (c.in-Written.ensures.leads here) (c.in-Written.ensures.replies here told)

pub returns-in-Refused-clause-carries : goal.returns-in-Refused-clause-carries
returns-in-Refused-clause-carries g c = λ told_files told.
    let here = told_for (g.F.Files.shown c.args.files.now) (statement_of c.args.statement.now) told_files in
    refused _ c.args.number c.args.session.now c.step.new.self _ (g.K.Sink.shown c.step.new.out).written _ c.in-Refused.refusal c.refuse.result
    (c.in-Refused.ensures.leads here) (c.in-Refused.ensures.replies here told)
    (c.refuse.ensures.refused (subst IsTrue (sym c.step.ensures.told) told))

pub returns-in-WriteFault-clause-carries : goal.returns-in-WriteFault-clause-carries
returns-in-WriteFault-clause-carries g c = λ told_files told.
    let here = told_for (g.F.Files.shown c.args.files.now) (statement_of c.args.statement.now) told_files in
    unwritten _ c.args.number c.args.session.now c.step.new.self _ (g.K.Sink.shown c.step.new.out).written (c.in-WriteFault.ensures.leads here) (c.in-WriteFault.ensures.replies here told)

pub returns-in-FileFault-clause-carries : goal.returns-in-FileFault-clause-carries
returns-in-FileFault-clause-carries g c = λ told_files told.
    let here = told_for (g.F.Files.shown c.args.files.now) (statement_of c.args.statement.now) told_files in
    ((c.in-FileFault.ensures.leads here).state, c.in-FileFault.ensures.replies here told)

pub returns-in-NoMemory-clause-carries : goal.returns-in-NoMemory-clause-carries
returns-in-NoMemory-clause-carries g c = λ told_files told.
    let here = told_for (g.F.Files.shown c.args.files.now) (statement_of c.args.statement.now) told_files in
    ((c.in-NoMemory.ensures.leads here).state, c.in-NoMemory.ensures.replies here told)
