use Rattle.std.proofs.Common.{◌≡◌, false, ap, refl}
use Rattle.cf_script.specs.Views.{statement_of}
use Rattle.cf_reference.specs.Trees as tree
use Rattle.cf_reference.specs.Carrying.{step}
use Rattle.cf_session.specs.Sessions.{state_of}
use Rattle.cf_session.specs.Stepping.{reads_file}
use Rattle.cf_session.proofs.DoesFacts.{does-leads, does-replies, does-complete, does-names, does-silent, does-always, load-complete, never-missing, never-large, same-files, reads-none}
use Rattle.cf_session.proofs.session.Session.step.Goals as goal

pub returns-in-Load-clause-leads : goal.returns-in-Load-clause-leads
returns-in-Load-clause-leads g c =
    let is : (statement_of c.args.statement.now) ≡ tree.Load c.in-Load.prefix.now c.in-Load.file.now = ap statement_of c.in-Load.is in
    rw is (λ told. does-leads (step (g.F.Files.shown c.args.files.now).entries (state_of c.args.self.now) (tree.Load c.in-Load.prefix.now c.in-Load.file.now)) c.args.self.now c.step_load.new.self (g.K.Sink.shown c.args.out.now) (g.K.Sink.shown c.args.out.now) c.step_load.result (c.step_load.ensures.does told (g.K.Sink.shown c.args.out.now)))

pub returns-in-Load-clause-replies : goal.returns-in-Load-clause-replies
returns-in-Load-clause-replies g c =
    let is : (statement_of c.args.statement.now) ≡ tree.Load c.in-Load.prefix.now c.in-Load.file.now = ap statement_of c.in-Load.is in
    rw is (λ told. does-replies (step (g.F.Files.shown c.args.files.now).entries (state_of c.args.self.now) (tree.Load c.in-Load.prefix.now c.in-Load.file.now)) c.args.self.now c.step_load.new.self (g.K.Sink.shown c.args.out.now) (g.K.Sink.shown c.args.out.now) c.step_load.result (c.step_load.ensures.does told (g.K.Sink.shown c.args.out.now)))

pub returns-in-Load-clause-complete : goal.returns-in-Load-clause-complete
returns-in-Load-clause-complete g c =
    let is : (statement_of c.args.statement.now) ≡ tree.Load c.in-Load.prefix.now c.in-Load.file.now = ap statement_of c.in-Load.is in
    rw is (λ told. load-complete (g.F.Files.shown c.args.files.now) (g.F.Files.shown c.step_load.new.files) (step (g.F.Files.shown c.args.files.now).entries (state_of c.args.self.now) (tree.Load c.in-Load.prefix.now c.in-Load.file.now)) c.args.self.now c.step_load.new.self (g.K.Sink.shown c.args.out.now) (g.K.Sink.shown c.args.out.now) c.step_load.result (c.step_load.ensures.does told (g.K.Sink.shown c.args.out.now)) c.step_load.ensures.shows)

pub returns-in_default : goal.returns-in_default
returns-in_default g c =
    let plain : reads_file (statement_of c.args.statement.now) ≡ false = reads-none c.args.statement.now (λ prefix file e. c.in_default.not-Load prefix file e) in
    let always = does-always (step (g.F.Files.shown c.args.files.now).entries (state_of c.args.self.now) (statement_of c.args.statement.now)) c.args.self.now c.step_on.new.self (g.K.Sink.shown c.args.out.now) (g.K.Sink.shown c.step_on.new.out) c.step_on.result (c.step_on.ensures.does (g.F.Files.shown c.args.files.now).entries) in
    record {
      leads = λ told. does-leads (step (g.F.Files.shown c.args.files.now).entries (state_of c.args.self.now) (statement_of c.args.statement.now)) c.args.self.now c.step_on.new.self (g.K.Sink.shown c.args.out.now) (g.K.Sink.shown c.step_on.new.out) c.step_on.result (c.step_on.ensures.does (g.F.Files.shown c.args.files.now).entries);
      replies = λ told. does-replies (step (g.F.Files.shown c.args.files.now).entries (state_of c.args.self.now) (statement_of c.args.statement.now)) c.args.self.now c.step_on.new.self (g.K.Sink.shown c.args.out.now) (g.K.Sink.shown c.step_on.new.out) c.step_on.result (c.step_on.ensures.does (g.F.Files.shown c.args.files.now).entries);
      complete = λ told files write memory. does-complete (step (g.F.Files.shown c.args.files.now).entries (state_of c.args.self.now) (statement_of c.args.statement.now)) c.args.self.now c.step_on.new.self (g.K.Sink.shown c.args.out.now) (g.K.Sink.shown c.step_on.new.out) c.step_on.result (c.step_on.ensures.does (g.F.Files.shown c.args.files.now).entries) c.step_on.ensures.file write memory;
      names = does-names (step (g.F.Files.shown c.args.files.now).entries (state_of c.args.self.now) (statement_of c.args.statement.now)) c.args.self.now c.step_on.new.self (g.K.Sink.shown c.args.out.now) (g.K.Sink.shown c.step_on.new.out) c.step_on.result (c.step_on.ensures.does (g.F.Files.shown c.args.files.now).entries);
      silent = does-silent (step (g.F.Files.shown c.args.files.now).entries (state_of c.args.self.now) (statement_of c.args.statement.now)) c.args.self.now c.step_on.new.self (g.K.Sink.shown c.args.out.now) (g.K.Sink.shown c.step_on.new.out) c.step_on.result (c.step_on.ensures.does (g.F.Files.shown c.args.files.now).entries);
      memory = c.step_on.ensures.memory;
      reads = λ e. absurd (c.step_on.ensures.file e);
      unread = λ e. refl;
      write = always.write;
      file = λ e. absurd (c.step_on.ensures.file e);
      missing = λ e. absurd (never-missing (g.F.Files.shown c.args.files.now).entries (statement_of c.args.statement.now) c.args.self.now c.step_on.new.self (g.K.Sink.shown c.args.out.now) (g.K.Sink.shown c.step_on.new.out) c.step_on.result plain (c.step_on.ensures.does (g.F.Files.shown c.args.files.now).entries) e);
      large = λ e. absurd (never-large (g.F.Files.shown c.args.files.now).entries (statement_of c.args.statement.now) c.args.self.now c.step_on.new.self (g.K.Sink.shown c.args.out.now) (g.K.Sink.shown c.step_on.new.out) c.step_on.result plain (c.step_on.ensures.does (g.F.Files.shown c.args.files.now).entries) e);
      kept = always.kept;
      told = always.told;
      later = always.later;
      files = same-files (g.F.Files.shown c.args.files.now);
    }
