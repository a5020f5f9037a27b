use Rattle.std.proofs.Common.{◌+◌, ◌++◌, IsTrue, subst, sym, ◌∙◌, arith, refl}
use Rattle.cf_io.specs.Held.{taken_by}
use Rattle.cf_reference.specs.Lines.{LineTooLong, ScriptTooLong}
use Rattle.cf_reference.specs.Reasons as reason
use Rattle.cf_reference.specs.Parsing.{parse}
use Rattle.cf_reference.specs.States.{Files}
use Rattle.cf_reference.specs.Carrying.{Refuses}
use Rattle.cf_reference.specs.Scripts.{step_parsed}
use Rattle.cf_pkg.proofs.Valued.{Keeps-trans}
use Rattle.cf_session.specs.Sessions.{state_of}
use Rattle.cf_top.specs.Carrying.{Carries}
use Rattle.cf_top.proofs.Carried.{KeepsFiles-trans}
use Rattle.cf_top.proofs.Turns.{line_stops, line_turns, long_stops, end_stops, line_answered, line_moved, end_answered, end_moved, long_answered, long_moved, script_long_answered, script_long_moved, taken_since}
use Rattle.cf_top.proofs.script.run_lines.Goals as goal

pub returns-in-Stops-clause-run : goal.returns-in-Stops-clause-run
returns-in-Stops-clause-run g c = λ told_in told_files told_out.
    let kept = c.loop-line.invariant in
    let here_in : IsTrue (g.S.Source.shown c.loop-line.script).tells = subst IsTrue (sym kept.script_told) told_in in
    let here_files : IsTrue (g.F.Files.shown c.loop-line.files).tells = subst IsTrue (sym kept.files.entries.told) told_files in
    let here_out : IsTrue (g.K.Sink.shown c.loop-line.out).tells = subst IsTrue (sym kept.out_told) told_out in
    let next = c.next_line.follows.holds-at-none in
    let first = line_answered _ _ _ _ c.next_line.result c.in-Line.line (next.hands here_in (kept.attached told_in)) c.in-Line.is in
    let taken = taken_since (g.S.Source.shown c.args.script.now).taken (g.S.Source.shown c.loop-line.script).taken (g.S.Source.shown c.next_line.new.source).taken (taken_by c.loop-line.lines) (taken_by c.next_line.follows.lender-at-none) kept.taken next.advances.taken in
    line_stops (g.F.Files.shown c.args.files.now).entries _ (state_of c.loop-line.session) (state_of c.carry_line.new.session) (c.loop-line.number + 1) (g.S.Source.shown c.args.script.now).taken (g.S.Source.shown c.next_line.new.source).taken c.loop-line.lines c.next_line.follows.lender-at-none _ _ _
    (c.loop-line.lines.bytes ++ (g.S.Source.shown c.loop-line.script).left) _ c.in-Line.line.now first.0 c.in-Stops.status
    (kept.run told_in told_files told_out) first.1
    (subst (Carries (step_parsed (g.F.Files.shown c.args.files.now).entries (state_of c.loop-line.session) (parse c.in-Line.line.now)) (c.loop-line.number + 1) (state_of c.loop-line.session) (g.K.Sink.shown c.loop-line.out).written (state_of c.carry_line.new.session) (g.K.Sink.shown c.carry_line.new.out).written) c.in-Stops.is
    (subst (λ (files : Files). Carries (step_parsed files (state_of c.loop-line.session) (parse c.in-Line.line.now)) (c.loop-line.number + 1) (state_of c.loop-line.session) (g.K.Sink.shown c.loop-line.out).written (state_of c.carry_line.new.session) (g.K.Sink.shown c.carry_line.new.out).written c.carry_line.result)
    kept.files.entries.entries (c.carry_line.ensures.carries here_files here_out)))
    (omega (arith, taken, first.1.handed))

pub returns-in-End-clause-run : goal.returns-in-End-clause-run
returns-in-End-clause-run g c = λ told_in told_files told_out.
    let kept = c.loop-line.invariant in
    let here_in : IsTrue (g.S.Source.shown c.loop-line.script).tells = subst IsTrue (sym kept.script_told) told_in in
    let next = c.next_line.follows.holds-at-none in
    let hands = (next.hands here_in (kept.attached told_in)) in
    let taken = taken_since (g.S.Source.shown c.args.script.now).taken (g.S.Source.shown c.loop-line.script).taken (g.S.Source.shown c.next_line.new.source).taken (taken_by c.loop-line.lines) (taken_by c.next_line.follows.lender-at-none) kept.taken next.advances.taken in
    let ended = end_answered _ _ _ _ c.next_line.result hands c.in-End.is in
    let moved = end_moved _ _ _ _ c.next_line.result next.advances c.in-End.is in
    end_stops (g.F.Files.shown c.args.files.now).entries _ (state_of c.loop-line.session) (c.loop-line.number + 1) c.loop-line.lines.handed (g.S.Source.shown c.args.script.now).taken (g.S.Source.shown c.next_line.new.source).taken _ _
    (c.loop-line.lines.bytes ++ (g.S.Source.shown c.loop-line.script).left) (kept.run told_in told_files told_out) ended.0 (omega (arith, taken, moved.0))

pub returns-in-TooLong-clause-run : goal.returns-in-TooLong-clause-run
returns-in-TooLong-clause-run g c = λ told_in told_files told_out.
    let kept = c.loop-line.invariant in
    let here_in : IsTrue (g.S.Source.shown c.loop-line.script).tells = subst IsTrue (sym kept.script_told) told_in in
    let here_out : IsTrue (g.K.Sink.shown c.loop-line.out).tells = subst IsTrue (sym kept.out_told) told_out in
    let next = c.next_line.follows.holds-at-none in
    let hands = (next.hands here_in (kept.attached told_in)) in
    let taken = taken_since (g.S.Source.shown c.args.script.now).taken (g.S.Source.shown c.loop-line.script).taken (g.S.Source.shown c.next_line.new.source).taken (taken_by c.loop-line.lines) (taken_by c.next_line.follows.lender-at-none) kept.taken next.advances.taken in
    let begins = long_answered _ _ _ _ c.next_line.result hands c.in-TooLong.is in
    let moved = long_moved _ _ _ _ c.next_line.result next.advances c.in-TooLong.is in
    long_stops (g.F.Files.shown c.args.files.now).entries _ (state_of c.loop-line.session) (c.loop-line.number + 1) (g.S.Source.shown c.args.script.now).taken (g.S.Source.shown c.next_line.new.source).taken c.loop-line.lines _ _ _
    (c.loop-line.lines.bytes ++ (g.S.Source.shown c.loop-line.script).left) LineTooLong (Refuses reason.LineTooLong) c.refuse.result
    (kept.run told_in told_files told_out) begins (λ _. refl) (c.refuse.ensures.refused here_out (state_of c.loop-line.session)) (λ _. omega (arith, taken, moved.1))

pub returns-in-ScriptTooLong-clause-run : goal.returns-in-ScriptTooLong-clause-run
returns-in-ScriptTooLong-clause-run g c = λ told_in told_files told_out.
    let kept = c.loop-line.invariant in
    let here_in : IsTrue (g.S.Source.shown c.loop-line.script).tells = subst IsTrue (sym kept.script_told) told_in in
    let here_out : IsTrue (g.K.Sink.shown c.loop-line.out).tells = subst IsTrue (sym kept.out_told) told_out in
    let next = c.next_line.follows.holds-at-none in
    let hands = (next.hands here_in (kept.attached told_in)) in
    let taken = taken_since (g.S.Source.shown c.args.script.now).taken (g.S.Source.shown c.loop-line.script).taken (g.S.Source.shown c.next_line.new.source).taken (taken_by c.loop-line.lines) (taken_by c.next_line.follows.lender-at-none) kept.taken next.advances.taken in
    let begins = script_long_answered _ _ _ _ c.next_line.result hands c.in-ScriptTooLong.is in
    let moved = script_long_moved _ _ _ _ c.next_line.result next.advances c.in-ScriptTooLong.is in
    long_stops (g.F.Files.shown c.args.files.now).entries _ (state_of c.loop-line.session) (c.loop-line.number + 1) (g.S.Source.shown c.args.script.now).taken (g.S.Source.shown c.next_line.new.source).taken c.loop-line.lines _ _ _
    (c.loop-line.lines.bytes ++ (g.S.Source.shown c.loop-line.script).left) ScriptTooLong (Refuses reason.ScriptTooLong) c.refuse-in-ScriptTooLong.result
    (kept.run told_in told_files told_out) begins (λ _. refl) (c.refuse-in-ScriptTooLong.ensures.refused here_out (state_of c.loop-line.session)) (λ _. omega (arith, taken, moved.1))

pub loop-line-preserved : goal.loop-line-preserved
loop-line-preserved g c =
    let kept = c.loop-line.invariant in
    let next = c.next_line.follows.holds-at-none in
    let moved = line_moved _ _ _ _ c.next_line.result c.in-Line.line next.advances c.in-Line.is in
    record {
      script_told = c.next_line.ensures.told ∙ kept.script_told;
      out_told = c.carry_line.ensures.told ∙ kept.out_told;
      script_later = omega (arith, kept.script_later, c.next_line.ensures.later);
      out_later = omega (arith, kept.out_later, c.carry_line.ensures.later);
      files = KeepsFiles-trans _ _ _ kept.files c.carry_line.ensures.files;
      kept = Keeps-trans _ _ _ kept.kept c.carry_line.ensures.kept;
      within = next.advances.within;
      number = omega (arith, kept.number, moved.0);
      taken = taken_since (g.S.Source.shown c.args.script.now).taken (g.S.Source.shown c.loop-line.script).taken (g.S.Source.shown c.next_line.new.source).taken (taken_by c.loop-line.lines) (taken_by c.next_line.follows.lender-at-none) kept.taken next.advances.taken;
      ended = next.true_end kept.ended;
      attached = λ told_in.
          let here_in : IsTrue (g.S.Source.shown c.loop-line.script).tells = subst IsTrue (sym kept.script_told) told_in in
          next.last_end here_in (kept.attached told_in);
      run = λ told_in told_files told_out.
          let here_in : IsTrue (g.S.Source.shown c.loop-line.script).tells = subst IsTrue (sym kept.script_told) told_in in
          let here_files : IsTrue (g.F.Files.shown c.loop-line.files).tells = subst IsTrue (sym kept.files.entries.told) told_files in
          let here_out : IsTrue (g.K.Sink.shown c.loop-line.out).tells = subst IsTrue (sym kept.out_told) told_out in
          let first = line_answered _ _ _ _ c.next_line.result c.in-Line.line (next.hands here_in (kept.attached told_in)) c.in-Line.is in
          line_turns (g.F.Files.shown c.args.files.now).entries _ (state_of c.loop-line.session) (state_of c.carry_line.new.session) (c.loop-line.number + 1) c.loop-line.lines c.next_line.follows.lender-at-none _ _ _
          (c.loop-line.lines.bytes ++ (g.S.Source.shown c.loop-line.script).left) _ c.in-Line.line.now first.0
          (kept.run told_in told_files told_out) first.1
          (subst (Carries (step_parsed (g.F.Files.shown c.args.files.now).entries (state_of c.loop-line.session) (parse c.in-Line.line.now)) (c.loop-line.number + 1) (state_of c.loop-line.session) (g.K.Sink.shown c.loop-line.out).written (state_of c.carry_line.new.session) (g.K.Sink.shown c.carry_line.new.out).written) c.in_default.is
          (subst (λ (files : Files). Carries (step_parsed files (state_of c.loop-line.session) (parse c.in-Line.line.now)) (c.loop-line.number + 1) (state_of c.loop-line.session) (g.K.Sink.shown c.loop-line.out).written (state_of c.carry_line.new.session) (g.K.Sink.shown c.carry_line.new.out).written c.carry_line.result)
          kept.files.entries.entries (c.carry_line.ensures.carries here_files here_out)));
    }
