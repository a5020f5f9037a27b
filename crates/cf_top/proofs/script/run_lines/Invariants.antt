use Rattle.std.proofs.Common.{◌≡◌, ◌≤◌, ◌+◌, ◌-◌, [], ◌++◌, IsTrue}
use Rattle.cf_io.specs.Held.{taken_by}
use Rattle.cf_reference.specs.Lines.{lines}
use Rattle.cf_reference.specs.Scripts.{run_lines}
use Rattle.cf_pkg.specs.Packages.{Keeps}
use Rattle.cf_session.specs.Sessions.{state_of}
use Rattle.cf_session.specs.Contents.{KeepsFiles}
use Rattle.cf_top.proofs.Following.{Follows}
use Rattle.cf_top.proofs.script.run_lines.Given as goal

-- the whole run is what was written so far, and the run over what is left
abbrev pub invariant-loop-line : goal.invariant-loop-line
invariant-loop-line g l = record {
  script_told : (g.S.Source.shown l.script).tells ≡ (g.S.Source.shown l.fn.script).tells;
  out_told : (g.K.Sink.shown l.out).tells ≡ (g.K.Sink.shown l.fn.out).tells;
  script_later : (g.S.Source.shown l.fn.script).faults ≤ (g.S.Source.shown l.script).faults;
  out_later : (g.K.Sink.shown l.fn.out).faults ≤ (g.K.Sink.shown l.out).faults;
  files : KeepsFiles (g.F.Files.shown l.fn.files) (g.F.Files.shown l.files);
  kept : Keeps l.fn.session.pkg l.session.pkg;
  within : l.lines.handed ≤ 1073741824;
  number : l.number ≤ l.lines.handed;
  taken : (g.S.Source.shown l.fn.script).taken + taken_by l.lines ≡ (g.S.Source.shown l.script).taken;
  ended : IsTrue l.lines.ended → IsTrue (g.S.Source.shown l.script).ended;
  attached : IsTrue (g.S.Source.shown l.fn.script).tells → IsTrue l.lines.ended → (g.S.Source.shown l.script).left ≡ [];
  run : IsTrue (g.S.Source.shown l.fn.script).tells → IsTrue (g.F.Files.shown l.fn.files).tells → IsTrue (g.K.Sink.shown l.fn.out).tells →
      Follows (run_lines (g.F.Files.shown l.fn.files).entries (state_of l.fn.session) 1 0 (lines (g.S.Source.shown l.fn.script).left))
      (run_lines (g.F.Files.shown l.fn.files).entries (state_of l.session) (l.number + 1) l.lines.handed (lines (l.lines.bytes ++ (g.S.Source.shown l.script).left)))
      (g.K.Sink.shown l.fn.out).written (g.K.Sink.shown l.out).written;
}

-- each line hands out some of the bytes that a script can have
abbrev pub decreases-loop-line : goal.decreases-loop-line
decreases-loop-line g l = 1073741824 - l.lines.handed
