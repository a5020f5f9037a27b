use Rattle.std.proofs.Common.{◌≡◌, ◌+◌, ◌-◌, ◌≤◌, length, take, IsTrue, false, cond}
use Rattle.cf_reference.specs.Lines.{NoNewline}
use Rattle.cf_io.specs.LineSteps.{EndIsLast, EndIsTrue, to_come}
use Rattle.cf_io.specs.Shown.{ReadingIsTold}
use Rattle.cf_io.specs.Windows.{Comes, held, IsSound, state}
use Rattle.cf_io.proofs.lines.find.Given as goal

-- nothing was handed out yet, the bytes that are to come stay the same, and no newline was seen
abbrev pub invariant-loop-i : goal.invariant-loop-i
invariant-loop-i g l =
    let source = g.S.Source in
    record {
      sound : IsSound l.window;
      handed : l.window.handed ≡ l.fn.window.handed;
      seen : l.seen ≤ length (held l.window);
      plain : NoNewline (take l.seen (held l.window));
      taken : length (held l.window) + (source.shown l.fn.source).taken ≡ length (held l.fn.window) + (source.shown l.source).taken;
      stays : IsTrue l.fn.window.ended → IsTrue l.window.ended;
      ends : EndIsTrue (state l.fn.window) (source.shown l.fn.source) → EndIsTrue (state l.window) (source.shown l.source);
      remembers : IsTrue (source.shown l.source).ended → l.window.ended ≡ false → l.source ≡ l.fn.source;
      stream : ReadingIsTold (source.shown l.fn.source) →
          to_come (state l.window) (source.shown l.source) ≡ to_come (state l.fn.window) (source.shown l.fn.source);
      attached : ReadingIsTold (source.shown l.fn.source) → EndIsLast (state l.fn.window) (source.shown l.fn.source) →
          EndIsLast (state l.window) (source.shown l.source);
      comes : ReadingIsTold (source.shown l.fn.source) →
          Comes (held l.fn.window) (held l.window) (source.shown l.fn.source) (source.shown l.source);
      quiet : IsTrue l.fn.window.ended → l.source ≡ l.fn.source;
      told : (source.shown l.source).tells ≡ (source.shown l.fn.source).tells;
      later : (source.shown l.fn.source).faults ≤ (source.shown l.source).faults;
    }

abbrev pub decreases-loop-i : goal.decreases-loop-i
decreases-loop-i g l = cond l.window.ended 0 1 + (65537 - length (held l.window))
