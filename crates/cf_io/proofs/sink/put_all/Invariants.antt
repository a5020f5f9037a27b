use Rattle.std.proofs.Common.{length, ◌-◌, ◌≡◌, ◌≤◌, ◌++◌, take}
use Rattle.cf_io.specs.Shown.{WritingIsTold}
use Rattle.cf_io.proofs.sink.put_all.Given as goal

-- what was written is the front of the bytes that the loop has come to
abbrev pub invariant-loop-done : goal.invariant-loop-done
invariant-loop-done g l =
    let out = g.K.Sink in
    record {
      within : l.done ≤ length l.bytes;
      same : (out.shown l.out).tells ≡ (out.shown l.fn.out).tells;
      later : (out.shown l.fn.out).faults ≤ (out.shown l.out).faults;
      front : WritingIsTold (out.shown l.fn.out) → (out.shown l.out).written ≡ (out.shown l.fn.out).written ++ take l.done l.bytes;
    }

abbrev pub decreases-loop-done : goal.decreases-loop-done
decreases-loop-done g l = length l.bytes - l.done
