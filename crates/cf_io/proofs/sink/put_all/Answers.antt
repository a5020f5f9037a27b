use Rattle.std.proofs.Common.{◌++◌, ap, arith, length-drop, IsTrue, take, drop, subst, ◌∙◌, sym, append_assoc}
use Rattle.std.proofs.lemmas.List.{take_rest}
use Rattle.std.proofs.Math.Seq.{take-add}
use Rattle.cf_io.proofs.sink.put_all.Goals as goal

pub loop-done-preserved : goal.loop-done-preserved
loop-done-preserved g c =
    let kept = c.loop-done.invariant in
    record {
      within = omega (arith, c.in-Took.ensures.bound, length-drop c.loop-done.done c.args.bytes.now);
      same = c.in-Took.ensures.writes.told ∙ kept.same;
      later = omega (arith, kept.later, c.in-Took.ensures.writes.cause.later);
      front = λ told.
          let told_here : IsTrue (g.K.Sink.shown c.loop-done.out).tells = subst IsTrue (sym kept.same) told in
          c.in-Took.ensures.writes.written told_here
          ∙ ap (λ xs. (g.K.Sink.shown c.loop-done.out).written ++ take c.in-Took.count xs) (take_rest c.args.bytes.now c.loop-done.done)
          ∙ ap (λ xs. xs ++ take c.in-Took.count (drop c.loop-done.done c.args.bytes.now)) (kept.front told)
          ∙ append_assoc (g.K.Sink.shown c.args.out.now).written (take c.loop-done.done c.args.bytes.now) (take c.in-Took.count (drop c.loop-done.done c.args.bytes.now))
          ∙ ap (λ xs. (g.K.Sink.shown c.args.out.now).written ++ xs) (sym (take-add c.loop-done.done c.in-Took.count c.args.bytes.now));
    }
