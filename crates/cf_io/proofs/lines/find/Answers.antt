use Rattle.std.proofs.Common.{◌-◌, ◌∙◌, ap, sym, subst, arith, false, IsTrue}
use Rattle.std.proofs.lemmas.Bool.{true≢false}
use Rattle.cf_reference.specs.Lines.{fit}
use Rattle.cf_io.specs.Shown.{ReadingIsTold}
use Rattle.cf_io.specs.Windows.{held, state}
use Rattle.cf_io.proofs.WindowLemmas.{comes_more, length_between}
use Rattle.cf_io.proofs.FindLemmas.{takes_of, hands_of, cut_newline, first_newline, first_last, begins_long, begins_over}
use Rattle.cf_io.proofs.lines.find.Goals as goal

pub returns-in-Some-clause-takes : goal.returns-in-Some-clause-takes
returns-in-Some-clause-takes g c = λ told.
    takes_of (state c.args.window.now) c.loop-i.window c.hand_out.new.window _ _ _ c.hand_out.result c.hand_out.ensures.hands
    (cut_newline c.in-Some.i (held c.loop-i.window) (rw c.deref.ensures.value at c.in-Some.ensures.within) (rw c.deref.ensures.value at c.in-Some.ensures.found))
    (c.loop-i.invariant.comes told)

pub returns-in-Some-clause-hands : goal.returns-in-Some-clause-hands
returns-in-Some-clause-hands g c = λ told last.
    hands_of (state c.args.window.now) c.loop-i.window c.hand_out.new.window _ (g.S.Source.shown c.loop-i.source).left _ c.hand_out.result c.hand_out.ensures.hands c.loop-i.invariant.handed
    (first_newline c.in-Some.i (held c.loop-i.window) (g.S.Source.shown c.loop-i.source).left
    (rw c.deref.ensures.value at c.in-Some.ensures.within) (rw c.deref.ensures.value at c.in-Some.ensures.found) (rw c.deref.ensures.value at c.in-Some.ensures.before))
    (c.loop-i.invariant.stream told) (λ h. absurd (true≢false h))

pub returns-in-Some-clause-last_end : goal.returns-in-Some-clause-last_end
returns-in-Some-clause-last_end g c = λ told last ended. c.loop-i.invariant.attached told last (sym c.hand_out.ensures.ended ∙ ended)

pub returns-then-window-clause-hands : goal.returns-then-window-clause-hands
returns-then-window-clause-hands g c = λ told last.
    let w = c.loop-i.window in
    let none = c.loop-i.invariant.attached told last c.if-window.true in
    let all = length_between w.from w.upto w.buf.items c.loop-i.invariant.sound.ordered c.loop-i.invariant.sound.within in
    hands_of (state c.args.window.now) w c.hand_out-then-window.new.window _ (g.S.Source.shown c.loop-i.source).left _ c.hand_out-then-window.result c.hand_out-then-window.ensures.hands
    c.loop-i.invariant.handed
    (first_last (w.upto - w.from) (held w) (g.S.Source.shown c.loop-i.source).left (sym all) (omega (arith, c.if-len-eq0.false)) none
    (rw c.deref.ensures.value at c.in_default.ensures.none))
    (c.loop-i.invariant.stream told) (λ h. c.hand_out-then-window.ensures.ended ∙ c.if-window.true)

pub returns-then-window-clause-last_end : goal.returns-then-window-clause-last_end
returns-then-window-clause-last_end g c = λ told last ended. c.loop-i.invariant.attached told last c.if-window.true

pub returns-in-LineTooLong-clause-hands : goal.returns-in-LineTooLong-clause-hands
returns-in-LineTooLong-clause-hands g c = λ told last.
    let w = c.loop-i.window in
    let all = length_between w.from w.upto w.buf.items c.loop-i.invariant.sound.ordered c.loop-i.invariant.sound.within in
    begins_long (state c.args.window.now) (held w) (g.S.Source.shown c.loop-i.source).left _ (c.loop-i.invariant.stream told) (rw c.deref.ensures.value at c.in_default.ensures.none)
    (ap (λ n. fit n (record { bytes = held w; newline = false })) (sym c.loop-i.invariant.handed) ∙ c.in-LineTooLong.ensures (held w) all)

pub returns-in-ScriptTooLong-clause-hands : goal.returns-in-ScriptTooLong-clause-hands
returns-in-ScriptTooLong-clause-hands g c = λ told last.
    let w = c.loop-i.window in
    let all = length_between w.from w.upto w.buf.items c.loop-i.invariant.sound.ordered c.loop-i.invariant.sound.within in
    begins_over (state c.args.window.now) (held w) (g.S.Source.shown c.loop-i.source).left _ c.requires.sound.handed (c.loop-i.invariant.stream told)
    (rw c.deref.ensures.value at c.in_default.ensures.none)
    (ap (λ n. fit n (record { bytes = held w; newline = false })) (sym c.loop-i.invariant.handed) ∙ c.in-ScriptTooLong.ensures (held w) all)

pub returns-in-Failed-clause-takes : goal.returns-in-Failed-clause-takes
returns-in-Failed-clause-takes g c = λ told.
    let here : ReadingIsTold (g.S.Source.shown c.loop-i.source) = subst IsTrue (sym c.loop-i.invariant.told) told in
    let all = comes_more (held c.args.window.now) (held c.loop-i.window) (held c.refill.new.window)
    (g.S.Source.shown c.args.source.now) (g.S.Source.shown c.loop-i.source) (g.S.Source.shown c.refill.new.source)
    (c.loop-i.invariant.comes told) (c.refill.ensures.comes here) in
    record { fresh = all.fresh; read = all.read; left = all.left; splits = all.held }
