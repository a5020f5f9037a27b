use Rattle.std.proofs.Common.{append-nil}
use Rattle.cf_reference.specs.Generator.{state_after}
use Rattle.cf_gen.proofs.ScriptLaws.{none_drawn, drawn_lines-more, states-more, drawn_line-is, with_line}
use Rattle.cf_gen.proofs.add_drawn.Goals as goal

pub loop-i-init : goal.loop-i-init
unfolding state_after
loop-i-init c = record { text = rw (none_drawn, append-nil); state = c.new-generator.ensures }

pub loop-i-preserved : goal.loop-i-preserved
loop-i-preserved c =
    let low = c.loop-i.auto.i in
    let state = c.loop-i.invariant.state in
    let word = c.draw.ensures in
    let a = c.draw-a.ensures in
    let b = c.draw-b.ensures in
    let line = drawn_line-is c.args.n c.loop-i.i _ _ _ _ _ _ _ _ state word.state a.state b.state
    word.number c.operation_word-word.ensures a.number b.number in
    let more = drawn_lines-more c.args.n c.loop-i.i _ low line in
    record {
      text = with_line _ _ _ _ _ _ c.loop-i.invariant.text c.in_ok-add_call.ensures more;
      state = states-more c.args.n c.loop-i.i _ _ _ _ low state word.state a.state b.state;
    }
