use Rattle.std.proofs.Common.{◌≡◌, ◌++◌, ◌-◌, ◌*◌}
use Rattle.cf_reference.specs.Generator.{text_of_lines, drawn_lines, state_after}
use Rattle.cf_gen.proofs.add_drawn.Given as goal

abbrev pub invariant-loop-i : goal.invariant-loop-i
invariant-loop-i l = record {
  text : l.text.items ≡ l.fn.text.items ++ text_of_lines (drawn_lines l.n (l.i - 12));
  state : l.generator ≡ state_after l.n (3 * (l.i - 12));
}
