use Rattle.std.proofs.Common.{◌≡◌, ◌++◌}
use Rattle.cf_reference.specs.Generator.{text_of_lines, variable_lines}
use Rattle.cf_gen.proofs.add_variables.Given as goal

abbrev pub invariant-loop-i : goal.invariant-loop-i
invariant-loop-i l = l.text.items ≡ l.fn.text.items ++ text_of_lines (variable_lines l.i)
