use Rattle.std.specs.Prelude.{◌+◌, ◌*◌}
use Rattle.cf_grammar_cases.proofs.spelling.+calls.Given as goal

abbrev pub decreases-spell_expr : goal.decreases-spell_expr
decreases-spell_expr g l = 3 * l.depth

abbrev pub decreases-begin_call : goal.decreases-begin_call
decreases-begin_call g l = 3 * l.depth + 1

abbrev pub decreases-end_call : goal.decreases-end_call
decreases-end_call g l = 3 * l.depth + 1

abbrev pub decreases-spell_over : goal.decreases-spell_over
decreases-spell_over g l = 3 * l.depth + 2

abbrev pub decreases-spell_list : goal.decreases-spell_list
decreases-spell_list g l = 3 * l.depth + 1

abbrev pub decreases-spell_one : goal.decreases-spell_one
decreases-spell_one g l = 3 * l.depth + 2

abbrev pub decreases-spell_two : goal.decreases-spell_two
decreases-spell_two g l = 3 * l.depth + 2
