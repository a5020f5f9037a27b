use Rattle.std.proofs.Common.{ℕ, suc, ◌≡◌, ◌+◌, ◌*◌, ◌<◌, length}
use Rattle.cf_reference.specs.Words.{words}
use Rattle.cf_script.specs.Arguments.{gathered, over, as_arguments}
use Rattle.cf_script.proofs.ListFacts.{AreFront, HasEnds}
use Rattle.cf_script.proofs.expressions.+expressions.Given as goal

abbrev pub decreases-read_expr : goal.decreases-read_expr
decreases-read_expr l = 3 * length l.text.now

abbrev pub decreases-read_call : goal.decreases-read_call
decreases-read_call l = 3 * length l.text.now + 4

abbrev pub decreases-read_few : goal.decreases-read_few
decreases-read_few l = 3 * length l.text.now + 3

abbrev pub decreases-read_list : goal.decreases-read_list
decreases-read_list l = 3 * length l.text.now + 3

abbrev pub decreases-gather_list : goal.decreases-gather_list
decreases-gather_list l = 3 * length l.text.now + 2

abbrev pub decreases-read_over : goal.decreases-read_over
decreases-read_over l = 3 * length l.text.now + 3

abbrev pub decreases-gather_over : goal.decreases-gather_over
decreases-gather_over l = 3 * length l.text.now + 2

abbrev pub decreases-gather : goal.decreases-gather
decreases-gather l = 3 * length l.text.now + 2

abbrev pub decreases-read_argument : goal.decreases-read_argument
decreases-read_argument l = 3 * length l.text.now + 1

abbrev pub invariant-gather_list-loop-more : goal.invariant-gather_list-loop-more
invariant-gather_list-loop-more l = record {
  shorter : length l.end < length l.text;
  front : AreFront l.head (as_arguments l.es.items.items) (words l.text) (words l.end);
  ends : (n : ℕ) × (length (as_arguments l.es.items.items) ≡ suc n) × HasEnds l.head (suc n) (words l.text) (words l.end);
}

abbrev pub decreases-gather_list-loop-more : goal.decreases-gather_list-loop-more
decreases-gather_list-loop-more l = length l.end

abbrev pub invariant-gather_over-loop-more : goal.invariant-gather_over-loop-more
invariant-gather_over-loop-more l = record {
  shorter : length l.end < length l.text;
  front : AreFront l.head (over l.args) (words l.text) (words l.end);
  ends : (n : ℕ) × (length (over l.args) ≡ suc n) × HasEnds l.head (suc n) (words l.text) (words l.end);
}

abbrev pub decreases-gather_over-loop-more : goal.decreases-gather_over-loop-more
decreases-gather_over-loop-more l = length l.end

abbrev pub invariant-gather-loop-more : goal.invariant-gather-loop-more
invariant-gather-loop-more l = record {
  shorter : length l.end < length l.text;
  front : AreFront l.head (gathered l.args) (words l.text) (words l.end);
  ends : (n : ℕ) × (length (gathered l.args) ≡ suc n) × HasEnds l.head (suc n) (words l.text) (words l.end);
}

abbrev pub decreases-gather-loop-more : goal.decreases-gather-loop-more
decreases-gather-loop-more l = length l.end
