use Rattle.std.proofs.Common.{◌≡◌, length, sym, ◌∙◌, ap, arith}
use Rattle.cf_model.specs.FlatFunctions.{points}
use Rattle.cf_model.proofs.Canonicity.{pattern_full}
use Rattle.cf_table.specs.Groupings.{pattern_of}
use Rattle.cf_witness.proofs.next.next_of_base.Goals as goal

pub returns-then-is_marked : goal.returns-then-is_marked
returns-then-is_marked c =
    let t = c.args.table.now in
    let full : length (pattern_of t c.args.g) ≡ points c.args.g.level = pattern_full t.levels c.law.ensures.good c.args.g.level c.args.g.at c.requires.owned in
    let two : points c.args.g.level ≡ 2 = ap points c.requires.level in
    let small = c.loop-number-test.true in
    record {
      reached = c.loop-number.invariant.0;
      within = omega (arith, full, two, small);
      exit_is = sym c.base_exit-exit.ensures;
      marked = sym c.is_marked.ensures ∙ c.if-is_marked.true;
      none_before = c.loop-number.invariant.1;
    }
