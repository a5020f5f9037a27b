use Rattle.std.proofs.Common.{arith}
use Rattle.cf_blif.proofs.LineFacts.{begin, more-goes_on, more-ends, more-nothing, is_nothing}
use Rattle.cf_blif.proofs.lines.take_line.Goals as goal

pub loop-rest-init : goal.loop-rest-init
loop-rest-init c = record {
  lines = λ n. begin n c.args.words.now c.args.bytes.now c.requires.some c.requires.empty;
  within = omega arith;
  begun = λ e. omega arith;
}

pub loop-rest-preserved : goal.loop-rest-preserved
loop-rest-preserved c = record {
  lines = λ n.
      more-goes_on n c.loop-rest.count c.loop-rest.words c.push_words.new.words _ c.loop-rest.rest.now c.split_line.result.1.now c.split_line.result.0.now
      c.before_comment-text.result.now c.in-Some.front.now (c.loop-rest.invariant.lines n) c.split_line.ensures.line c.before_comment-text.ensures
      c.in-Some.ensures.some c.in_ok-push_words-in-Some.ensures;
  within = omega (arith, c.loop-rest.invariant.within, c.split_line.ensures.shorter);
  begun = λ e. omega arith;
}

pub returns-in-None-clause-taken : goal.returns-in-None-clause-taken
returns-in-None-clause-taken c n =
    more-ends n c.loop-rest.count c.loop-rest.words c.push_words-in-None.new.words _ c.loop-rest.rest.now c.split_line.result.1.now c.split_line.result.0.now
    c.before_comment-text.result.now (c.loop-rest.invariant.lines n) c.split_line.ensures.line c.before_comment-text.ensures
    c.in-None.ensures.none c.in_ok-push_words-in-None.ensures

pub returns-clause-taken : goal.returns-clause-taken
returns-clause-taken c n = more-nothing n c.loop-rest.count c.loop-rest.words _ c.loop-rest.rest.now (c.loop-rest.invariant.lines n)
    (is_nothing c.loop-rest.rest.now c.is_empty.result c.is_empty.ensures c.loop-rest-test.false)
