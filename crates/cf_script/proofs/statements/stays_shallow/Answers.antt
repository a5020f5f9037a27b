use Rattle.std.proofs.Common.{◌≡◌, ◌≤◌, ◌+◌, ◌==◌, length, ◌∙◌, arith}
use Rattle.std.proofs.lemmas.List.Sums.{count_by-le-length}
use Rattle.cf_script.proofs.DepthFacts.{opens, closes, block-more, block-room}
use Rattle.cf_script.proofs.statements.stays_shallow.Goals as goal

pub loop-rest-preserved : goal.loop-rest-preserved
loop-rest-preserved c =
    let rest = c.loop-rest.rest.now in
    let block = c.split_at.result.0.now in
    let more = c.split_at.result.1.now in
    let kept = c.loop-rest.invariant in
    let opened : c.from-opened.result ≡ opens block = c.from-opened.ensures ∙ c.count.ensures in
    let closed : c.from-closed.result ≡ closes block = c.from-closed.ensures ∙ c.count-in-loop-rest.ensures in
    let few : c.loop-rest.opened + c.from-opened.result ≤ 64 + c.loop-rest.closed = omega (arith, c.if-opened-closed.false) in
    record {
      deep = λ d.
          block-more rest block more c.min.result c.loop-rest.opened c.loop-rest.closed c.from-opened.result c.from-closed.result
          c.split_at.ensures.front c.split_at.ensures.back opened closed few (kept.deep d);
      shallow = omega (arith, few);
      bound = (
        block-room rest block more c.min.result c.loop-rest.opened c.from-opened.result (length c.args.text.now) c.split_at.ensures.front c.split_at.ensures.back
            (omega (arith, opened, count_by-le-length (λ b. b == 40) block)) kept.bound.0,
        block-room rest block more c.min.result c.loop-rest.closed c.from-closed.result (length c.args.text.now) c.split_at.ensures.front c.split_at.ensures.back
            (omega (arith, closed, count_by-le-length (λ b. b == 41) block)) kept.bound.1,
      );
    }
