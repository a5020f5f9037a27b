use Rattle.std.proofs.Common.{◌<◌, ◌+◌, ◌∷◌, [], ◌++◌, length, get_or, ◌∙◌, ap, arith, rules}
use Rattle.cf_comb.specs.Merges.{no_term}
use Rattle.cf_comb.proofs.GatherLaws.{gathered_one, gathered_same, gathered_other, gathered_all, gathered_room, gathered_alike}
use Rattle.cf_comb.proofs.merging.gathered.Goals as goal
use Rattle.cf_comb.proofs.merging.gathered.Goals.{then-same_pair, else-same_pair+in_ok-push}

pub loop-i-init : goal.loop-i-init
loop-i-init c =
    let some : 0 < length c.args.terms.now = search rules in
    gathered_one c.args.terms.now c.new-sum.result.items some c.requires.positive c.new-sum.ensures.items

pub overflow_add-count : goal.overflow_add-count
overflow_add-count c = omega (arith, gathered_room c.args.terms.now c.loop-i.i c.loop-i.sum.items c.loop-i.pair c.loop-i.count c.loop-i.invariant c.loop-i-test.true, c.requires.bounded)

pub loop-i-preserved : goal.loop-i-preserved
loop-i-preserved c =
    let terms = c.args.terms.now in
    let i = c.loop-i.i in
    let sum = c.loop-i.sum.items in
    let pair = c.loop-i.pair in
    let count = c.loop-i.count in
    let next = get_or terms i no_term in
    elim c.if-same_pair.branch [
      | then-same_pair w ↦
          gathered_alike terms (i + 1) sum c.if-same_pair.sum.items pair c.if-same_pair.pair (count + next.1) c.if-same_pair.count (ap (λ v. v.items) w.sum-is) w.pair-is w.count-is
          (gathered_same terms i sum pair count c.loop-i.invariant c.loop-i-test.true (c.same_pair.ensures.0 w.if-same_pair.true))
      | else-same_pair+in_ok-push w ↦
          gathered_alike terms (i + 1) (sum ++ (pair, count) ∷ []) c.if-same_pair.sum.items next.0 c.if-same_pair.pair next.1 c.if-same_pair.count (ap (λ v. v.items) w.sum-is ∙ w.in_ok-push.ensures.items) w.pair-is w.count-is
          (gathered_other terms i sum pair count c.requires.in_order c.requires.positive c.loop-i.invariant c.loop-i-test.true (λ e. (let t = c.same_pair.ensures.1 e in let f = w.if-same_pair.false in cc)))
    ]

pub returns : goal.returns
returns c =
    c.in_ok-push-2.ensures.items
    ∙ gathered_all c.args.terms.now c.loop-i.i c.loop-i.sum.items c.loop-i.pair c.loop-i.count c.requires.positive c.loop-i.invariant c.loop-i-test.false
