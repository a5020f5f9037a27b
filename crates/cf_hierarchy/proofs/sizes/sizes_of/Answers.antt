use Rattle.std.proofs.Common.{◌≡◌, ◌+◌, ◌<◌, ◌≤◌, ◌^◌, length, min, arith, ap, ◌∙◌, subst, sym}
use Rattle.std.specs.List.{All, sum_by}
use Rattle.std.specs.Prelude.{slice_index}
use Rattle.cf_order.specs.Chains.{IsLongest, tallest, total}
use Rattle.cf_order.proofs.ChainLaws.{lists_chains}
use Rattle.cf_hierarchy.proofs.Sizing.{called_row, called_within, called_low, called_few, sized_more, all_longest, all_counted}
use Rattle.cf_hierarchy.proofs.sizes.sizes_of.Goals as goal

pub height_of-height-requires-clause-within : goal.height_of-height-requires-clause-within
height_of-height-requires-clause-within c =
    let r = called_row _ _ c.requires.order _ c.loop-model-test.true _ _ c.index-calls-model.is
    c.items-called.ensures in
    let w = called_within _ c.args.weights.now _ c.requires.order c.args.limit _ _ _
    c.loop-model.invariant c.loop-model-test.true in
    subst (λ row. All (λ c'. c' < length c.as_slice.result.now) row) (sym r)
    (λ i d l. omega (
      arith,
      w i d l,
      c.loop-model.invariant.tall,
      ap length
          c.as_slice.ensures.value,
    ))

pub height_of-height-requires-clause-bound : goal.height_of-height-requires-clause-bound
height_of-height-requires-clause-bound c =
    let r = called_row _ _ c.requires.order _ c.loop-model-test.true _ _ c.index-calls-model.is
    c.items-called.ensures in
    let w = called_low _ c.args.weights.now _ c.requires.order c.args.limit _ _ _
    c.loop-model.invariant c.loop-model-test.true in
    subst (λ hs. All (λ c'. slice_index hs c' < 2 ^ 62) c.items-called.result.now)
    (sym c.as_slice.ensures.value)
    (subst (λ row. All (λ c'. slice_index c.loop-model.heights.items c' < 2 ^ 62) row) (sym r)
    (λ i d l. omega (
      arith,
      w i d l,
      c.requires.models,
      c.requires.order.whole,
      c.loop-model-test.true,
    )))

pub count_of-count-requires-clause-within : goal.count_of-count-requires-clause-within
count_of-count-requires-clause-within c =
    let r = called_row _ _ c.requires.order _ c.loop-model-test.true _ _ c.index-calls-model.is
    c.items-called.ensures in
    let w = called_within _ c.args.weights.now _ c.requires.order c.args.limit _ _ _
    c.loop-model.invariant c.loop-model-test.true in
    subst (λ row. All (λ c'. c' < length c.as_slice-in-loop-model.result.now) row) (sym r)
    (λ i d l. omega (
      arith,
      w i d l,
      c.loop-model.invariant.full,
      ap length
          c.as_slice-in-loop-model.ensures.value,
    ))

pub count_of-count-requires-clause-bound : goal.count_of-count-requires-clause-bound
count_of-count-requires-clause-bound c =
    let r = called_row _ _ c.requires.order _ c.loop-model-test.true _ _ c.index-calls-model.is
    c.items-called.ensures in
    let w = called_few _ c.args.weights.now _ c.requires.order c.args.limit _ _ _
    c.loop-model.invariant c.loop-model-test.true in
    subst (λ hs. All (λ c'. slice_index hs c' ≤ c.args.limit + 1) c.items-called.result.now)
    (sym c.as_slice-in-loop-model.ensures.value)
    (subst (λ row. All (λ c'. slice_index c.loop-model.counts.items c' ≤ c.args.limit + 1) row)
    (sym r) w)

pub loop-model-preserved : goal.loop-model-preserved
loop-model-preserved c =
    let r = called_row _ _ c.requires.order _ c.loop-model-test.true _ _ c.index-calls-model.is
    c.items-called.ensures in
    sized_more c.args.calls.now c.args.weights.now c.args.order.now c.requires.order c.args.limit
    c.loop-model.heights.items c.loop-model.counts.items c.loop-model.model-index
    c.loop-model.invariant c.loop-model-test.true c.height_of-height.result c.count_of-count.result
    (c.height_of-height.ensures ∙ ap (λ hs. tallest hs c.items-called.result.now)
    c.as_slice.ensures.value ∙ ap (tallest c.loop-model.heights.items) r)
    (c.count_of-count.ensures
    ∙ ap (λ cs. min (c.args.limit + 1) (slice_index c.args.weights.now
    (slice_index c.args.order.now c.loop-model.model-index) + sum_by (slice_index cs)
    c.items-called.result.now)) c.as_slice-in-loop-model.ensures.value
    ∙ ap (λ row. min (c.args.limit + 1) (slice_index c.args.weights.now
    (slice_index c.args.order.now c.loop-model.model-index) + sum_by
    (slice_index c.loop-model.counts.items) row)) r)

pub returns-clause-heights : goal.returns-clause-heights
returns-clause-heights c m h =
    subst (λ hs. IsLongest c.args.calls.now m (slice_index hs m)) (sym c.of.ensures)
    (all_longest _ _ _ c.requires.order _ _ _ _ c.loop-model.invariant (omega arith) m h)

pub returns-clause-counts : goal.returns-clause-counts
returns-clause-counts c m k h =
    subst (λ hs. slice_index hs m ≤ k → slice_index c.of-2.result m ≡ min (c.args.limit + 1) (total
    c.args.calls.now c.args.weights.now k m)) (sym c.of.ensures)
    (subst (λ cs. slice_index c.loop-model.heights.items m ≤ k
    → slice_index cs m ≡ min (c.args.limit + 1) (total c.args.calls.now c.args.weights.now k m))
    (sym c.of-2.ensures)
    (all_counted _ _ _ c.requires.order _ _ _ _ c.loop-model.invariant (omega arith) m h k))

pub returns-clause-chains : goal.returns-clause-chains
returns-clause-chains c m k = lists_chains c.args.calls.now k m

pub returns-clause-lengths : goal.returns-clause-lengths
returns-clause-lengths c = (
  ap length c.of.ensures ∙ c.loop-model.invariant.tall,
  ap length
      c.of-2.ensures ∙ c.loop-model.invariant.full,
)
