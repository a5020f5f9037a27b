use Rattle.std.proofs.Common.{◌<◌, length, arith, ap, ◌∙◌, subst, sym}
use Rattle.std.proofs.lemmas.List.{length-map}
use Rattle.cf_hierarchy.specs.declared.blocks.Block.{Block}
use Rattle.cf_hierarchy.specs.Links.{called}
use Rattle.std.specs.List.{All}
use Rattle.cf_hierarchy.proofs.PathLaws.{calls_below, measured, too_deep, deep_of, too_large, not_large}
use Rattle.cf_hierarchy.proofs.linking.link.Goals as goal

pub order_of-requires : goal.order_of-requires
order_of-requires c = subst (λ rows. All (All (λ t. t < length rows)) rows)
    (sym (c.as_slice.ensures.value ∙ c.in_ok-rows.ensures))
    (calls_below c.args.blocks.now c.requires.blocks)

pub bounds-heights-0 : goal.bounds-heights-0
bounds-heights-0 c =
    let e = ap length (c.as_slice-2.ensures.value ∙ c.in_ok-rows.ensures) in
    let l : 0 < length c.items-heights.result.now =
    omega (
      arith,
      c.requires.some,
      e,
      length-map c.args.blocks.now
          (λ (b : Block). called b.calls),
      c.in_ok-sizes.ensures.lengths.0,
      ap length
          c.items-heights.ensures,
    ) in
    l

pub bounds-counts-0 : goal.bounds-counts-0
bounds-counts-0 c =
    let e = ap length (c.as_slice-2.ensures.value ∙ c.in_ok-rows.ensures) in
    let l : 0 < length c.items-counts.result.now =
    omega (
      arith,
      c.requires.some,
      e,
      length-map c.args.blocks.now
          (λ (b : Block). called b.calls),
      c.in_ok-sizes.ensures.lengths.1,
      ap length
          c.items-counts.ensures,
    ) in
    l

pub returns-then-heights-gt-DEEPEST-clause-fault : goal.returns-then-heights-gt-DEEPEST-clause-fault
returns-then-heights-gt-DEEPEST-clause-fault c =
    let e = c.as_slice-2.ensures.value ∙ c.in_ok-rows.ensures in
    let m = measured c.args.blocks.now c.args.weights.now _ _ _ _ _ e c.requires.some
    c.in_ok-sizes.ensures.heights c.in_ok-sizes.ensures.counts c.items-heights.ensures
    c.items-counts.ensures in
    too_deep c.args.blocks.now _ c.requires.blocks c.requires.some m.longest
    c.if-heights-gt-DEEPEST.true

pub returns-then-counts-gt-LARGEST-clause-fault : goal.returns-then-counts-gt-LARGEST-clause-fault
returns-then-counts-gt-LARGEST-clause-fault c =
    let e = c.as_slice-2.ensures.value ∙ c.in_ok-rows.ensures in
    let m = measured c.args.blocks.now c.args.weights.now _ _ _ _ _ e c.requires.some
    c.in_ok-sizes.ensures.heights c.in_ok-sizes.ensures.counts c.items-heights.ensures
    c.items-counts.ensures in
    too_large c.args.blocks.now c.args.weights.now _ _ m c.if-heights-gt-DEEPEST.false
    c.if-counts-gt-LARGEST.true

pub flatten-requires-clause-deep : goal.flatten-requires-clause-deep
flatten-requires-clause-deep c =
    let e = c.as_slice-2.ensures.value ∙ c.in_ok-rows.ensures in
    let m = measured c.args.blocks.now c.args.weights.now _ _ _ _ _ e c.requires.some
    c.in_ok-sizes.ensures.heights c.in_ok-sizes.ensures.counts c.items-heights.ensures
    c.items-counts.ensures in
    deep_of c.args.blocks.now _ m.longest c.if-heights-gt-DEEPEST.false

pub returns-in-Ok-flatten-clause-no_fault : goal.returns-in-Ok-flatten-clause-no_fault
returns-in-Ok-flatten-clause-no_fault c =
    let e = c.as_slice-2.ensures.value ∙ c.in_ok-rows.ensures in
    let m = measured c.args.blocks.now c.args.weights.now _ _ _ _ _ e c.requires.some
    c.in_ok-sizes.ensures.heights c.in_ok-sizes.ensures.counts c.items-heights.ensures
    c.items-counts.ensures in
    record {
      deep = deep_of c.args.blocks.now _ m.longest c.if-heights-gt-DEEPEST.false;
      large = not_large c.args.blocks.now c.args.weights.now _ _ m c.if-heights-gt-DEEPEST.false
          c.if-counts-gt-LARGEST.false;
      cycle = c.in-Ok-flatten.ensures.no_cycle;
    }

pub returns-clause-fault : goal.returns-clause-fault
returns-clause-fault c =
    let e = c.as_slice-2.ensures.value ∙ c.in_ok-rows.ensures in
    let m = measured c.args.blocks.now c.args.weights.now _ _ _ _ _ e c.requires.some
    c.in_ok-sizes.ensures.heights c.in_ok-sizes.ensures.counts c.items-heights.ensures
    c.items-counts.ensures in (
      deep_of c.args.blocks.now _ m.longest c.if-heights-gt-DEEPEST.false,
      not_large
          c.args.blocks.now c.args.weights.now _ _ m c.if-heights-gt-DEEPEST.false
          c.if-counts-gt-LARGEST.false,
      rw c.in-Err-Cycle.field-0-is at c.in-Err-Cycle.ensures.cycle,
    )
