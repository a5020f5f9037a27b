use Rattle.std.proofs.Common.{true, false, map, refl, sym, ◌∙◌}
use Rattle.cf_circuits.specs.Kinds.{formal_of}
use Rattle.cf_circuits.specs.Causes.{all_differ}
use Rattle.cf_blif.proofs.PairFacts.{few-more}
use Rattle.cf_blif.proofs.pairs.+few_differ.Goals as goal

pub returns-then-has_formal : goal.returns-then-has_formal
returns-then-has_formal t c =
    few-more (λ w. w.now) _ c.in-Some.later.now c.in-Some.pair.now c.cut.result.0.now true (all_differ (map formal_of (map (λ w. w.now) c.in-Some.later.now)))
    c.in-Some.ensures.found c.cut.ensures.formal (sym c.if-has_formal.true ∙ c.has_formal.ensures) refl

pub returns-else-has_formal : goal.returns-else-has_formal
returns-else-has_formal t c =
    few-more (λ w. w.now) _ c.in-Some.later.now c.in-Some.pair.now c.cut.result.0.now false c.few_differ.result
    c.in-Some.ensures.found c.cut.ensures.formal (sym c.if-has_formal.false ∙ c.has_formal.ensures) c.few_differ.ensures
