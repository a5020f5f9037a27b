use Rattle.std.proofs.Common.{ap, sym, ◌∙◌, ◌^◌, true}
use Rattle.cf_session.proofs.WalkFacts.{level-is, out-of-range, bad-level, by-indices, not-false, few-variables, past-end, within-end}
use Rattle.cf_session.proofs.walk.Walked.ruled.Goals as goal

pub returns-then-variables-self-clause-refused : goal.returns-then-variables-self-clause-refused
returns-then-variables-self-clause-refused c args h levelled =
    let n = c.variables.ensures ∙ ap (λ k. 2 ^ k) c.unwrap_or-common.ensures in
    let few = few-variables c.variables.result _ n c.requires.low in
    out-of-range c.args.head args c.args.self c.variables.result c.call_level-level.result h levelled n few (level-is c.args.head args c.args.self c.call_level-level.result h levelled c.call_level-level.ensures)
    (not-false c.args.self.equal c.if-not-self.false) (past-end c.args.self.wanted c.variables.result c.if-variables-self.true)

pub returns-then-not-has_level-clause-refused : goal.returns-then-not-has_level-clause-refused
returns-then-not-has_level-clause-refused c args h levelled =
    let n = c.variables.ensures ∙ ap (λ k. 2 ^ k) c.unwrap_or-common.ensures in
    let few = few-variables c.variables.result _ n c.requires.low in
    bad-level c.args.head args c.args.self c.variables.result c.call_level-level.result h levelled n few (level-is c.args.head args c.args.self c.call_level-level.result h levelled c.call_level-level.ensures)
    (not-false c.args.self.equal c.if-not-self.false) (within-end c.args.self.wanted c.variables.result c.if-variables-self.false)
    (sym c.has_level.ensures.is ∙ c.if-not-has_level.true)

pub returns-else-not-has_indices-clause-level : goal.returns-else-not-has_indices-clause-level
returns-else-not-has_indices-clause-level c args h levelled =
    let n = c.variables.ensures ∙ ap (λ k. 2 ^ k) c.unwrap_or-common.ensures in
    let few = few-variables c.variables.result _ n c.requires.low in
    let is = level-is c.args.head args c.args.self c.call_level-level.result h levelled c.call_level-level.ensures in (
      by-indices c.args.head args c.args.self c.variables.result c.call_level-level.result true h levelled n few is
          (not-false c.args.self.equal c.if-not-self.false) (within-end c.args.self.wanted c.variables.result c.if-variables-self.false)
          (sym c.has_level.ensures.is ∙ c.if-not-has_level.false)
          (sym c.has_indices.ensures ∙ c.if-not-has_indices.false),
      is,
    )
