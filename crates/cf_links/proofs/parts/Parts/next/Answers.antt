use Rattle.std.proofs.Common.{sym, ◌∙◌}
use Rattle.cf_links.proofs.PartLaws.{first-gate, first-call, only-gate, only-call}
use Rattle.cf_links.proofs.parts.Parts.next.Goals as goal

pub invariant_of-self : goal.invariant_of-self
invariant_of-self c =
    (first-gate _ _ _ _ _ _ c.self.invariant c.in-Some-Some.ensures.cases.0 c.in-Some-Some.ensures'.cases.0 c.if-gate-call.true).order

pub invariant_of-self-else-gate-call : goal.invariant_of-self-else-gate-call
invariant_of-self-else-gate-call c =
    (first-call _ _ _ _ _ _ c.self.invariant c.in-Some-Some.ensures.cases.0 c.in-Some-Some.ensures'.cases.0 c.if-gate-call.false).order

pub invariant_of-self-in-Some-None : goal.invariant_of-self-in-Some-None
invariant_of-self-in-Some-None c =
    (only-gate _ _ _ _ c.self.invariant c.in-Some-None.ensures.cases.0 c.in-Some-None.ensures'.cases).order

pub invariant_of-self-in-None-Some : goal.invariant_of-self-in-None-Some
invariant_of-self-in-None-Some c =
    (only-call _ _ _ _ c.self.invariant c.in-None-Some.ensures.cases c.in-None-Some.ensures'.cases.0).order

pub returns-then-gate-call-clause-first : goal.returns-then-gate-call-clause-first
returns-then-gate-call-clause-first c =
    sym c.self.view_is
    ∙ (first-gate _ _ _ _ _ _ c.self.invariant c.in-Some-Some.ensures.cases.0 c.in-Some-Some.ensures'.cases.0 c.if-gate-call.true).first

pub returns-else-gate-call-clause-first : goal.returns-else-gate-call-clause-first
returns-else-gate-call-clause-first c =
    sym c.self.view_is
    ∙ (first-call _ _ _ _ _ _ c.self.invariant c.in-Some-Some.ensures.cases.0 c.in-Some-Some.ensures'.cases.0 c.if-gate-call.false).first

pub returns-in-None-Some-clause-first : goal.returns-in-None-Some-clause-first
returns-in-None-Some-clause-first c =
    sym c.self.view_is
    ∙ (only-call _ _ _ _ c.self.invariant c.in-None-Some.ensures.cases c.in-None-Some.ensures'.cases.0).first
