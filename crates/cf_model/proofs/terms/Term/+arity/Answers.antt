use Rattle.std.proofs.Common.{◌≡◌, ℕ, ◌≤◌, max, List, length, drop, sym, ◌∙◌, ap, arith}
use Rattle.std.proofs.lemmas.List.{drop_all}
use Rattle.cf_model.specs.Terms.{arity}
use Rattle.cf_model.specs.declared.terms.Term.{Term, Fold}
use Rattle.cf_model.specs.declared.terms.Word2.{Word2}
use Rattle.cf_model.proofs.TermLaws.{most_arity, most_low, arity-Fold}
use Rattle.cf_model.proofs.terms.Term.+arity.Goals as goal

begun : (s : Term) (w : Word2) (ts items : List Term) → s ≡ Fold w ts → items ≡ ts → (1 ≤ 1) × (max 1 (most_arity (drop 0 items)) ≡ arity s)
begun s w ts items e f = (omega arith, (let l = most_low items in let m : max 1 (most_arity items) ≡ most_arity items = omega (arith, l) in m ∙ ap most_arity f ∙ sym (arity-Fold w ts) ∙ ap arity (sym e)))

pub loop-t-init : goal.loop-t-init
loop-t-init t c = begun c.args.self.now c.in-Fold.field-0 c.in-Fold.ts c.as_slice-t-items.result.now c.in-Fold.is c.as_slice-t-items.ensures

ended : (items : List Term) (i most n : ℕ) → length items ≤ i → (1 ≤ most) × (max most (most_arity (drop i items)) ≡ n) → most ≡ n
ended items i most n l h = (let e : max most 1 ≡ n = ap (λ (ts : List Term). max most (most_arity ts)) (sym (drop_all i items l)) ∙ h.1 in omega (arith, e, h.0))

pub returns-after-loop-t : goal.returns-after-loop-t
returns-after-loop-t t c = ended c.as_slice-t-items.result.now c.loop-t.t-index c.loop-t.most (arity c.args.self.now) c.loop-t-test.false c.loop-t.invariant
