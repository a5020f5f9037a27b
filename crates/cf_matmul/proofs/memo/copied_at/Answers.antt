use Rattle.std.proofs.Common.{sym, ◌∙◌, ap, List}
use Rattle.cf_comb.specs.declared.CombId.{CombId}
use Rattle.cf_matmul.specs.Memos.{summed_pair}
use Rattle.cf_matmul.proofs.memo.copied_at.Goals as goal

pub returns : goal.returns
returns c =
    let h = c.summed_at-summed.ensures in
    let s = c.summed_at-summed.result.now in
    record { entry = h.entry; there = h.there; is_it = ap summed_pair h.is_it ∙ ap (λ (v : List CombId). (s.head, v)) (sym (c.in_ok-sums.ensures.items ∙ c.as_slice.ensures.value)) }
