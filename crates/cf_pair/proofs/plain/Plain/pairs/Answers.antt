use Rattle.std.proofs.Common.{ℕ, ◌∙◌, sym, ap, List, [], ◌∷◌, ◌++◌, map, arith}
use Rattle.std.proofs.lemmas.List.FromFn.{map-range_with_len_more}
use Rattle.std.specs.List.{range_with_len}
use Rattle.cf_pair.specs.Products.{met}
use Rattle.cf_pair.proofs.plain.Plain.pairs.Goals as goal

pub loop-exit-preserved : goal.loop-exit-preserved
loop-exit-preserved c =
    let i = c.loop-exit.exit in
    let f = met c.args.self.meeting in
    c.in_ok-push.ensures.items ∙ ap (λ (v : List (ℕ × ℕ)). v ++ c.pair.result ∷ []) c.loop-exit.invariant ∙ ap (λ (p : ℕ × ℕ). map f (range_with_len 0 i) ++ p ∷ []) c.pair.ensures ∙ sym (map-range_with_len_more f 0 i i (omega arith))
