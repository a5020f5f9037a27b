use Rattle.std.proofs.Common.{ℕ, List, sym, subst}
use Rattle.std.specs.List.{position_or_len}
use Rattle.std.specs.Map.{keys_of}
use Rattle.cf_matmul.specs.declared.memo.Factors.{Factors}
use Rattle.cf_matmul.specs.declared.memo.Summed.{Summed}
use Rattle.cf_matmul.specs.Memos.{AreProducts, HasValue}
use Rattle.cf_matmul.proofs.MemoFacts.{same, inserted_place, known_more}
use Rattle.cf_matmul.proofs.memo.keep.Goals as goal

pub returns-clause-kept : goal.returns-clause-kept
returns-clause-kept c =
    let old = c.args.done.now.entries in
    let k = c.args.factors in
    let v = c.args.summed in
    subst (λ (p : ℕ). HasValue c.insert_full.new.self.entries v p) (sym c.in_ok-place.ensures.index)
    (subst (λ (es : List (Factors × Summed)). HasValue es v (position_or_len (same k) (keys_of old))) (sym c.in_ok-place.ensures.entries) (inserted_place old k v))

pub returns-clause-known : goal.returns-clause-known
returns-clause-known c t book known r =
    subst (λ (es : List (Factors × Summed)). AreProducts t book es) (sym c.in_ok-place.ensures.entries) (known_more t book c.args.done.now.entries c.args.factors c.args.summed known r)
