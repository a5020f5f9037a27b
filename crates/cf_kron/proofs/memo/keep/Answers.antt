use Rattle.std.proofs.Common.{ℕ, List, sym, subst}
use Rattle.std.specs.List.{position_or_len}
use Rattle.std.specs.Map.{keys_of}
use Rattle.cf_table.specs.declared.Gid.{Gid}
use Rattle.cf_kron.specs.declared.memo.Transposed.{Transposed}
use Rattle.cf_kron.specs.Transposed.{AreTranspositions, HasValue}
use Rattle.cf_kron.proofs.MemoFacts.{same, inserted_place, known_more}
use Rattle.cf_kron.proofs.memo.keep.Goals as goal

pub returns-clause-kept : goal.returns-clause-kept
returns-clause-kept c =
    let old = c.args.done.now.entries in
    let k = c.args.g in
    let v = c.args.transposed in
    subst (λ (p : ℕ). HasValue c.insert_full.new.self.entries v p) (sym c.in_ok-place.ensures.index)
    (subst (λ (es : List (Gid × Transposed)). HasValue es v (position_or_len (same k) (keys_of old))) (sym c.in_ok-place.ensures.entries) (inserted_place old k v))

pub returns-clause-known : goal.returns-clause-known
returns-clause-known c t known r =
    subst (λ (es : List (Gid × Transposed)). AreTranspositions t es) (sym c.in_ok-place.ensures.entries) (known_more t c.args.done.now.entries c.args.g c.args.transposed known r)
