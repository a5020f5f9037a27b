use Rattle.std.proofs.Common.{Option, Bor, option_map, refl, sym, ◌∙◌, ap}
use Rattle.std.specs.Map.Iter.{deref_pair}
use Rattle.cf_table.specs.declared.Gid.{Gid}
use Rattle.cf_kron.specs.declared.memo.Transposed.{Transposed}
use Rattle.cf_kron.proofs.memo.transposed_at.Goals as goal

pub unwrap-requires : goal.unwrap-requires
unwrap-requires c = c.get_index.ensures.found.1 c.requires

pub returns : goal.returns
returns c =
    let r = c.unwrap.result in
    record { entry = (r.0.now, r.1.now); there = sym c.get_index.ensures.entry ∙ ap (λ (o : Option (Bor Gid × Bor Transposed)). option_map deref_pair o) c.unwrap.ensures; is_it = refl }
