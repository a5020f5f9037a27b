use Rattle.std.proofs.Common.{sym, ◌∙◌, subst}
use Rattle.std.specs.List.{All}
use Rattle.cf_circuits.specs.Kept.{IsModel}
use Rattle.cf_links.proofs.name_fault.Goals as goal

pub first_fault-requires : goal.first_fault-requires
first_fault-requires c = subst (All IsModel) (sym (c.in_ok-directory.ensures ∙ c.items.ensures)) c.requires.kept
