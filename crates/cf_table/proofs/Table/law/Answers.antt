use Rattle.std.proofs.Common.{◌∙◌, sym, ap, length, suc}
use Rattle.std.proofs.lemmas.List.{length-map}
use Rattle.cf_table.specs.Groupings.{Groupings}
use Rattle.cf_table.specs.Kept.{shown_level}
use Rattle.cf_table.proofs.Table.law.Goals as goal

pub returns-clause-eight : goal.returns-clause-eight
returns-clause-eight c = sym (ap (λ (t : Groupings). length t.levels) c.self.view_is) ∙ ap suc (length-map c.self.inside.levels (shown_level c.self.inside.book) ∙ c.self.invariant.groupings.seven)
