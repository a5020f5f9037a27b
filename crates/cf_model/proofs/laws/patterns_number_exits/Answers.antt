use Rattle.cf_model.proofs.Canonicity.{pattern_full}
use Rattle.cf_model.proofs.Entries.{entry_is_exit}
use Rattle.cf_model.proofs.Callees.{pattern_own, exit_reached}
use Rattle.cf_model.proofs.laws.patterns_number_exits.Goals as goal

pub returns : goal.returns
returns c = record { renumbered = pattern_own; full = pattern_full; exits = entry_is_exit; reached = exit_reached }
