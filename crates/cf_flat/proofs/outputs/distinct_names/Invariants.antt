use Rattle.std.proofs.Common.{◌≡◌, drop}
use Rattle.std.specs.Str.{bytes_eq}
use Rattle.cf_model.specs.Renumbering.{distinct, distinct_on}
use Rattle.cf_flat.proofs.outputs.distinct_names.Given as goal

abbrev pub invariant-loop-name : goal.invariant-loop-name
invariant-loop-name l = distinct_on bytes_eq l.book (drop l.name-index l.names) ≡ distinct bytes_eq l.names
