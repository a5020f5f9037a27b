use Rattle.std.proofs.Common.{[]}
use Rattle.cf_build.proofs.label.canon_of.Goals as goal

pub returns-clause-canon : goal.returns-clause-canon
returns-clause-canon g c = c.in_ok-read.ensures.numbered [] c.in_ok-numbering.ensures.none
