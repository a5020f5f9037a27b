use Rattle.cf_reference.proofs.ParseLaws.{lines_parse}
use Rattle.cf_reference.proofs.laws.lines_parse.Goals as goal

pub returns : goal.returns
returns c = lines_parse
