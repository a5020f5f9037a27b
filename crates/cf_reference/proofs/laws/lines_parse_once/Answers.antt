use Rattle.cf_reference.proofs.ParsedLaws.{parse_once}
use Rattle.cf_reference.proofs.laws.lines_parse_once.Goals as goal

pub returns : goal.returns
returns c = parse_once
