use Rattle.cf_model.proofs.PatternLaws.{decomposition}
use Rattle.cf_model.proofs.laws.patterns_decompose.Goals as goal

pub returns : goal.returns
returns c = decomposition
