use Rattle.cf_model.proofs.CanonLaws.{canon_unique}
use Rattle.cf_model.proofs.laws.canon_is_unique.Goals as goal

pub returns : goal.returns
returns g c = canon_unique
