use Rattle.cf_model.proofs.Canonicity.{canonical}
use Rattle.cf_model.proofs.laws.equal_patterns_equal_places.Goals as goal

pub returns : goal.returns
returns c = λ t g l i hi j hj e. canonical t g l i j hi hj e
