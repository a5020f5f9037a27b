use Rattle.cf_model.proofs.FunctionLaws.{function_unique, function_pattern}
use Rattle.cf_model.proofs.laws.equal_functions_equal_groupings.Goals as goal

pub returns : goal.returns
returns c = record { groupings = function_unique; patterns = function_pattern }
