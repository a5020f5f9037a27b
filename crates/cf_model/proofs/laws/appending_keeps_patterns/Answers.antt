use Rattle.cf_model.proofs.Growing.{pattern_kept, appended_kept, with_node_good}
use Rattle.cf_model.proofs.laws.appending_keeps_patterns.Goals as goal

pub returns : goal.returns
returns c = record {
  patterns = λ t g l i h at n inside. appended_kept t at n g inside l i h;
  extended = λ t g l i h u x. pattern_kept t u g x l i h;
  good = with_node_good;
}
