use Rattle.cf_matmul.proofs.MemoFacts.{found_place}
use Rattle.cf_matmul.proofs.memo.place_of.Goals as goal

pub returns : goal.returns
returns c = found_place c.args.done.now.entries c.args.factors c.get_index_of.result c.get_index_of.ensures.index
