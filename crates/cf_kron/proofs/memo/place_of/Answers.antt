use Rattle.cf_kron.proofs.MemoFacts.{found_place}
use Rattle.cf_kron.proofs.memo.place_of.Goals as goal

pub returns : goal.returns
returns c = found_place c.args.done.now.entries c.args.g c.get_index_of.result c.get_index_of.ensures.index
