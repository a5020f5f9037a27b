use Rattle.cf_pkg.proofs.Memos.{no-job-memo}
use Rattle.cf_pkg.proofs.memo.Memo.new.Goals as goal

pub invariant_of-result : goal.invariant_of-result
invariant_of-result c = rw (c.new.ensures.items, c.new-2.ensures.empty) no-job-memo
