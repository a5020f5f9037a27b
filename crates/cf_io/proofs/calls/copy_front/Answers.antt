use Rattle.cf_io.proofs.WindowLemmas.{copied}
use Rattle.cf_io.proofs.calls.copy_front.Goals as goal

pub returns-clause-before : goal.returns-clause-before
returns-clause-before c = copied c.args.at c.args.count c.args.bytes.now c.copy_from_slice.new.self _ c.requires.within c.copy_from_slice.ensures.after
