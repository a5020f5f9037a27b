use Rattle.std.proofs.Common.{◌+◌, take, arith}
use Rattle.cf_text.proofs.WordLaws.{size_reply-is}
use Rattle.cf_text.proofs.replies.size_text.Goals as goal

pub returns : goal.returns
returns c = grind (arith, size_reply-is (take (c.args.level + 1) c.args.per_level.now) c.args.exits)
