use Rattle.std.proofs.Common.{arith}
use Rattle.cf_text.proofs.WordLaws.{stats_reply-is}
use Rattle.cf_text.proofs.replies.stats_text.Goals as goal

pub returns : goal.returns
returns c = grind (arith, stats_reply-is c.args.names c.args.per_level.now)
