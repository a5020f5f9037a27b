use Rattle.std.proofs.Common.{sym, rules}
use Rattle.cf_script.proofs.WideFacts.{short-narrow}
use Rattle.cf_script.proofs.statements.is_wide.Goals as goal

pub returns-then-word-le38 : goal.returns-then-word-le38
returns-then-word-le38 c = sym (short-narrow c.args.word.now (search rules))
