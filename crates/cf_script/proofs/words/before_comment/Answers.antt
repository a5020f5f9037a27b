use Rattle.cf_script.proofs.WordFacts.{comment-cut, comment-none}
use Rattle.cf_script.proofs.words.before_comment.Goals as goal

pub returns-in-Some : goal.returns-in-Some
returns-in-Some c = comment-cut c.args.line.now c.in-Some.end c.in-Some.ensures

pub returns-in-None : goal.returns-in-None
returns-in-None c = comment-none c.args.line.now c.in-None.ensures
