use Rattle.cf_build.proofs.Rowing.{label_more}
use Rattle.cf_build.proofs.rows.Rows.push_label.Goals as goal

pub returns-clause-pushed : goal.returns-clause-pushed
returns-clause-pushed g c = label_more c.self.inside.rows.items c.self.inside.labels.items c.push.new.self.items c.self.inside.start c.args.label c.args.self.now c.self.invariant c.self.view_is c.in_ok-push.ensures.items
