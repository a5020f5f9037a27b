use Rattle.cf_session.proofs.Recalling.{name_found}
use Rattle.cf_session.proofs.session.Session.recall_named.Goals as goal

pub returns : goal.returns
returns c = name_found c.args.self.now c.args.name.now c.func_of.result c.func_of.ensures.owned c.func_of.ensures.means
