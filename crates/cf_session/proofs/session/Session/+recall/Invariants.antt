use Rattle.std.proofs.Common.{◌+◌, ◌*◌, drop}
use Rattle.cf_reference.specs.Trees.{depth, depths}
use Rattle.cf_script.specs.Views.{tree_of, listed}
use Rattle.cf_session.proofs.Recalling.{LeadsOn}
use Rattle.cf_session.proofs.session.Session.+recall.Given as goal

abbrev pub decreases-recall : goal.decreases-recall
decreases-recall l = 3 * depth (tree_of l.expr.now) + 2

abbrev pub decreases-recall_any : goal.decreases-recall_any
decreases-recall_any l = 3 * depth (tree_of l.expr.now) + 1

abbrev pub decreases-recall_fold : goal.decreases-recall_fold
decreases-recall_fold l = 3 * depths (listed l.es.now) + 3

abbrev pub decreases-recall_choice : goal.decreases-recall_choice
decreases-recall_choice l = 3 * depths (listed l.es.now) + 3

abbrev pub invariant-recall_fold-loop-e : goal.invariant-recall_fold-loop-e
invariant-recall_fold-loop-e l = LeadsOn l.self l.word (listed l.es) l.f (listed (drop l.e-index l.later))
