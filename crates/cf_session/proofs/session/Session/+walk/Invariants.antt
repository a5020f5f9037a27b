use Rattle.std.proofs.Common.{◌+◌, ◌*◌}
use Rattle.cf_reference.specs.Trees.{depth}
use Rattle.cf_script.specs.Views.{tree_of}
use Rattle.cf_session.specs.Arguments.{arguments_of}
use Rattle.cf_session.specs.Sessions.{state_of}
use Rattle.cf_session.proofs.WalkFacts.{Walking}
use Rattle.cf_session.proofs.session.Session.+walk.Given as goal

abbrev pub decreases-walk : goal.decreases-walk
decreases-walk l = 2 * depth (tree_of l.expr.now) + 1

abbrev pub decreases-walk_call : goal.decreases-walk_call
decreases-walk_call l = 2 * depth (tree_of l.call.now)

abbrev pub invariant-walk_call-loop-place : goal.invariant-walk_call-loop-place
invariant-walk_call-loop-place l = Walking (state_of l.self) l.head (arguments_of (tree_of l.call)) l.walked l.place
