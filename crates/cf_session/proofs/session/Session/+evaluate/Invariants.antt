use Rattle.std.proofs.Common.{◌+◌, ◌*◌, drop}
use Rattle.cf_reference.specs.Trees.{depth, depths}
use Rattle.cf_script.specs.Views.{tree_of, listed}
use Rattle.cf_session.specs.Arguments.{arguments_of}
use Rattle.cf_session.specs.Sessions.{state_of}
use Rattle.cf_session.specs.Building.{Grows}
use Rattle.cf_session.proofs.Nesting.{Nesting}
use Rattle.cf_session.proofs.Gathering.{Gathered}
use Rattle.cf_session.proofs.KeptCalls.{KeptFront, KeptSteps}
use Rattle.cf_session.proofs.session.Session.+evaluate.Given as goal

abbrev pub decreases-evaluate : goal.decreases-evaluate
decreases-evaluate l = 2 * depth (tree_of l.expr.now) + 1

abbrev pub decreases-evaluate_call : goal.decreases-evaluate_call
decreases-evaluate_call l = 2 * depth (tree_of l.expr.now)

abbrev pub decreases-evaluate_nested : goal.decreases-evaluate_nested
decreases-evaluate_nested l = 2 * depths (listed l.es.now) + 2

abbrev pub invariant-evaluate_call-loop-place : goal.invariant-evaluate_call-loop-place
invariant-evaluate_call-loop-place l = record {
  gathered : Gathered (state_of l.fn.self) l.head (arguments_of (tree_of l.expr)) l.self.pkg l.args.items l.place;
  kept : KeptFront l.fn.self l.self l.head (arguments_of (tree_of l.expr)) l.args.items l.place;
  grows : Grows l.fn.self l.self;
}

abbrev pub invariant-evaluate_nested-loop-e : goal.invariant-evaluate_nested-loop-e
invariant-evaluate_nested-loop-e l = record {
  nesting : Nesting (state_of l.fn.self) l.head (listed l.es) l.self.pkg l.f (listed (drop l.e-index l.e-items));
  kept : KeptSteps l.fn.self l.self l.head (listed l.es) l.f (listed (drop l.e-index l.e-items));
  grows : Grows l.fn.self l.self;
}
