use Rattle.cf_links.proofs.DirectoriesNames.{ListedFirst}
use Rattle.cf_links.proofs.directory.formals_of.Given as goal

abbrev pub invariant-loop-model : goal.invariant-loop-model
invariant-loop-model l = ListedFirst l.models l.all.items l.model-index
