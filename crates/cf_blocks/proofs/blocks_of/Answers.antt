use Rattle.std.proofs.Common.{List, get_or, sym, subst}
use Rattle.std.specs.List.{All}
use Rattle.cf_circuits.specs.declared.models.ModelDef.{ModelDef}
use Rattle.cf_circuits.specs.Kept.{IsCall}
use Rattle.cf_circuits.specs.Links.{no_model}
use Rattle.cf_blocks.proofs.CallLaws.{calls-kept}
use Rattle.cf_blocks.proofs.FaultLaws.{drive-once}
use Rattle.cf_blocks.proofs.blocks_of.Goals as goal

pub new-requires-clause-once : goal.new-requires-clause-once
new-requires-clause-once c = drive-once c.args.models.now c.requires.no_fault.none

pub block_of-requires-clause-calls : goal.block_of-requires-clause-calls
block_of-requires-clause-calls c =
    subst (λ (ms : List ModelDef). All IsCall (get_or ms c.loop-at.at no_model).calls) (sym c.in_ok-numbers.ensures)
    (calls-kept c.args.models.now c.loop-at.at no_model c.requires.netlist.kept c.loop-at-test.true)
