use Rattle.std.proofs.Common.{sym, ◌∙◌, subst, arith}
use Rattle.cf_circuits.specs.Kept.{IsNetlist}
use Rattle.cf_links.specs.Faults.{HasNoNameFault}
use Rattle.cf_flat.proofs.FlatFacts.{assembled, outputs-within, root-outputs}
use Rattle.cf_flat.proofs.KindLaws.{names-first}
use Rattle.cf_flat.proofs.flattening.flatten.Goals as goal

pub outs_of-requires : goal.outs_of-requires
outs_of-requires c =
    let none : HasNoNameFault c.args.net.now.models = rw c.in_default.is at c.in_ok-fault.ensures in
    let net = subst IsNetlist (sym c.items-models.ensures) c.requires in
    outputs-within c.items-models.result.now c.in_ok-linked.linked c.in_ok-names.names c.in_ok-signals.signals c.items-2.result.now
    net (subst HasNoNameFault (sym c.items-models.ensures) none) c.in_ok-linked.ensures.linked
    (c.in_ok-names.ensures ∙ root-outputs c.items-models.result.now c.index-models-0.result c.items.result.now net.root c.items.ensures)
    c.in_ok-signals.ensures c.items-2.ensures

pub returns-clause-flat : goal.returns-clause-flat
returns-clause-flat c = (assembled c.args.net.now.models c.items-models.result.now c.in_ok-linked.linked c.index-models-0.result c.index-models-0-2.result
    c.items.result.now c.items-3.result.now c.in_ok-names.names c.in_ok-signals.signals c.in_ok-inputs.inputs c.items-2.result.now
    c.in_ok-outputs.outputs c.in_ok-covers.covers c.items-models.ensures c.requires (rw c.in_default.is at c.in_ok-fault.ensures)
    c.in_ok-linked.ensures.linked c.items.ensures c.in_ok-names.ensures c.in_ok-signals.ensures c.items-2.ensures c.in_ok-outputs.ensures
    c.items-3.ensures c.in_ok-inputs.ensures c.in_ok-covers.ensures).flat

pub returns-clause-outputs : goal.returns-clause-outputs
returns-clause-outputs c = (assembled c.args.net.now.models c.items-models.result.now c.in_ok-linked.linked c.index-models-0.result c.index-models-0-2.result
    c.items.result.now c.items-3.result.now c.in_ok-names.names c.in_ok-signals.signals c.in_ok-inputs.inputs c.items-2.result.now
    c.in_ok-outputs.outputs c.in_ok-covers.covers c.items-models.ensures c.requires (rw c.in_default.is at c.in_ok-fault.ensures)
    c.in_ok-linked.ensures.linked c.items.ensures c.in_ok-names.ensures c.in_ok-signals.ensures c.items-2.ensures c.in_ok-outputs.ensures
    c.items-3.ensures c.in_ok-inputs.ensures c.in_ok-covers.ensures).names

pub returns-clause-values : goal.returns-clause-values
returns-clause-values c = (assembled c.args.net.now.models c.items-models.result.now c.in_ok-linked.linked c.index-models-0.result c.index-models-0-2.result
    c.items.result.now c.items-3.result.now c.in_ok-names.names c.in_ok-signals.signals c.in_ok-inputs.inputs c.items-2.result.now
    c.in_ok-outputs.outputs c.in_ok-covers.covers c.items-models.ensures c.requires (rw c.in_default.is at c.in_ok-fault.ensures)
    c.in_ok-linked.ensures.linked c.items.ensures c.in_ok-names.ensures c.in_ok-signals.ensures c.items-2.ensures c.in_ok-outputs.ensures
    c.items-3.ensures c.in_ok-inputs.ensures c.in_ok-covers.ensures).values

pub returns-in-Some-clause-fault : goal.returns-in-Some-clause-fault
returns-in-Some-clause-fault c =
    names-first c.args.net.now.models c.in-Some.fault (rw c.in-Some.is at c.in_ok-fault.ensures)
