use Rattle.std.proofs.Common.{ℕ, ◌≡◌, ◌<◌, List, length, sym, ap, ◌∙◌, subst, arith}
use Rattle.std.specs.List.{All}
use Rattle.cf_circuits.specs.Roots.{inputs_of}
use Rattle.cf_order.specs.Orders.{HasNoRing}
use Rattle.cf_hierarchy.specs.declared.blocks.Block.{Block}
use Rattle.cf_hierarchy.specs.Hierarchy.{IsBlock}
use Rattle.cf_hierarchy.specs.Flattening.{IsRootInput, root_of}
use Rattle.cf_hierarchy.specs.Links.{calls}
use Rattle.cf_blocks.specs.Numbering.{blocks_of}
use Rattle.cf_flat.proofs.NamedLaws.{blocks-linked}
use Rattle.cf_flat.specs.Flattening.{IsFault}
use Rattle.cf_flat.proofs.FlatFacts.{linked-all, root-inputs-length, without-fault, with-fault, told}
use Rattle.cf_flat.proofs.flattening.linked.Goals as goal

pub link-requires-clause-some : goal.link-requires-clause-some
link-requires-clause-some c =
    subst (λ (bs : List Block). 0 < length bs) (sym (c.as_slice.ensures.value ∙ c.in_ok-blocks.ensures))
    (blocks-linked c.args.models.now c.requires.netlist c.requires.no_fault).some

pub link-requires-clause-blocks : goal.link-requires-clause-blocks
link-requires-clause-blocks c =
    subst (λ (bs : List Block). All (IsBlock bs) bs) (sym (c.as_slice.ensures.value ∙ c.in_ok-blocks.ensures))
    (blocks-linked c.args.models.now c.requires.netlist c.requires.no_fault).blocks

pub link-requires-clause-inputs : goal.link-requires-clause-inputs
link-requires-clause-inputs c =
    subst (λ (n : ℕ). All (IsRootInput n) (root_of c.as_slice.result.now).drivers) (sym (root-inputs-length c.args.models.now c.index-models-0.result c.items.result.now c.requires.netlist.root c.items.ensures))
    (subst (λ (bs : List Block). All (IsRootInput (length (inputs_of c.args.models.now))) (root_of bs).drivers) (sym (c.as_slice.ensures.value ∙ c.in_ok-blocks.ensures))
    (blocks-linked c.args.models.now c.requires.netlist c.requires.no_fault).inputs)

pub link-requires-clause-weights : goal.link-requires-clause-weights
link-requires-clause-weights c =
    ap length (c.as_slice-2.ensures.value ∙ c.in_ok-weights.ensures)
    ∙ (blocks-linked c.args.models.now c.requires.netlist c.requires.no_fault).weights
    ∙ sym (ap length (c.as_slice.ensures.value ∙ c.in_ok-blocks.ensures))

pub link-requires-clause-not_recursive : goal.link-requires-clause-not_recursive
link-requires-clause-not_recursive c =
    subst (λ (bs : List Block). HasNoRing (calls bs)) (sym (c.as_slice.ensures.value ∙ c.in_ok-blocks.ensures))
    (blocks-linked c.args.models.now c.requires.netlist c.requires.no_fault).ring

pub returns-clause-linked : goal.returns-clause-linked
returns-clause-linked c =
    linked-all c.args.models.now c.as_slice.result.now (length c.items.result.now) c.in_ok-flat.flat
    (c.as_slice.ensures.value ∙ c.in_ok-blocks.ensures)
    (root-inputs-length c.args.models.now c.index-models-0.result c.items.result.now c.requires.netlist.root c.items.ensures)
    c.in_ok-flat.ensures.lower c.in_ok-flat.ensures.made c.in_ok-flat.ensures.few c.in_ok-flat.ensures.wires c.in_ok-flat.ensures.shows

pub returns-clause-faultless : goal.returns-clause-faultless
returns-clause-faultless c =
    without-fault c.args.models.now c.as_slice.result.now c.as_slice-2.result.now c.in_ok-flat.flat.wires (length c.items.result.now)
    c.requires.netlist c.requires.no_fault
    (c.as_slice.ensures.value ∙ c.in_ok-blocks.ensures) (c.as_slice-2.ensures.value ∙ c.in_ok-weights.ensures)
    (root-inputs-length c.args.models.now c.index-models-0.result c.items.result.now c.requires.netlist.root c.items.ensures)
    c.in_ok-flat.ensures.no_fault c.in_ok-flat.ensures.known c.in_ok-flat.ensures.few

pub returns-in_err-flat-clause-fault : goal.returns-in_err-flat-clause-fault
returns-in_err-flat-clause-fault c =
    told c.from_residual-in_err-flat.result _ (IsFault c.args.models.now) c.from_residual-in_err-flat.ensures.1
    (λ e is. subst (IsFault c.args.models.now) (sym is)
    (with-fault c.args.models.now c.as_slice.result.now c.as_slice-2.result.now c.in_err-flat.field-0.0
    c.requires.netlist c.requires.no_fault
    (c.as_slice.ensures.value ∙ c.in_ok-blocks.ensures) (c.as_slice-2.ensures.value ∙ c.in_ok-weights.ensures)
    c.in_err-flat.ensures.fault))
