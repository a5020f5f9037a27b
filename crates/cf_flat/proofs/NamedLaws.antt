-- Names and numbers say the same, where names have no fault.
use Rattle.std.proofs.Common.{◌≡◌, ◌<◌, ◌≤◌, length, arith}
use Rattle.cf_circuits.specs.declared.models.ModelDef.{ModelDef}
use Rattle.cf_flat.specs.Named.{BlocksAreLinked, BlocksHaveValues, WiresHaveValues}
use Rattle.cf_flat.proofs.NameFacts.{no-kinds}
use Rattle.cf_flat.proofs.LinkedBlocks.{blocks-length, blocks-ok, root-inputs, no-ring, weights-length}
use Rattle.cf_flat.proofs.ShowLaws.{count-same, output-shown}
use Rattle.cf_flat.proofs.ValueLaws.{same-value}

pub blocks-linked : BlocksAreLinked
blocks-linked models net none = record {
  some = let some = net.root in let long = blocks-length models models 0 in omega (arith, some, long);
  blocks = blocks-ok models (no-kinds models none.none);
  inputs = root-inputs models net.root;
  weights = weights-length models;
  ring = no-ring models none.ring;
}

pub blocks-values : BlocksHaveValues
blocks-values models none bits m chain at name h among = same-value models bits (no-kinds models none.none) m chain at name h among

pub wires-values : WiresHaveValues
wires-values models net none gates wires shows few i name bits at long =
    let same = count-same models in
    output-shown models gates wires i name bits (no-kinds models none.none) net.root shows (omega (arith, few, same)) at long
