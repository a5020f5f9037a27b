-- The wires of the flat circuit have the values of the root's outputs.
use Rattle.std.proofs.Common.{ℕ, zero, suc, ◌≡◌, ◌+◌, ◌<◌, ◌≤◌, Bool, true, false, List, [], ◌∷◌, length, get_or, map, Option, Some, None, refl, sym, ◌∙◌, ap, subst, arith}
use Rattle.std.specs.Prelude.{slice_index, slice_index_or}
use Rattle.std.specs.List.{slice_get}
use Rattle.std.specs.Option.{unwrap_or}
use Rattle.cf_order.specs.Chains.{total}
use Rattle.cf_circuits.specs.declared.models.ModelDef.{ModelDef}
use Rattle.cf_circuits.specs.Links.{is_among, calls_of}
use Rattle.cf_circuits.specs.Expansions.{signals, cval, signal_count, circuit_value}
use Rattle.cf_circuits.specs.Roots.{root}
use Rattle.cf_hierarchy.specs.declared.gates.Gate.{Gate}
use Rattle.cf_hierarchy.specs.declared.blocks.Block.{Block}
use Rattle.cf_hierarchy.specs.Circuits.{wire_values}
use Rattle.cf_hierarchy.specs.Hierarchy.{hval}
use Rattle.cf_hierarchy.specs.Flattening.{root_of, ShowRoot}
use Rattle.cf_hierarchy.specs.Links.{calls}
use Rattle.cf_blocks.specs.Numbering.{number, covers_of, blocks_of}
use Rattle.cf_flat.specs.Flats.{means_of}
use Rattle.cf_flat.proofs.NameFacts.{NoKinds, linked}
use Rattle.cf_flat.proofs.BlockLaws.{cover_at}
use Rattle.cf_flat.proofs.ValueLaws.{same-value}
use Rattle.cf_flat.proofs.LinkedBlocks.{number-below, root-there, root-block, calls-same, sizes-same}

-- the signals of the blocks' hierarchy are as many as those of the expansion
pub count-same : (models : List ModelDef)
    → total (calls (blocks_of models)) (map (λ (b : Block). length b.drivers) (blocks_of models)) 64 0 ≡ signal_count models
count-same models =
    ap (λ rows. total rows (map (λ (b : Block). length b.drivers) (blocks_of models)) 64 0) (calls-same models)
    ∙ ap (λ sizes. total (calls_of models) sizes 64 0) (sizes-same models)

-- the wire of an output of the root has its value
pub output-shown : (models : List ModelDef) (gates : List Gate) (wires : List ℕ) (i : ℕ) (name : List ℕ) (bits : List Bool)
    → NoKinds models → 0 < length models
    → ShowRoot (blocks_of models) (length (root models).inputs) gates wires
    → length wires ≤ signal_count models
    → slice_get (root models).outputs i ≡ Some name → length bits ≡ length (root models).inputs
    → circuit_value models bits name
    ≡ slice_index_or (wire_values (means_of (covers_of models)) bits gates) (slice_index wires (number models (root models) name)) false
output-shown models gates wires i name bits none some shows few at long =
    let there = root-there models some in
    let facts = linked models 0 (root models) none there in
    let among = facts.outputs i name at in
    let s = number models (root models) name in
    let below = number-below models 0 (root models) name there among in
    let same = ap (λ (b : Block). length b.drivers) (root-block models some) in
    let shown = shows s (omega (arith, below, same)) (means_of (covers_of models)) bits long (signal_count models) few in
    ap (λ o. unwrap_or o false)
    (sym (same-value models bits none (signal_count models) [] (root models) name there among) ∙ shown)
