use Rattle.std.specs.Prelude.{◌≡◌, ◌<◌, List, length, All}
use Rattle.cf_circuits.specs.declared.models.ModelDef.{ModelDef}
use Rattle.cf_circuits.specs.Kept.{IsNetlist}
use Rattle.cf_hierarchy.specs.declared.gates.Gate.{Gate}
use Rattle.cf_hierarchy.specs.Flattening.{IsGateIn}
use Rattle.cf_blocks.specs.Numbering.{covers_of, blocks_of}
use Rattle.cf_flat.specs.Flats.{cover_at}

-- The gate's cover is there, and each of its planes has a cell for each wire that the gate reads.
pub record HasCover (models : List ModelDef) (g : Gate) : Type 0 where
  pub there : g.cover < length (covers_of models)
  pub cells : All (λ plane. length plane ≡ length g.ins) (cover_at (covers_of models) g.cover).planes

-- Gates of a netlist's blocks have their covers.
abbrev pub GatesHaveCovers : Type 0
GatesHaveCovers = (models : List ModelDef) (g : Gate) → IsNetlist models → IsGateIn (blocks_of models) g → HasCover models g
