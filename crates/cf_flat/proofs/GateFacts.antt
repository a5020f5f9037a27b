-- A gate of a block has a cover of the netlist, with a cell for each wire that it reads.
use Rattle.std.proofs.Common.{◌≡◌, ℕ, ◌+◌, ◌<◌, List, Option, Some, None, length, get_or, map, refl, sym, ap, ◌∙◌, subst, arith}
use Rattle.std.specs.List.{slice_get, All}
use Rattle.std.proofs.lemmas.List.{length-map}
use Rattle.std.proofs.lemmas.Option.{same_Some, slice_get_within, get_or_from_slice_get}
use Rattle.cf_circuits.specs.declared.gates.Cover.{Cover}
use Rattle.cf_circuits.specs.declared.gates.Gate as written
use Rattle.cf_circuits.specs.declared.models.ModelDef.{ModelDef}
use Rattle.cf_circuits.specs.Expansions.{Source, AnInput, AGate, AnOutput, drives_of}
use Rattle.cf_circuits.specs.Kept.{IsGate, IsModel, IsNetlist}
use Rattle.cf_hierarchy.specs.declared.gates.Gate.{Gate}
use Rattle.cf_hierarchy.specs.declared.blocks.Driver.{Driver}
use Rattle.cf_hierarchy.specs.declared.blocks.Driver.TheVariants.{Formal, Made, Back}
use Rattle.cf_hierarchy.specs.declared.blocks.Block.{Block}
use Rattle.cf_hierarchy.specs.Flattening.{IsGateIn}
use Rattle.cf_hierarchy.proofs.SpreadLaws.{all_get}
use Rattle.cf_blocks.specs.Numbering.{number, covers_of, block_of, blocks_of, drivers_of, gate_of}
use Rattle.cf_flat.specs.Flats.{cover_at, no_cover}
use Rattle.cf_flat.specs.Gates.{HasCover, GatesHaveCovers}
use Rattle.cf_flat.proofs.DriverLaws.{Suits, align-back}
use Rattle.cf_flat.proofs.BlockLaws.{ends, aligned-at}
use Rattle.cf_flat.proofs.BlockLaws as places
use Rattle.cf_flat.proofs.CycleLaws.{model-end}

of-source : (models : List ModelDef) (m : ModelDef) (i : ℕ) (g made : Gate) (name : List ℕ) (s : Source) → IsModel m
    → Suits models m i (Made made) name s → g.cover ≡ made.cover → length g.ins ≡ length made.ins → HasCover models g
of-source models m i g made name AnInput kept (is, at) cover ins = let none : ⊥ = cc (is) in absurd none
of-source models m i g made name (AGate w) kept (j, c, is, there, at) cover ins =
    let same : made ≡ gate_of models m c w = cc (is) in
    let place : g.cover ≡ c = cover ∙ ap (λ (g : Gate). g.cover) same in
    let long : length g.ins ≡ length w.ins =
    ins ∙ ap (λ (g : Gate). length g.ins) same ∙ length-map w.ins (number models m) in
    let within = slice_get_within (covers_of models) c w.cover there in
    let one : cover_at (covers_of models) g.cover ≡ w.cover =
    ap (cover_at (covers_of models)) place ∙ get_or_from_slice_get (covers_of models) c w.cover no_cover there in
    record {
      there = omega (arith, place, within);
      cells =
          subst (λ (x : Cover). All (λ plane. length plane ≡ length g.ins) x.planes) (sym one)
          (subst (λ n. All (λ plane. length plane ≡ n) w.cover.planes) (sym long) (all_get IsGate m.gates j w kept.gates at).planes);
    }
of-source models m i g made name (AnOutput j formal) kept (c, is, at, output) cover ins = let none : ⊥ = cc (is) in absurd none

pub has-cover : (models : List ModelDef) (g : Gate) → IsNetlist models → IsGateIn (blocks_of models) g → HasCover models g
has-cover models g net is =
    let end = model-end models is.path is.block is.at in
    let m = end.0 in
    let e = ends models is.path m end.1 in
    let same : is.block ≡ block_of models (places.cover_at models e.at) m =
    same_Some is.block (block_of models (places.cover_at models e.at) m) (sym is.at ∙ e.block) in
    let r = align-back models m 0 (drivers_of models (places.cover_at models e.at) m) (drives_of models m) is.signal (Made is.made)
    (aligned-at models e.at m e.is_at)
    (ap (λ (b : Block). slice_get b.drivers is.signal) (sym same) ∙ is.there) in
    of-source models m (0 + is.signal) g is.made r.0.signal r.0.by (all_get IsModel models e.at m net.kept e.is_at) r.2 is.cover is.ins

pub gates-covers : GatesHaveCovers
gates-covers models g net is = has-cover models g net is
