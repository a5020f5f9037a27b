use Rattle.std.proofs.Common.{length}
use Rattle.cf_circuit.specs.Truths.{TellsNot}
use Rattle.cf_circuit.specs.Covers.{TellsCover}
use Rattle.cf_circuit.proofs.CoverLaws.{planes_at, cover_off, if_ok}
use Rattle.cf_circuit.proofs.covers.of_cover.Goals as goal

pub not-requires : goal.not-requires
not-requires c =
    record {
      at = planes_at c.args.pkg.now c.of_planes.new.pkg c.items-planes.result.now (length c.args.wires.now) c.as_slice.result.now c.args.truths.now c.args.wires.now c.in_ok-matched.matched
          c.in_ok-matched.ensures.told c.requires.at;
    }

pub returns-clause-told : goal.returns-clause-told
returns-clause-told c =
    if_ok c.not.result (TellsNot c.of_planes.new.pkg c.not.new.pkg c.in_ok-matched.matched) (TellsCover c.args.pkg.now c.not.new.pkg c.args.cover.now c.args.truths.now c.args.wires.now)
    (cover_off c.args.pkg.now c.of_planes.new.pkg c.not.new.pkg c.args.cover.now c.items-planes.result.now c.in_ok-places.places.items c.as_slice.result.now c.args.truths.now c.args.wires.now
    c.in_ok-matched.matched c.items-planes.ensures c.as_slice.ensures c.in_ok-places.ensures c.in_ok-matched.ensures.told c.if-cover.false)
    c.not.ensures.told
