use Rattle.std.specs.Prelude.{◌≡◌, ◌-◌, length}
use Rattle.cf_session.proofs.ReadFacts.{HasRead}
use Rattle.cf_session.proofs.files.read_file.Given as goal

abbrev pub invariant-loop-bytes : goal.invariant-loop-bytes
invariant-loop-bytes g l =
    HasRead (g.F.Files.shown l.fn.files) (g.F.Files.shown l.files) l.fn.name l.bytes.items
    × (length l.piece.items ≡ 65536)

abbrev pub decreases-loop-bytes : goal.decreases-loop-bytes
decreases-loop-bytes g l = 8388609 - length l.bytes.items
