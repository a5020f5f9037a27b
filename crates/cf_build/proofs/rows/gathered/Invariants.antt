use Rattle.std.proofs.Common.{◌≡◌, take, map}
use Rattle.cf_build.specs.Assembling.{listed, ended}
use Rattle.cf_build.proofs.rows.gathered.Given as goal

abbrev pub invariant-loop-row : goal.invariant-loop-row
invariant-loop-row g l = l.rows ≡ ended (map listed (take l.row-index l.given))
