use Rattle.std.proofs.Common.{◌-◌, length, take}
use Rattle.smallvec.specs.SmallVec.{HasRoomFor}
use Rattle.cf_build.specs.Numbering.{IsReady, Numbers}
use Rattle.cf_build.proofs.numbering.Numbering.read.Given as goal

abbrev pub invariant-loop-label : goal.invariant-loop-label
invariant-loop-label g l = IsReady g.T.Label.is_label g.T.Label.key_of l.self.different.items l.self.keys.keys × Numbers l.fn.self.ranks.items l.fn.self.different.items (take l.label-index l.labels) l.self.ranks.items l.self.different.items × HasRoomFor l.self.ranks (length l.labels - l.label-index)
