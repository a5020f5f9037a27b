use Rattle.std.proofs.Common.{◌≡◌, take, map}
use Rattle.cf_build.proofs.numbering.Numbering.enter_keys.Given as goal

abbrev pub invariant-loop-i : goal.invariant-loop-i
invariant-loop-i g l = (l.self.keys.keys ≡ map g.T.Label.key_of (take l.i l.fn.self.different.items)) × (l.self.different.items ≡ l.fn.self.different.items) × (l.self.ranks ≡ l.fn.self.ranks)
