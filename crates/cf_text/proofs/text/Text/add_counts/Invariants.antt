use Rattle.std.proofs.Common.{◌≡◌, ◌+◌, ◌*◌, ◌≤◌, ◌++◌, length, take}
use Rattle.cf_text.specs.Words.{counts_behind}
use Rattle.cf_text.proofs.text.Text.add_counts.Given as goal

abbrev pub invariant-loop-count : goal.invariant-loop-count
invariant-loop-count l =
    (l.self ≡ l.fn.self ++ counts_behind (take l.count-index l.counts))
    × (length l.self ≤ length l.fn.self + 41 * l.count-index)
