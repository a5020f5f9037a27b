use Rattle.std.specs.Prelude.{◌≡◌, ◌<◌, ℤ, List, map, Option, Some, Ok, Err, slice_get}
use Rattle.std.specs.declared.alloc.Global.{Global}
use Rattle.std.specs.declared.result.Result.{Result}
use Rattle.std.specs.declared.vec.Vec.{Vec}
use Rattle.cf_model.specs.Assignments.{Assignment, bits, number_of}
use Rattle.cf_model.specs.FlatFunctions.{IsLeast}
use Rattle.cf_model.specs.Diagrams.{Levels, pattern, exits}
use Rattle.cf_table.specs.declared.Gid.{Gid}
use Rattle.cf_pkg.specs.Faults.{IsFirstNone}
use Rattle.cf_pkg.specs.declared.jobs.OpFault.{OpFault}
use Rattle.cf_matmul.specs.declared.weights.Weighed.{Weighed}
use Rattle.cf_matmul.specs.declared.weights.Weighed.TheVariants.{Found, Missing}

-- What was found are the values of all words, or else the first word that has none.
abbrev pub AreWeights : List (Option ℤ) → Weighed → Type 0
AreWeights words (Found values) = map Some values.items ≡ words
AreWeights words (Missing exit) = IsFirstNone words exit

-- The exit without a weight is one of the grouping's.
abbrev pub IsWeighedExit : Levels → Gid → Weighed → Type 0
IsWeighedExit t g (Found values) = Unit {0}
IsWeighedExit t g (Missing exit) = exit < exits t g.level g.at

-- The result is the grouping with the weights of its exits, or the overflow at the least assignment of the exit without one.
abbrev pub IsWeighedAnswer : Levels → Gid → Weighed → Result (Gid × Vec ℤ Global) OpFault → Type 0
IsWeighedAnswer t g (Found values) result = result ≡ Ok (g, values)
IsWeighedAnswer t g (Missing exit) result =
    (at : Assignment) × (result ≡ Err (OpFault.Overflow at)) × IsLeast g.level (λ a. slice_get (pattern t g.level g.at) (number_of a) ≡ Some exit) (bits at)
