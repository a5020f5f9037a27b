use Rattle.std.proofs.Common.{◌≡◌, ◌<◌, ◌^◌, ℕ, List, Bool, Some, sym, ◌∙◌, ap, subst}
use Rattle.std.specs.List.{slice_get}
use Rattle.cf_model.specs.Assignments.{number_of}
use Rattle.cf_model.specs.FlatFunctions.{IsLeast}
use Rattle.cf_model.proofs.FlatFunctionLaws.{points-is}
use Rattle.cf_table.specs.Groupings.{pattern_of}
use Rattle.cf_pkg.proofs.Firsts.{least_is}
use Rattle.cf_pkg.proofs.least_assignment.least.Goals as goal

pub new-requires-clause-below : goal.new-requires-clause-below
new-requires-clause-below g c =
    let e : c.variables.result ≡ 2 ^ c.args.g.level = c.variables.ensures ∙ ap (λ (k : ℕ). 2 ^ k) c.level_within-level.ensures.level in
    subst (λ (k : ℕ). c.least_number-number.result < k) (points-is c.args.g.level ∙ ap (λ (k : ℕ). 2 ^ k) (sym e)) c.least_number-number.ensures.within

pub returns-clause-least : goal.returns-clause-least
returns-clause-least g c =
    let e : c.variables.result ≡ 2 ^ c.args.g.level = c.variables.ensures ∙ ap (λ (k : ℕ). 2 ^ k) c.level_within-level.ensures.level in
    subst (λ (v : List Bool). IsLeast c.args.g.level (λ at. slice_get (pattern_of c.args.table.now c.args.g) (number_of at) ≡ Some c.args.e) v) (sym c.new.ensures.listed)
    (least_is (pattern_of c.args.table.now c.args.g) c.args.g.level c.args.e c.least_number-number.result c.variables.result c.least_number-number.ensures.first c.least_number-number.ensures.within e)
