use Rattle.std.proofs.Common.{◌≡◌, ◌+◌, List, ℕ, ap, ◌∙◌, nat_eq, ◌++◌, add-one}
use Rattle.std.specs.List.{flat_map}
use Rattle.std.proofs.lemmas.List.{take_all}
use Rattle.std.proofs.lemmas.List.Elements.{Contains-get_or}
use Rattle.cf_model.specs.Renumbering.{distinct}
use Rattle.cf_model.specs.Diagrams.{node}
use Rattle.cf_pkg.specs.Sizes.{places_at, callees}
use Rattle.cf_pkg.proofs.Reaching.{reached_exists}
use Rattle.cf_pkg.proofs.Sizing.{list_entered, reached_below}
use Rattle.cf_pkg.proofs.reached.reached_at.Goals as goal

pub insert_callees-requires-clause-owned : goal.insert_callees-requires-clause-owned
insert_callees-requires-clause-owned c =
    reached_exists c.args.table.now c.requires.good c.args.heads.now c.requires.owned (c.args.level + 1) _
    (c.requires.above.reached _ (Contains-get_or c.args.above.now c.loop-at.at-index 0 c.loop-at-test.true))

pub loop-at-preserved : goal.loop-at-preserved
loop-at-preserved c =
    list_entered (λ at. callees (node c.args.table.now.levels (c.args.level + 1) at)) c.args.above.now c.loop-at.at-index (places_at c.args.level c.args.heads.now) c.loop-at.here.keys c.insert_callees.new.places.keys
    c.loop-at-test.true c.loop-at.invariant c.in_ok-insert_callees.ensures

pub returns : goal.returns
returns c =
    let above = c.args.above.now in
    let f : ℕ → List ℕ = λ at. callees (node c.args.table.now.levels (c.args.level + 1) at) in
    let heads = places_at c.args.level c.args.heads.now in
    let all : c.loop-at.here.keys ≡ distinct nat_eq (heads ++ flat_map f above) =
    c.loop-at.invariant ∙ ap (λ (v : List ℕ). distinct nat_eq (heads ++ flat_map f v)) (take_all c.loop-at.at-index above c.loop-at-test.false) in
    reached_below c.args.table.now.levels c.args.heads.now c.args.level (c.args.level + 1) above c.loop-at.here.keys (add-one c.args.level) c.requires.above all
