use Rattle.std.proofs.Common.{refl, ◌≡◌, ◌<◌, ℕ, ℤ, List, length, Some, ap, sym, ◌∙◌, subst, arith, rules}
use Rattle.std.specs.List.{All, slice_get}
use Rattle.cf_model.proofs.RenumberingLaws.{canon_length}
use Rattle.cf_model.specs.Renumbering.{IsCanon}
use Rattle.cf_model.specs.Values.{Fits}
use Rattle.cf_model.specs.Functions.{function_of}
use Rattle.cf_model.specs.Diagrams.{Levels, count, exits, pattern, Extends}
use Rattle.cf_model.specs.Patterns.{sub}
use Rattle.cf_model.specs.Renumbering.{rgs}
use Rattle.std.proofs.Common.{nat_eq}
use Rattle.cf_model.proofs.Growing.{Extends-refl}
use Rattle.cf_tuple.specs.Books.{Lengthens}
use Rattle.cf_tuple.proofs.BookLaws.{Lengthens-same}
use Rattle.cf_build.specs.Assembling.{Stands, AddsOnly, classed}
use Rattle.cf_pkg.specs.Packages.{Package, Means, Keeps}
use Rattle.cf_pkg.proofs.Keeping.{keeps, all_kept}
use Rattle.cf_pkg.proofs.Remembering.{sound_grown, sound_above}
use Rattle.cf_pkg.proofs.Valued.{exits_some, labels_some, valued_means, points_some}
use Rattle.cf_pkg.proofs.Pkg.valued.Goals as goal

pub intern-requires-clause-some : goal.intern-requires-clause-some
intern-requires-clause-some c =
    let before : Package = record { groupings = c.self.inside.table; lists = c.self.inside.values; memo = c.self.inside.memo } in
    let own : c.args.g.at < count before.groupings.levels c.args.g.level = subst (λ (p : Package). c.args.g.at < count p.groupings.levels c.args.g.level) (sym c.self.view_is) c.requires.owned in
    let long : length c.args.values.now ≡ exits before.groupings.levels c.args.g.level c.args.g.at
    = c.requires.valued ∙ ap (λ (p : Package). exits p.groupings.levels c.args.g.level c.args.g.at) (sym c.self.view_is) in
    let some : 0 < length c.args.values.now = omega (arith, long, exits_some before.groupings.levels c.law.ensures.good c.args.g.level c.args.g.at own (points_some c.args.g.level)) in
    let there : 0 < length c.in_ok-ranks.different.items = labels_some c.args.values.now c.in_ok-ranks.ranks.items c.in_ok-ranks.different.items c.in_ok-ranks.ensures.canon some in
    search (rules, there)

pub invariant_of-self : goal.invariant_of-self
invariant_of-self c =
    sound_above c.self.inside.table c.forget_beyond.new.self c.self.inside.values c.self.inside.memo c.law.ensures.good
    (subst (λ (l : Levels). Extends c.self.inside.table.levels l) (sym c.forget_beyond.ensures.levels) (Extends-refl c.self.inside.table.levels))
    (Lengthens-same c.self.inside.table.tuples c.forget_beyond.new.self.tuples c.forget_beyond.ensures.tuples) c.self.invariant

pub invariant_of-self-in_err-head : goal.invariant_of-self-in_err-head
invariant_of-self-in_err-head c =
    sound_above c.self.inside.table c.reduce.new.table c.self.inside.values c.self.inside.memo c.law.ensures.good
    (subst (λ (l : Levels). Extends l c.reduce.new.table.levels) c.forget_beyond.ensures.levels c.in_err-head.ensures.kept) (subst (λ (ts : List (List ℕ)). Lengthens ts c.reduce.new.table.tuples) c.forget_beyond.ensures.tuples c.in_err-head.ensures.tuples) c.self.invariant

pub invariant_of-self-in_err-vals : goal.invariant_of-self-in_err-vals
invariant_of-self-in_err-vals c =
    let fits : All (All Fits) c.intern.new.self = search rules in
    sound_grown c.self.inside.table c.reduce.new.table c.self.inside.values c.intern.new.self c.self.inside.memo c.law.ensures.good
    (subst (λ (l : Levels). Extends l c.reduce.new.table.levels) c.forget_beyond.ensures.levels c.in_ok-head.ensures.kept) (subst (λ (ts : List (List ℕ)). Lengthens ts c.reduce.new.table.tuples) c.forget_beyond.ensures.tuples c.in_ok-head.ensures.tuples) c.intern.ensures.kept fits c.self.invariant

pub invariant_of-self-2 : goal.invariant_of-self-2
invariant_of-self-2 c =
    let fit : All Fits c.as_slice-2.result.now = subst (λ (v : List ℤ). All Fits v) (sym c.as_slice-2.ensures.value) c.in_ok-ranks.ensures.labels in
    let fits : All (All Fits) c.intern.new.self = all_kept (All Fits) c.self.inside.values c.intern.new.self c.as_slice-2.result.now c.in_ok-vals.vals.at c.in_ok-vals.ensures.interned c.self.invariant.fit fit in
    sound_grown c.self.inside.table c.reduce.new.table c.self.inside.values c.intern.new.self c.self.inside.memo c.law.ensures.good
    (subst (λ (l : Levels). Extends l c.reduce.new.table.levels) c.forget_beyond.ensures.levels c.in_ok-head.ensures.kept) (subst (λ (ts : List (List ℕ)). Lengthens ts c.reduce.new.table.tuples) c.forget_beyond.ensures.tuples c.in_ok-head.ensures.tuples) c.in_ok-vals.ensures.kept fits c.self.invariant

pub returns-clause-means : goal.returns-clause-means
returns-clause-means c =
    let before : Package = record { groupings = c.self.inside.table; lists = c.self.inside.values; memo = c.self.inside.memo } in
    let now : Package = record { groupings = c.reduce.new.table; lists = c.intern.new.self; memo = c.self.inside.memo } in
    let own : c.args.g.at < count before.groupings.levels c.args.g.level = subst (λ (p : Package). c.args.g.at < count p.groupings.levels c.args.g.level) (sym c.self.view_is) c.requires.owned in
    let long : length c.args.values.now ≡ exits before.groupings.levels c.args.g.level c.args.g.at
    = c.requires.valued ∙ ap (λ (p : Package). exits p.groupings.levels c.args.g.level c.args.g.at) (sym c.self.view_is) in
    let t = before.groupings.levels in
    let g = c.args.g in
    let values = c.args.values.now in
    let ds = c.in_ok-ranks.different.items in
    let canon : IsCanon values c.as_slice.result.now ds = subst (λ (v : List ℕ). IsCanon values v ds) (sym c.as_slice.ensures) c.in_ok-ranks.ensures.canon in
    let there : slice_get now.lists c.in_ok-vals.vals.at ≡ Some ds = c.in_ok-vals.ensures.interned.is_there ∙ ap Some c.as_slice-2.ensures.value in
    let reduced = subst (λ (l : Levels). Stands c.reduce.new.table.levels c.in_ok-head.head g.level (rgs nat_eq (classed c.as_slice.result.now (pattern l g.level g.at)))) c.forget_beyond.ensures.levels c.in_ok-head.ensures.reduced in
    let made : Means now (record { head = c.in_ok-head.head; vals = record { at = c.in_ok-vals.vals.at } }) (function_of t g.level g.at values)
    = valued_means t c.law.ensures.good now c.in_ok-head.ensures.good g c.in_ok-head.head c.in_ok-vals.vals.at values ds c.as_slice.result.now own long canon reduced there in
    subst (λ (p : Package). Means now (record { head = c.in_ok-head.head; vals = record { at = c.in_ok-vals.vals.at } }) (function_of p.groupings.levels g.level g.at values)) c.self.view_is made

pub returns-clause-kept : goal.returns-clause-kept
returns-clause-kept c =
    let before : Package = record { groupings = c.self.inside.table; lists = c.self.inside.values; memo = c.self.inside.memo } in
    let now : Package = record { groupings = c.reduce.new.table; lists = c.intern.new.self; memo = c.self.inside.memo } in
    subst (λ (p : Package). Keeps p now) c.self.view_is (keeps before now c.law.ensures.good
    (subst (λ (l : Levels). Extends l now.groupings.levels) c.forget_beyond.ensures.levels c.in_ok-head.ensures.kept) (subst (λ (ts : List (List ℕ)). Lengthens ts now.groupings.tuples) c.forget_beyond.ensures.tuples c.in_ok-head.ensures.tuples) c.in_ok-vals.ensures.kept refl)

pub reduce-requires-clause-owned : goal.reduce-requires-clause-owned
reduce-requires-clause-owned c =
    subst (λ (l : Levels). c.args.g.at < count l c.args.g.level) (sym c.forget_beyond.ensures.levels) (subst (λ (p : Package). c.args.g.at < count p.groupings.levels c.args.g.level) (sym c.self.view_is) c.requires.owned)

pub reduce-requires-clause-entries : goal.reduce-requires-clause-entries
reduce-requires-clause-entries c =
    let ranks = c.in_ok-ranks in
    ap length c.as_slice.ensures ∙ canon_length c.args.values.now ranks.ranks.items ranks.different.items ranks.ensures.canon ∙ c.requires.valued
    ∙ ap (λ (p : Package). exits p.groupings.levels c.args.g.level c.args.g.at) (sym c.self.view_is) ∙ ap (λ (l : Levels). exits l c.args.g.level c.args.g.at) (sym c.forget_beyond.ensures.levels)

pub returns-clause-added : goal.returns-clause-added
returns-clause-added c =
    let now = c.reduce.new.table.levels in
    let h = c.in_ok-head.head in
    subst (λ (p : Package). AddsOnly p.groupings.levels now (sub h.level (pattern now h.level h.at))) c.self.view_is
    (subst (λ (l : Levels). AddsOnly l now (sub h.level (pattern now h.level h.at))) c.forget_beyond.ensures.levels c.in_ok-head.ensures.added)
