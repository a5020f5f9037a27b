use Rattle.std.proofs.Common.{◌≡◌, ◌<◌, ◌≤◌, ◌+◌, ◌^◌, ℕ, List, Bool, map, length, sym, ◌∙◌, ap, subst, arith}
use Rattle.std.proofs.lemmas.List.{length-map}
use Rattle.cf_model.specs.Assignments.{bits, bits_of}
use Rattle.cf_model.proofs.FlatFunctionLaws.{points-is}
use Rattle.cf_model.proofs.Canonicity.{pattern_full}
use Rattle.cf_table.specs.Groupings.{pattern_of}
use Rattle.cf_witness.specs.Nexts.{LacksMarked, IsNext}
use Rattle.cf_witness.proofs.Marks.{none_told, some_told}
use Rattle.cf_witness.proofs.Listed.{HasListed, one_listed, all_listed, enough_listed, last_listed, pushed, bits_most, not_below}
use Rattle.cf_witness.proofs.listing.first_marked.Goals as goal

pub returns-in_default : goal.returns-in_default
returns-in_default c =
    let t = c.args.table.now in
    let g = c.args.g in
    let p = pattern_of t g in
    let marks = c.args.marks.now in
    let l = 2 ^ g.level in
    let none : LacksMarked p marks c.loop-alloc.from (2 ^ l) = subst (λ (n : ℕ). LacksMarked p marks c.loop-alloc.from n) (points-is g.level) (none_told c.in_ok-place.field-0 _ _ c.in_ok-place.ensures c.in_default.is) in
    all_listed p marks l (map bits c.loop-alloc.found.items) c.loop-alloc.from c.args.max c.loop-alloc.invariant none

pub new-requires-clause-below : goal.new-requires-clause-below
new-requires-clause-below c =
    let t = c.args.table.now in
    let g = c.args.g in
    let p = pattern_of t g in
    let marks = c.args.marks.now in
    let l = 2 ^ g.level in
    let next : IsNext p marks c.loop-alloc.from c.in-Some.place.number c.in-Some.place.exit = some_told c.in_ok-place.field-0 c.in-Some.place _ _ c.in_ok-place.ensures c.in-Some.is in
    let full : length p ≡ 2 ^ l = pattern_full t.levels c.law.ensures.good g.level g.at c.requires ∙ points-is g.level in
    let variables : c.variables.result ≡ l = c.variables.ensures ∙ ap (λ (k : ℕ). 2 ^ k) c.level_within-level.ensures.level in
    let within = next.within in
    subst (λ (k : ℕ). c.in-Some.place.number < 2 ^ k) (sym variables) (omega (arith, within, full))

pub returns-in_default-checked_add : goal.returns-in_default-checked_add
returns-in_default-checked_add c =
    let t = c.args.table.now in
    let g = c.args.g in
    let p = pattern_of t g in
    let marks = c.args.marks.now in
    let l = 2 ^ g.level in
    let next : IsNext p marks c.loop-alloc.from c.in-Some.place.number c.in-Some.place.exit = some_told c.in_ok-place.field-0 c.in-Some.place _ _ c.in_ok-place.ensures c.in-Some.is in
    let full : length p ≡ 2 ^ l = pattern_full t.levels c.law.ensures.good g.level g.at c.requires ∙ points-is g.level in
    let variables : c.variables.result ≡ l = c.variables.ensures ∙ ap (λ (k : ℕ). 2 ^ k) c.level_within-level.ensures.level in
    let room : length (map bits c.loop-alloc.found.items) < c.args.max = omega (arith, length-map c.loop-alloc.found.items bits, c.loop-alloc.found.ok, c.len.ensures, c.loop-alloc-test.true) in
    let is : bits c.new.result ≡ bits_of l c.in-Some.place.number = c.new.ensures.listed ∙ ap (λ (k : ℕ). bits_of k c.in-Some.place.number) variables in
    let items = pushed c.loop-alloc.found.items c.push.new.self.items c.new.result l c.in-Some.place.number c.in_ok-push.ensures.items is in
    let more : HasListed p marks l (map bits c.push.new.self.items) (c.in-Some.place.number + 1) c.args.max = subst (λ (v : List (List Bool)). HasListed p marks l v (c.in-Some.place.number + 1) c.args.max) (sym items)
    (one_listed p marks l (map bits c.loop-alloc.found.items) c.loop-alloc.from c.args.max c.in-Some.place.number c.in-Some.place.exit c.loop-alloc.invariant full room next) in
    let past : 2 ^ 128 ≤ c.in-Some.place.number + 1 = not_below (c.in-Some.place.number + 1) (2 ^ 128) c.in_default-checked_add.ensures in
    let small : l ≤ 128 = bits_most g.level (omega (arith, c.level_within-level.ensures.level, c.level_within-level.ensures.within)) in
    last_listed p marks l (map bits c.push.new.self.items) (c.in-Some.place.number + 1) c.args.max more small past

pub loop-alloc-preserved : goal.loop-alloc-preserved
loop-alloc-preserved c =
    let t = c.args.table.now in
    let g = c.args.g in
    let p = pattern_of t g in
    let marks = c.args.marks.now in
    let l = 2 ^ g.level in
    let next : IsNext p marks c.loop-alloc.from c.in-Some.place.number c.in-Some.place.exit = some_told c.in_ok-place.field-0 c.in-Some.place _ _ c.in_ok-place.ensures c.in-Some.is in
    let full : length p ≡ 2 ^ l = pattern_full t.levels c.law.ensures.good g.level g.at c.requires ∙ points-is g.level in
    let variables : c.variables.result ≡ l = c.variables.ensures ∙ ap (λ (k : ℕ). 2 ^ k) c.level_within-level.ensures.level in
    let room : length (map bits c.loop-alloc.found.items) < c.args.max = omega (arith, length-map c.loop-alloc.found.items bits, c.loop-alloc.found.ok, c.len.ensures, c.loop-alloc-test.true) in
    let is : bits c.new.result ≡ bits_of l c.in-Some.place.number = c.new.ensures.listed ∙ ap (λ (k : ℕ). bits_of k c.in-Some.place.number) variables in
    let items = pushed c.loop-alloc.found.items c.push.new.self.items c.new.result l c.in-Some.place.number c.in_ok-push.ensures.items is in
    let more : HasListed p marks l (map bits c.push.new.self.items) (c.in-Some.place.number + 1) c.args.max = subst (λ (v : List (List Bool)). HasListed p marks l v (c.in-Some.place.number + 1) c.args.max) (sym items)
    (one_listed p marks l (map bits c.loop-alloc.found.items) c.loop-alloc.from c.args.max c.in-Some.place.number c.in-Some.place.exit c.loop-alloc.invariant full room next) in
    subst (λ (n : ℕ). HasListed p marks l (map bits c.push.new.self.items) n c.args.max) (sym c.in-Some-checked_add.ensures.1) more

pub returns : goal.returns
returns c =
    let t = c.args.table.now in
    let g = c.args.g in
    let p = pattern_of t g in
    let marks = c.args.marks.now in
    let l = 2 ^ g.level in
    enough_listed p marks l (map bits c.loop-alloc.found.items) c.loop-alloc.from c.args.max c.loop-alloc.invariant (omega (arith, length-map c.loop-alloc.found.items bits, c.loop-alloc.found.ok, c.len.ensures, c.loop-alloc-test.false))
