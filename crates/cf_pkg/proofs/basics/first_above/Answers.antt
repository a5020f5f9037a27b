use Rattle.std.proofs.Common.{suc, ◌≡◌, ◌-◌, ℕ, List, [], ◌∷◌, sym, subst, ap, arith, length}
use Rattle.cf_model.specs.Diagrams.{pattern}
use Rattle.cf_build.specs.Assembling.{IsRow, HasCanon, labels_over}
use Rattle.cf_pkg.specs.Basics.{constant_pattern}
use Rattle.cf_pkg.proofs.Made.{first_made, constant_exits, variable_exits, two_rows, labelled}
use Rattle.cf_pkg.proofs.basics.first_above.Goals as goal

pub assemble-requires-clause-middles : goal.assemble-requires-clause-middles
assemble-requires-clause-middles c = sym (variable_exits c.args.table.now.levels c.requires.good c.args.below.variable (c.args.level - 1) c.args.i c.requires.variable c.requires.below.variable)

pub assemble-requires-clause-rows : goal.assemble-requires-clause-rows
assemble-requires-clause-rows c =
    let v = c.args.table.now.levels in
    let a = c.args.below.variable in
    let b = c.args.below.constant in
    let l = c.args.level - 1 in
    let w = c.requires.below.constant in
    let e : l ≡ a.level = sym c.requires.below.variable.level in
    let one = constant_exits v c.requires.good b l w in
    two_rows (IsRow v a.level) (b, c.in_ok-zero.zero.items) (b, c.in_ok-one.one.items)
    (labelled v b l (constant_pattern l) c.in_ok-zero.zero.items 1 w a.level e one (ap length c.in_ok-zero.ensures.items))
    (labelled v b l (constant_pattern l) c.in_ok-one.one.items 1 w a.level e one (ap length c.in_ok-one.ensures.items))

pub returns-clause-stands : goal.returns-clause-stands
returns-clause-stands c =
    let v = c.args.table.now.levels in
    let u = c.assemble.new.table.levels in
    let a = c.args.below.variable in
    let b = c.args.below.constant in
    let g = c.in_ok-g.g in
    let ds = c.in_ok-g.field-0-1.items in
    first_made v u a b g (c.args.level - 1) c.args.level c.args.i ds (omega (arith, c.requires.above)) c.requires.variable c.requires.below.variable c.requires.below.constant
    (subst (λ (y : List ℕ). HasCanon u g (suc a.level) (labels_over (pattern v a.level) a.at ((b.at, 0 ∷ []) ∷ (b.at, y) ∷ [])) ds) c.in_ok-one.ensures.items
    (subst (λ (x : List ℕ). HasCanon u g (suc a.level) (labels_over (pattern v a.level) a.at ((b.at, x) ∷ (b.at, c.in_ok-one.one.items) ∷ [])) ds) c.in_ok-zero.ensures.items c.in_ok-g.ensures.assembled))
