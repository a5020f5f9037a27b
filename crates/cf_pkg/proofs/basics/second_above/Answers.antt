use Rattle.std.proofs.Common.{suc, ◌<◌, ◌-◌, ◌^◌, ℕ, List, [], ◌∷◌, sym, subst, ap, arith, length}
use Rattle.cf_model.specs.Diagrams.{pattern}
use Rattle.cf_build.specs.Assembling.{IsRow, HasCanon, labels_over}
use Rattle.cf_pkg.specs.Basics.{variable_pattern}
use Rattle.cf_pkg.proofs.Made.{second_made, constant_exits, variable_exits, doubled, one_row, labelled}
use Rattle.cf_pkg.proofs.basics.second_above.Goals as goal

pub assemble-requires-clause-middles : goal.assemble-requires-clause-middles
assemble-requires-clause-middles c = sym (constant_exits c.args.table.now.levels c.requires.good c.args.below.constant (c.args.level - 1) c.requires.below.constant)

pub assemble-requires-clause-rows : goal.assemble-requires-clause-rows
assemble-requires-clause-rows c =
    let v = c.args.table.now.levels in
    let a = c.args.below.constant in
    let b = c.args.below.variable in
    let l = c.args.level - 1 in
    let i = c.args.i - 2 ^ l in
    let s = c.requires.below.variable in
    let d = doubled l c.args.level (omega (arith, c.requires.above)) in
    let h : i < 2 ^ l = omega (arith, c.requires.variable, d, c.requires.half) in
    one_row (IsRow v a.level) (b, c.in_ok-bits.bits.items)
    (labelled v b l (variable_pattern l i) c.in_ok-bits.bits.items 2 s a.level (sym c.requires.below.constant.level) (variable_exits v c.requires.good b l i h s) (ap length c.in_ok-bits.ensures.items))

pub returns-clause-stands : goal.returns-clause-stands
returns-clause-stands c =
    let v = c.args.table.now.levels in
    let u = c.assemble.new.table.levels in
    let a = c.args.below.constant in
    let b = c.args.below.variable in
    let g = c.in_ok-g.g in
    let ds = c.in_ok-g.field-0-1.items in
    second_made v u a b g (c.args.level - 1) c.args.level c.args.i ds (omega (arith, c.requires.above)) c.requires.half c.requires.below.constant c.requires.below.variable
    (subst (λ (x : List ℕ). HasCanon u g (suc a.level) (labels_over (pattern v a.level) a.at ((b.at, x) ∷ [])) ds) c.in_ok-bits.ensures.items c.in_ok-g.ensures.assembled)
