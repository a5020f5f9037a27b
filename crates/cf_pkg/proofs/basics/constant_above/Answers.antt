use Rattle.std.proofs.Common.{suc, ◌-◌, ℕ, List, [], ◌∷◌, sym, subst, ap, arith, length}
use Rattle.cf_model.specs.Diagrams.{pattern}
use Rattle.cf_build.specs.Assembling.{IsRow, HasCanon, labels_over}
use Rattle.cf_pkg.specs.Basics.{constant_pattern}
use Rattle.cf_pkg.proofs.Made.{constant_made, constant_exits, one_row, labelled}
use Rattle.cf_pkg.proofs.basics.constant_above.Goals as goal

pub assemble-requires-clause-middles : goal.assemble-requires-clause-middles
assemble-requires-clause-middles c = sym (constant_exits c.args.table.now.levels c.requires.good c.args.below (c.args.level - 1) c.requires.below)

pub assemble-requires-clause-rows : goal.assemble-requires-clause-rows
assemble-requires-clause-rows c =
    let v = c.args.table.now.levels in
    let b = c.args.below in
    let l = c.args.level - 1 in
    let s = c.requires.below in
    one_row (IsRow v b.level) (b, c.in_ok-label.label.items)
    (labelled v b l (constant_pattern l) c.in_ok-label.label.items 1 s b.level (sym s.level) (constant_exits v c.requires.good b l s) (ap length c.in_ok-label.ensures.items))

pub returns-clause-stands : goal.returns-clause-stands
returns-clause-stands c =
    let v = c.args.table.now.levels in
    let u = c.assemble.new.table.levels in
    let b = c.args.below in
    let g = c.in_ok-g.g in
    let ds = c.in_ok-g.field-0-1.items in
    constant_made v u b g (c.args.level - 1) c.args.level ds (omega (arith, c.requires.above)) c.requires.below
    (subst (λ (w : List ℕ). HasCanon u g (suc b.level) (labels_over (pattern v b.level) b.at ((b.at, w) ∷ [])) ds) c.in_ok-label.ensures.items c.in_ok-g.ensures.assembled)
