use Rattle.std.proofs.Common.{suc, ℤ, List, map, sym, ap, subst}
use Rattle.std.specs.Prelude.{All}
use Rattle.cf_model.specs.Assignments.{Assignment, bits}
use Rattle.cf_model.specs.Diagrams.{pattern}
use Rattle.cf_model.specs.Matrices.{kronecker}
use Rattle.cf_table.specs.declared.Gid.{Gid}
use Rattle.cf_build.specs.Assembling.{Rowed, IsRow, HasCanon, labels_over, row_of}
use Rattle.cf_pkg.specs.Jobs.{IsLeastWithout}
use Rattle.cf_kron.specs.Products.{value_by}
use Rattle.cf_kron.proofs.ProductLaws.{Factors, product_row, product_gives, product_least, fault_same}
use Rattle.cf_kron.proofs.products.product.Goals as goal

pub returns-in-Some-clause-overflow : goal.returns-in-Some-clause-overflow
returns-in-Some-clause-overflow c at e =
    let t = c.args.table.now.levels in
    let f = c.args.f in
    let g = c.args.g in
    let left = c.args.left.now in
    let right = c.args.right.now in
    let k : Factors t f left g right = record { good = c.law.ensures.good; first = c.requires.first; second = c.requires.second; level = c.requires.level; left_long = c.requires.left; right_long = c.requires.right } in
    let made = c.least_of_both-at.result in
    let q = c.least_of_both-at.ensures in
    subst (λ (a : Assignment). IsLeastWithout (suc f.level) (kronecker (value_by t f left) (value_by t g right)) (bits a)) (fault_same made at e)
    (product_least t f left g right k c.in-Some.i c.in-Some.j c.in-Some.ensures.some (bits made) q.level q.first q.second)

pub assemble_rows-requires-clause-rows : goal.assemble_rows-requires-clause-rows
assemble_rows-requires-clause-rows c =
    let t = c.args.table.now.levels in
    let f = c.args.f in
    let g = c.args.g in
    let left = c.args.left.now in
    let right = c.args.right.now in
    let k : Factors t f left g right = record { good = c.law.ensures.good; first = c.requires.first; second = c.requires.second; level = c.requires.level; left_long = c.requires.left; right_long = c.requires.right } in
    subst (λ (rs : List (Gid × List ℤ)). All (IsRow t f.level) rs) (sym (ap (λ (s : Rowed ℤ). s.rows) c.in_ok-rows.ensures)) (product_row t f left g right k)

pub returns-clause-value : goal.returns-clause-value
returns-clause-value c =
    let t = c.args.table.now.levels in
    let f = c.args.f in
    let g = c.args.g in
    let left = c.args.left.now in
    let right = c.args.right.now in
    let k : Factors t f left g right = record { good = c.law.ensures.good; first = c.requires.first; second = c.requires.second; level = c.requires.level; left_long = c.requires.left; right_long = c.requires.right } in
    let u = c.assemble_rows.new.table.levels in
    let r = c.in_ok-assemble_rows.field-0 in
    product_gives t f left g right k c.in_default.ensures.none u c.assemble_rows.ensures.good r.0 r.1.items
    (subst (λ (rs : List (Gid × List ℤ)). HasCanon u r.0 (suc f.level) (labels_over (pattern t f.level) f.at (map row_of rs)) r.1.items) (ap (λ (s : Rowed ℤ). s.rows) c.in_ok-rows.ensures) c.in_ok-assemble_rows.ensures.assembled)
