use Rattle.std.proofs.Common.{rules, ◌≡◌, ℕ, map, ap, sym, ◌∙◌, subst}
use Rattle.std.specs.List.{range_with_len, zip}
use Rattle.cf_model.specs.Diagrams.{pattern}
use Rattle.cf_table.specs.declared.Gid.{Gid}
use Rattle.cf_build.specs.Assembling.{HasCanon}
use Rattle.cf_pair.specs.Products.{after_zero, before_zero, twice}
use Rattle.cf_pair.proofs.Constants.{beside_self, beside_first, beside_second}
use Rattle.cf_pair.proofs.plain.plain_product.Goals as goal

pub returns-then-eq : goal.returns-then-eq
returns-then-eq c =
    let t = c.args.table.now.levels in
    let g = c.args.g in
    let pairs = map twice (range_with_len 0 c.exits-left.result) in
    let same : c.args.g ≡ c.args.h = search rules in
    subst (λ (h : Gid). HasCanon t g g.level (zip (pattern t g.level g.at) (pattern t h.level h.at)) pairs) same (beside_self t c.requires.good g c.requires.first pairs (ap (λ (n : ℕ). map twice (range_with_len 0 n)) c.exits-left.ensures))

pub returns-then-left-eq1 : goal.returns-then-left-eq1
returns-then-left-eq1 c =
    beside_first c.args.table.now.levels c.requires.good c.args.g c.args.h c.requires.levels c.requires.first c.requires.second (sym c.exits-left.ensures ∙ c.if-left-eq1.true) _ (ap (λ (n : ℕ). map after_zero (range_with_len 0 n)) c.exits-right.ensures)

pub returns-then-right-eq1 : goal.returns-then-right-eq1
returns-then-right-eq1 c =
    beside_second c.args.table.now.levels c.requires.good c.args.g c.args.h c.requires.levels c.requires.first c.requires.second (sym c.exits-right.ensures ∙ c.if-right-eq1.true) _ (ap (λ (n : ℕ). map before_zero (range_with_len 0 n)) c.exits-left.ensures)
