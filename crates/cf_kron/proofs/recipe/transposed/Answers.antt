use Rattle.std.proofs.Common.{◌≡◌, ◌<◌, ℕ, ℤ, List, length, Some, sym, ◌∙◌, ap, subst}
use Rattle.std.specs.Prelude.{All}
use Rattle.cf_model.specs.Diagrams.{pattern}
use Rattle.cf_model.specs.Matrices.{transpose}
use Rattle.cf_pkg.specs.Jobs.{Gives}
use Rattle.cf_kron.specs.Products.{value_by}
use Rattle.cf_kron.specs.Transposed.{values_at}
use Rattle.cf_kron.proofs.TransposedValues.{transposed_gives, values_in}
use Rattle.cf_kron.proofs.recipe.transposed.Goals as goal

pub chosen_values-requires : goal.chosen_values-requires
chosen_values-requires c =
    let t = c.args.table.now.levels in
    let u = c.transpose_grouping.new.table.levels in
    let f = c.args.f in
    let vs = c.args.values.now in
    let g = c.in_ok-g.g in
    record {
      within = subst (λ (v : List ℕ). All (λ e. e < length vs) v) (sym c.as_slice.ensures.value)
          (values_in t c.law.ensures.good f.level f.at c.requires.level c.requires.owned (length vs) c.requires.valued (pattern u g.level g.at) c.in_ok-g.exits.items c.in_ok-g.ensures.transposed.canon);
    }

pub returns-clause-value : goal.returns-clause-value
returns-clause-value c =
    let t = c.args.table.now.levels in
    let u = c.transpose_grouping.new.table.levels in
    let f = c.args.f in
    let vs = c.args.values.now in
    let g = c.in_ok-g.g in
    let es = c.in_ok-g.exits.items in
    let items : c.in_ok-chosen.chosen.items ≡ values_at vs es = c.in_ok-chosen.ensures ∙ ap (values_at vs) c.as_slice.ensures.value in
    subst (λ (v : List ℤ). Gives u g v f.level (λ bits. Some (transpose (value_by t f vs) bits))) (sym items)
    (transposed_gives t u c.law.ensures.good c.in_ok-g.ensures.good f c.requires.level c.requires.owned vs c.requires.valued g es c.in_ok-g.ensures.transposed)
