use Rattle.std.proofs.Common.{◌≡◌, ◌^◌, ℕ, List, Bool, Some, length, length-append, pow-suc, sym, ◌∙◌, ap, subst, arith}
use Rattle.std.specs.List.{slice_get}
use Rattle.cf_model.specs.Assignments.{bits, number_of, first_half, second_half}
use Rattle.cf_model.specs.FlatFunctions.{IsLeast}
use Rattle.cf_model.proofs.AssignmentLaws.{first_half-append, second_half-append}
use Rattle.cf_table.specs.Groupings.{pattern_of}
use Rattle.cf_kron.proofs.ProductLaws.{level_len, small_len}
use Rattle.cf_kron.proofs.products.least_of_both.Goals as goal

pub joined-requires-clause-equal : goal.joined-requires-clause-equal
joined-requires-clause-equal g c =
    level_len c.least-first.result c.args.f.level c.least-first.ensures.least.assigns ∙ ap (λ (l : ℕ). 2 ^ l) c.requires.level ∙ sym (level_len c.least-second.result c.args.g.level c.least-second.ensures.least.assigns)

pub joined-requires-clause-most : goal.joined-requires-clause-most
joined-requires-clause-most g c = small_len c.least-first.result.len c.args.f.level (level_len c.least-first.result c.args.f.level c.least-first.ensures.least.assigns) c.requires.below

pub returns-clause-level : goal.returns-clause-level
returns-clause-level g c =
    let x = bits c.least-first.result in
    let y = bits c.least-second.result in
    let same : 2 ^ c.args.f.level ≡ 2 ^ c.args.g.level = ap (λ (l : ℕ). 2 ^ l) c.requires.level in
    ap length c.joined.ensures ∙ length-append x y ∙ omega (arith, c.least-first.ensures.least.assigns, c.least-second.ensures.least.assigns, same, pow-suc 2 c.args.f.level)

pub returns-clause-first : goal.returns-clause-first
returns-clause-first g c =
    let x = bits c.least-first.result in
    let y = bits c.least-second.result in
    let same : length x ≡ length y = c.least-first.ensures.least.assigns ∙ ap (λ (l : ℕ). 2 ^ l) c.requires.level ∙ sym c.least-second.ensures.least.assigns in
    subst (λ (v : List Bool). IsLeast c.args.f.level (λ at. slice_get (pattern_of c.args.table.now c.args.f) (number_of at) ≡ Some c.args.i) v) (sym (ap first_half c.joined.ensures ∙ first_half-append x y same)) c.least-first.ensures.least

pub returns-clause-second : goal.returns-clause-second
returns-clause-second g c =
    let x = bits c.least-first.result in
    let y = bits c.least-second.result in
    let same : length x ≡ length y = c.least-first.ensures.least.assigns ∙ ap (λ (l : ℕ). 2 ^ l) c.requires.level ∙ sym c.least-second.ensures.least.assigns in
    subst (λ (v : List Bool). IsLeast c.args.g.level (λ at. slice_get (pattern_of c.args.table.now c.args.g) (number_of at) ≡ Some c.args.j) v) (sym (ap second_half c.joined.ensures ∙ second_half-append x y same)) c.least-second.ensures.least
