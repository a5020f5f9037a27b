use Rattle.std.proofs.Common.{[], ◌∷◌, ap, ◌∙◌}
use Rattle.cf_model.specs.Patterns.{Pattern, sizes}
use Rattle.cf_table.specs.Groupings.{exits_of}
use Rattle.cf_pkg.specs.Packages.{Package}
use Rattle.cf_table.specs.Groupings.{grouping_pattern}
use Rattle.cf_pkg.proofs.Heading.{head_pattern, head_exits}
use Rattle.cf_pkg.proofs.Pkg.sizes.Goals as goal

pub returns-clause-per_level : goal.returns-clause-per_level
returns-clause-per_level c =
    let p = c.args.self.now in
    let f = c.args.f in
    c.in_ok-per_level.ensures ∙ ap (λ (q : Package). sizes (grouping_pattern q.groupings.levels f.head ∷ [])) c.self.view_is
    ∙ ap (λ (x : Pattern). sizes (x ∷ [])) (head_pattern p f c.law.ensures.good c.law.ensures.function)

pub returns-clause-exits : goal.returns-clause-exits
returns-clause-exits c =
    let p = c.args.self.now in
    let f = c.args.f in
    c.exits.ensures ∙ ap (λ (q : Package). exits_of q.groupings f.head) c.self.view_is ∙ head_exits p f c.law.ensures.good c.law.ensures.function
