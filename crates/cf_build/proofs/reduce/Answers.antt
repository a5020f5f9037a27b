use Rattle.std.proofs.Common.{ℕ, List, sym, ◌∙◌, subst}
use Rattle.cf_model.specs.Diagrams.{pattern}
use Rattle.cf_model.proofs.Canonicity.{level_holds}
use Rattle.cf_model.specs.Renumbering.{IsCanon}
use Rattle.cf_model.proofs.RenumberingLaws.{grown_canon}
use Rattle.cf_build.proofs.Turns.{if_ok}
use Rattle.cf_build.proofs.Numbers.{classed_rgs}
use Rattle.cf_build.proofs.reduce.Goals as goal

pub returns-then-are_numbered-clause-reduced : goal.returns-then-are_numbered-clause-reduced
returns-then-are_numbered-clause-reduced c =
    let t = c.args.table.now.levels in
    let l = c.args.g.level in
    let classes = c.args.classes.now in
    let b = level_holds t c.law.ensures.good l in
    let e = classed_rgs classes classes _ (pattern t l c.args.g.at) (grown_canon classes (c.are_numbered.ensures c.if-are_numbered.true)) (b.grows c.args.g.at c.requires.owned) (b.reaches c.args.g.at c.requires.owned ∙ sym c.requires.entries) in
    if_ok c.reduce_numbered.result _ _ c.reduce_numbered.ensures.reduced (λ h s. record { level = s.level; there = s.there; is_it = s.is_it ∙ e })

pub returns-clause-reduced : goal.returns-clause-reduced
returns-clause-reduced c =
    let t = c.args.table.now.levels in
    let l = c.args.g.level in
    let b = level_holds t c.law.ensures.good l in
    let canon : IsCanon c.args.classes.now c.as_slice.result.now c.in_ok-ranks.field-0-1.items = subst (λ (v : List ℕ). IsCanon c.args.classes.now v c.in_ok-ranks.field-0-1.items) (sym c.as_slice.ensures) c.in_ok-ranks.ensures.canon in
    let e = classed_rgs c.args.classes.now c.as_slice.result.now c.in_ok-ranks.field-0-1.items (pattern t l c.args.g.at) canon (b.grows c.args.g.at c.requires.owned) (b.reaches c.args.g.at c.requires.owned ∙ sym c.requires.entries) in
    if_ok c.reduce_numbered-2.result _ _ c.reduce_numbered-2.ensures.reduced (λ h s. record { level = s.level; there = s.there; is_it = s.is_it ∙ e })
