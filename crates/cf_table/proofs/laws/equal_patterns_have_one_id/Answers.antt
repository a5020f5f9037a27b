use Rattle.std.proofs.Common.{ℕ, ◌<◌, sym, ◌∙◌, ap, subst}
use Rattle.cf_model.specs.Diagrams.{count, pattern}
use Rattle.cf_model.proofs.Canonicity.{canonical}
use Rattle.cf_table.specs.declared.Gid.{Gid}
use Rattle.cf_table.specs.Groupings.{pattern_of}
use Rattle.cf_table.proofs.Told.{same_gid}
use Rattle.cf_table.proofs.laws.equal_patterns_have_one_id.Goals as goal

pub returns : goal.returns
returns c =
    let t = c.args.table.now.levels in
    let g = c.args.g in
    let h = c.args.h in (
      λ e. same_gid g h c.requires.level
          (canonical t c.law.ensures.good h.level g.at h.at (subst (λ (m : ℕ). g.at < count t m) c.requires.level c.requires.first) c.requires.second (ap (λ (m : ℕ). pattern t m g.at) (sym c.requires.level) ∙ e)),
      λ e. ap (λ (x : Gid). pattern_of c.args.table.now x) e,
    )
