use Rattle.std.specs.List.{All}
use Rattle.cf_model.specs.Values.{Fits}
use Rattle.cf_pkg.proofs.Keeping.{all_kept}
use Rattle.cf_pkg.proofs.Remembering.{sound_valued}
use Rattle.cf_pkg.proofs.Pkg.with_values.Goals as goal

pub invariant_of-self-2 : goal.invariant_of-self-2
invariant_of-self-2 c =
    let fit : All (All Fits) c.intern.new.self = all_kept (All Fits) c.self.inside.values c.intern.new.self c.args.values.now c.in_ok-vals.vals.at c.in_ok-vals.ensures.interned c.self.invariant.fit c.requires.fit in
    sound_valued c.self.inside.table c.self.inside.values c.intern.new.self c.self.inside.memo c.law.ensures.good c.in_ok-vals.ensures.kept fit c.self.invariant
