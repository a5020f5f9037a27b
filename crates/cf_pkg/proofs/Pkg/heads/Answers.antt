use Rattle.cf_pkg.specs.declared.Func.{Func}
use Rattle.std.proofs.lemmas.List.Elements.{All-get_or}
use Rattle.cf_pkg.specs.Packages.{OwnsFunction}
use Rattle.cf_pkg.proofs.Heading.{head_pattern, headed_more}
use Rattle.cf_pkg.proofs.Pkg.heads.Goals as goal

abbrev blank : Func
blank = record { head = record { level = 0; at = 0 }; vals = record { at = 0 } }

pub loop-f-preserved : goal.loop-f-preserved
loop-f-preserved c =
    let p = c.args.self.now in
    headed_more p c.args.fs.now c.loop-f.f-index blank c.loop-f.heads.items c.push.new.self.items c.loop-f-test.true c.loop-f.invariant c.in_ok-push.ensures.items
    (All-get_or (OwnsFunction p) c.args.fs.now c.loop-f.f-index blank c.loop-f-test.true c.requires.owned).head (head_pattern p _ c.law.ensures.good c.law.ensures.function)
