use Rattle.std.proofs.Common.{◌≡◌, true, ap, sym, subst, rules}
use Rattle.std.specs.Prelude.{is_some}
use Rattle.std.proofs.lemmas.Result.{IfOk-weaker}
use Rattle.cf_pkg.specs.declared.Func.{Func}
use Rattle.cf_pkg.specs.Packages.{Package, OwnsFunction, meaning}
use Rattle.cf_script.specs.Views.{tree_of}
use Rattle.cf_reference.proofs.GivesLaws.{gives-let}
use Rattle.cf_session.specs.Sessions.{Held, state_of}
use Rattle.cf_session.proofs.Finished.{AreFinished, Lawful}
use Rattle.cf_session.proofs.Recalled.{kept_owned, kept_goes, kept_means, kept_once}
use Rattle.cf_session.proofs.session.Session.build.Goals as goal

pub returns-in-Ok-clause-means : goal.returns-in-Ok-clause-means
returns-in-Ok-clause-means c =
    IfOk-weaker c.evaluate.result _ _
    (λ f b. gives-let (state_of c.args.self.now) (tree_of c.args.expr.now) (meaning c.evaluate.new.self.pkg f) b.gives) c.evaluate.ensures.built

-- What the package's laws say of the session's package.
lawful : (c : goal.After-law) → Lawful c.args.self.now.pkg
lawful c =
    subst Lawful (ap (λ (h : Held). h.pkg) c.self.view_is)
    (record { flat = c.law.ensures.flat; finished = c.finished_law.ensures })

pub law-requires : goal.law-requires
law-requires c =
    let is = ap (λ (h : Held). h.pkg) c.self.view_is in
    record {
      owned = subst (λ (p : Package). OwnsFunction p c.in-Some.f) (sym is)
          (kept_owned (tree_of c.args.expr.now) c.args.self.now (subst AreFinished is c.finished_law.ensures) c.in-Some.f c.in-Some.ensures);
    }

pub returns-in-Some-clause-owned : goal.returns-in-Some-clause-owned
returns-in-Some-clause-owned c = kept_owned (tree_of c.args.expr.now) c.args.self.now (lawful c).finished c.in-Some.f c.in-Some.ensures

pub returns-in-Some-clause-means : goal.returns-in-Some-clause-means
returns-in-Some-clause-means c = kept_means c.args.self.now (tree_of c.args.expr.now) (lawful c) c.in-Some.f c.requires.formed c.in-Some.ensures

pub returns-in-Some-clause-again : goal.returns-in-Some-clause-again
returns-in-Some-clause-again c =
    kept_once c.args.self.now (tree_of c.args.expr.now) (lawful c) c.in-Some.f
    (subst (λ (p : Package). (g : Func) → OwnsFunction p g → meaning p g ≡ meaning p c.in-Some.f → g ≡ c.in-Some.f) (ap (λ (h : Held). h.pkg) c.self.view_is) c.law.ensures.one)
    c.requires.formed c.in-Some.ensures

pub returns-in-Some-clause-goes : goal.returns-in-Some-clause-goes
returns-in-Some-clause-goes c =
    let some : is_some c.args.self.now.level ≡ true = search rules in
    kept_goes c.args.self.now (tree_of c.args.expr.now) (lawful c) c.in-Some.f some c.requires.formed c.in-Some.ensures
