use Rattle.std.proofs.Common.{◌≡◌, ◌<◌, [], length, sym, subst, ap}
use Rattle.std.specs.List.{All}
use Rattle.cf_model.specs.Renumbering.{AllDiffer}
use Rattle.cf_model.specs.Values.{Fits}
use Rattle.cf_model.specs.Diagrams.{IsGood}
use Rattle.cf_model.specs.FlatFunctions.{FlatFunction, value_at}
use Rattle.cf_model.proofs.FunctionLaws.{function_flat}
use Rattle.cf_pkg.specs.declared.Func.{Func}
use Rattle.cf_pkg.specs.Packages.{Package, OwnsFunction, values_of}
use Rattle.cf_pkg.proofs.Meanings.{Known, agreeing, low}
use Rattle.cf_pkg.proofs.Pkg.law.Goals as goal

-- what is known of any function of the package
known : (c : goal.After-get) → (g : Func) → OwnsFunction c.args.self.now g → Known c.args.self.now g
known c g h =
    let p = c.args.self.now in
    let within : g.vals.at < length c.self.inside.values = subst (λ (q : Package). g.vals.at < length q.lists) (sym c.self.view_is) h.list in
    record {
      owned = h;
      good = subst (λ (q : Package). IsGood q.groupings.levels) c.self.view_is c.law.ensures.good;
      level = low p.groupings.levels g.head.level g.head.at (subst (λ (q : Package). length q.groupings.levels ≡ 8) c.self.view_is c.law.ensures.eight) h.head;
      once = subst (λ (q : Package). AllDiffer q.lists) c.self.view_is c.get.ensures.once;
      function = record {
        exists = h.head;
        valued = h.valued;
        differ = subst (λ (q : Package). AllDiffer (values_of q g)) c.self.view_is (c.get.ensures.each g.vals.at [] within).differ;
        fit = subst (λ (q : Package). All Fits (values_of q g)) c.self.view_is (c.self.invariant.fit g.vals.at [] within);
      };
    }

pub returns-clause-function : goal.returns-clause-function
returns-clause-function c = (known c c.args.f c.requires.owned).function

pub returns-clause-one : goal.returns-clause-one
returns-clause-one c g h e =
    let p = c.args.self.now in
    agreeing p g c.args.f (known c g h) (known c c.args.f c.requires.owned) (ap (λ (m : FlatFunction). m.level) e)
    (λ bits assigns. ap (λ (m : FlatFunction). value_at m bits) e)

pub returns-clause-flat : goal.returns-clause-flat
returns-clause-flat c g h =
    let p = c.args.self.now in
    let k = known c g h in
    function_flat p.groupings.levels k.good g.head.level g.head.at (values_of p g) k.level k.function
