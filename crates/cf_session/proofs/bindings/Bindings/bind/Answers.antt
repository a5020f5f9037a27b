use Rattle.std.proofs.Common.{sym, ap, ◌∙◌, Some, None, ◌≡◌, ◌++◌, ◌∷◌, [], length, arith}
use Rattle.std.specs.List.{zip}
use Rattle.std.specs.Str.{bytes_eq}
use Rattle.cf_model.specs.Renumbering.{note}
use Rattle.cf_session.specs.Bindings.{bind}
use Rattle.cf_session.proofs.NameFacts.{looked, found-within, found-bind, missed-bind, missed-count, length-push}
use Rattle.cf_session.proofs.bindings.Bindings.bind.Goals as goal
use Rattle.cf_session.proofs.bindings.Bindings.bind.Goals.{In_ok-push}

grown : (c : In_ok-push) → c.push.new.self.items ≡ c.self.inside.functions.items ++ c.args.f ∷ []
grown c = c.in_ok-push.ensures.items ∙ ap (λ fs. fs ++ c.args.f ∷ []) c.reserve.ensures.items

pub index_mut-requires : goal.index_mut-requires
index_mut-requires c =
    let fs = c.self.inside.functions in
    let inside = found-within c.self.inside.names fs.items c.args.name.now c.in-Some.place c.self.invariant.0 (looked c.self.inside.names c.self.inside.functions.items c.args.self.now c.args.name.now (Some c.in-Some.place) c.self.invariant.0 c.self.view_is (sym c.in-Some.is ∙ c.place.ensures)) in
    omega (arith, inside, fs.ok)

pub returns-in-Some-clause-bound : goal.returns-in-Some-clause-bound
returns-in-Some-clause-bound c =
    found-bind c.self.inside.names c.self.inside.functions.items c.args.name.now c.in-Some.place c.args.f c.self.invariant.0 (looked c.self.inside.names c.self.inside.functions.items c.args.self.now c.args.name.now (Some c.in-Some.place) c.self.invariant.0 c.self.view_is (sym c.in-Some.is ∙ c.place.ensures))
    ∙ ap (λ bound. bind bound c.args.name.now c.args.f) c.self.view_is

pub invariant_of-self-2 : goal.invariant_of-self-2
invariant_of-self-2 c =
    let new = missed-count c.self.inside.names c.args.name.now (looked c.self.inside.names c.self.inside.functions.items c.args.self.now c.args.name.now None c.self.invariant.0 c.self.view_is (sym c.in_default.is ∙ c.place.ensures)) in
    let noted = ap length c.in_ok-number.ensures.noted in
    let pushed = ap length (grown c) ∙ length-push c.self.inside.functions.items c.args.f in
    (omega (arith, new, noted, pushed, c.self.invariant.0), c.in_ok-number.ensures.differ)

pub returns-clause-bound : goal.returns-clause-bound
returns-clause-bound c =
    ap (λ names. zip names c.push.new.self.items) c.in_ok-number.ensures.noted
    ∙ ap (zip (note bytes_eq c.self.inside.names c.args.name.now)) (grown c)
    ∙ missed-bind c.self.inside.names c.self.inside.functions.items c.args.name.now c.args.f c.self.invariant.0 (looked c.self.inside.names c.self.inside.functions.items c.args.self.now c.args.name.now None c.self.invariant.0 c.self.view_is (sym c.in_default.is ∙ c.place.ensures))
    ∙ ap (λ bound. bind bound c.args.name.now c.args.f) c.self.view_is
