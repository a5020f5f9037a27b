use Rattle.std.proofs.Common.{sym, ap, ◌∙◌, Some, ◌≡◌, arith}
use Rattle.cf_names.specs.Numbers.{number_of}
use Rattle.cf_session.specs.Bindings.{bound_to}
use Rattle.cf_session.proofs.NameFacts.{found-within, found-bound, missed-bound}
use Rattle.cf_session.proofs.bindings.Bindings.find.Goals as goal

is_found : (c : goal.In_ok-place) → Some c.in_ok-place.place ≡ number_of c.self.inside.names c.args.name.now
is_found c = sym c.in_ok-place.was ∙ c.find.ensures.number

pub returns-in_err-place : goal.returns-in_err-place
returns-in_err-place c =
    c.from_residual.ensures
    ∙ missed-bound c.self.inside.names c.self.inside.functions.items c.args.name.now (record { head = record { level = 0; at = 0 }; vals = record { at = 0 } }) c.self.invariant.0 (sym c.in_err-place.was ∙ c.find.ensures.number)
    ∙ ap (λ bound. bound_to bound c.args.name.now) c.self.view_is

pub index-requires : goal.index-requires
index-requires c =
    let fs = c.self.inside.functions in
    let inside = found-within c.self.inside.names fs.items c.args.name.now c.in_ok-place.place c.self.invariant.0 (is_found c) in
    omega (arith, inside, fs.ok)

pub returns : goal.returns
returns c =
    ap Some c.index.ensures
    ∙ found-bound c.self.inside.names c.self.inside.functions.items c.args.name.now c.in_ok-place.place c.index.result.now c.self.invariant.0 (sym c.in_ok-place.was ∙ c.find.ensures.number)
    ∙ ap (λ bound. bound_to bound c.args.name.now) c.self.view_is
