use Rattle.std.proofs.Common.{◌≡◌, false, get_or, length, ap, subst}
use Rattle.std.specs.Prelude.{MatchOption}
use Rattle.cf_circuits.specs.Links.{is_among, names_of, no_model}
use Rattle.cf_links.specs.Directories.{IsPlace}
use Rattle.cf_blocks.proofs.CallLaws.{not-found, uncalled}
use Rattle.cf_blocks.proofs.calls.call_of.Goals as goal

pub returns-in_default : goal.returns-in_default
returns-in_default c =
    let models = c.args.numbers.now in
    uncalled models (get_or models c.args.at no_model) c.args.call.now (length c.models.result.now) c.new.result
    (not-found models c.args.call.now.model c.place.result
    (subst (λ name. MatchOption c.place.result (is_among (names_of models) name ≡ false) (IsPlace models name)) c.bytes.ensures c.place.ensures)
    c.in_default.not-Some)
    (ap length c.models.ensures) c.new.ensures
