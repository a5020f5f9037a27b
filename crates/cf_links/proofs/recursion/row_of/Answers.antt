use Rattle.std.proofs.Common.{◌≡◌, ap, ◌∙◌, subst, length, false}
use Rattle.std.specs.Prelude.{MatchOption}
use Rattle.std.specs.Str.{bytes_eq}
use Rattle.cf_model.specs.Renumbering.{place}
use Rattle.cf_circuits.specs.Links.{is_among, names_of}
use Rattle.cf_links.specs.Directories.{IsPlace}
use Rattle.cf_links.proofs.CallsSearch.{images-next}
use Rattle.cf_links.proofs.DirectoriesPlaces.{place-or-end}
use Rattle.cf_links.proofs.recursion.row_of.Goals as goal

pub loop-call-preserved : goal.loop-call-preserved
loop-call-preserved c =
    let models = c.args.directory.now in
    images-next (λ call. place bytes_eq (names_of models) call.model) c.items-call-items.result.now c.loop-call.row c.push.new.self
    c.call-item.result c.unwrap_or-place.result c.loop-call.call-index c.loop-call.invariant c.loop-call-test.true c.call-item.is
    (c.unwrap_or-place.ensures ∙ place-or-end models c.call-item.result.model c.place.result (length c.models-end.result.now) (ap length c.models-end.ensures)
    (subst (λ name. MatchOption c.place.result (is_among (names_of models) name ≡ false) (IsPlace models name)) c.bytes.ensures c.place.ensures))
    c.in_ok-push.ensures.pushed
