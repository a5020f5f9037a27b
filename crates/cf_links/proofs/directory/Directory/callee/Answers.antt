use Rattle.std.proofs.Common.{◌≡◌, subst}
use Rattle.std.specs.Prelude.{MatchOption, false}
use Rattle.cf_circuits.specs.Links.{is_among, names_of}
use Rattle.cf_links.specs.Directories.{IsPlace}
use Rattle.cf_links.proofs.DirectoriesPlaces.{place-callee}
use Rattle.cf_links.proofs.directory.Directory.callee.Goals as goal

pub returns-clause-model : goal.returns-clause-model
returns-clause-model c =
    place-callee c.args.self.now c.args.call.now c.place.result
    (subst (λ name. MatchOption c.place.result (is_among (names_of c.args.self.now) name ≡ false) (IsPlace c.args.self.now name))
    c.bytes.ensures c.place.ensures)
