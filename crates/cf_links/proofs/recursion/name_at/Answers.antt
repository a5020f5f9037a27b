use Rattle.std.proofs.Common.{◌≡◌, ◌∙◌, Some}
use Rattle.std.specs.List.{slice_get}
use Rattle.std.proofs.lemmas.Result.{IfOk-weaker}
use Rattle.cf_circuits.specs.Links.{names_of}
use Rattle.cf_links.proofs.CallsRings.{named-at}
use Rattle.cf_links.proofs.recursion.name_at.Goals as goal

pub returns : goal.returns
returns c =
    let models = c.args.models.now in
    IfOk-weaker c.new.result (λ name. name ≡ c.bytes.result.now) (λ name. slice_get (names_of models) c.args.at ≡ Some name)
    (λ name is. named-at models c.args.at _ name c.requires (is ∙ c.bytes.ensures)) c.new.ensures
