use Rattle.std.proofs.Common.{ap, ◌∙◌}
use Rattle.cf_circuits.specs.Links.{driven}
use Rattle.cf_links.proofs.SignalLaws.{again-repeated}
use Rattle.cf_links.proofs.signals.twice_driven.Goals as goal

pub returns : goal.returns
returns c = ap (λ d. d.again) c.in_ok-driven.ensures ∙ again-repeated (driven c.args.directory.now c.args.model.now)
