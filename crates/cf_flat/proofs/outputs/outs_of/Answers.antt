use Rattle.std.proofs.Common.{◌∙◌, ap, ◌++◌, ◌∷◌, []}
use Rattle.cf_flat.specs.Flattening.{out_at}
use Rattle.cf_flat.proofs.FlatFacts.{map-next}
use Rattle.cf_flat.proofs.outputs.outs_of.Goals as goal

pub loop-n-preserved : goal.loop-n-preserved
loop-n-preserved c =
    map-next (out_at c.args.signals.now c.args.wires.now) c.args.names.now c.loop-n.n c.get.result.now c.loop-n.outs c.push.new.self
    c.get.ensures c.loop-n.invariant (c.in_ok-push.ensures.pushed ∙ ap (λ o. c.loop-n.outs ++ o ∷ []) c.in_ok-out_of.ensures)
