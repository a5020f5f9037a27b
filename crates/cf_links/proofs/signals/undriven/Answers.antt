use Rattle.std.proofs.Common.{sym, ◌∙◌}
use Rattle.cf_links.proofs.SignalLaws.{use-begun, use-found, use-driven, outputs-left}
use Rattle.cf_links.proofs.signals.undriven.Goals as goal

pub loop-part-init : goal.loop-part-init
loop-part-init c =
    use-begun c.args.directory.now c.args.model.now c.in_ok-driven.driven c.new-parts.result
    c.in_ok-driven.ensures c.new-parts.ensures

pub returns-in-Some-2 : goal.returns-in-Some-2
returns-in-Some-2 c =
    use-found c.args.directory.now _ c.loop-part.parts c.next.new.self _ c.args.model.now.outputs _ _
    c.loop-part.invariant c.in-Some.ensures.first (sym c.in-Some-2.is ∙ c.in_ok-name.ensures)

pub loop-part-preserved : goal.loop-part-preserved
loop-part-preserved c =
    use-driven c.args.directory.now _ c.loop-part.parts c.next.new.self _ c.args.model.now.outputs _
    c.loop-part.invariant c.in-Some.ensures.first (sym c.in_default-2.is ∙ c.in_ok-name.ensures)

pub returns : goal.returns
returns c = outputs-left c.args.directory.now _ c.loop-part.parts c.items.result.now c.args.model.now.outputs _ c.first_lacking.result
    c.loop-part.invariant c.in_default.ensures.none c.items.ensures c.first_lacking.ensures
