use Rattle.cf_links.proofs.SignalLaws.{inputs-driven, part-driven}
use Rattle.cf_links.proofs.signals.signals_driven.Goals as goal

pub loop-part-init : goal.loop-part-init
loop-part-init c =
    inputs-driven c.args.directory.now c.args.model.now c.new.result c.items.result.now c.drive_all.new.self c.new-parts.result
    c.new.ensures c.items.ensures c.in_ok-drive_all.ensures c.new-parts.ensures

pub loop-part-preserved : goal.loop-part-preserved
loop-part-preserved c =
    part-driven c.args.directory.now c.loop-part.driven c.drive_part.new.self c.loop-part.parts c.next.new.self _ _
    c.loop-part.invariant c.in-Some.ensures.first c.in_ok-drive_part.ensures
