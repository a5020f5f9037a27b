use Rattle.std.proofs.Common.{ap, sym, ◌∙◌}
use Rattle.cf_circuits.specs.declared.pins.Pin.{Pin}
use Rattle.cf_names.specs.Numbers.{number_of}
use Rattle.cf_blocks.proofs.CallLaws.{actual-found, actual-missing}
use Rattle.cf_blocks.proofs.calls.actual_of.Goals as goal

pub returns-in-Some : goal.returns-in-Some
returns-in-Some c =
    c.bytes.ensures ∙ ap (λ (p : Pin). p.actual) (sym c.index-pins-place.is)
    ∙ actual-found c.args.pins.now c.args.name.now c.in-Some.place c.index-pins-place.result
    (ap (λ book. number_of book c.args.name.now) (sym c.requires) ∙ sym c.find.ensures.number ∙ c.in-Some.is)
    c.index-pins-place.is

pub returns-in-None : goal.returns-in-None
returns-in-None c =
    sym (actual-missing c.args.pins.now c.args.name.now
    (ap (λ book. number_of book c.args.name.now) (sym c.requires) ∙ sym c.find.ensures.number ∙ c.in-None.is))
