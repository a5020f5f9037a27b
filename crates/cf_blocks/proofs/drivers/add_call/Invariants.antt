use Rattle.std.proofs.Common.{◌≡◌, ◌++◌, drop, get_or}
use Rattle.cf_circuits.specs.Links.{is_output, no_model}
use Rattle.cf_blocks.specs.Numbering.{backs_of, number}
use Rattle.cf_blocks.proofs.drivers.add_call.Given as goal

abbrev pub invariant-loop-pin : goal.invariant-loop-pin
invariant-loop-pin l =
    let callee = get_or l.numbers l.callee no_model in
    l.drivers ++ backs_of (is_output callee) (number l.numbers callee) l.place (drop l.pin-index l.pins)
    ≡ l.initial.drivers ++ backs_of (is_output callee) (number l.numbers callee) l.place l.pins
