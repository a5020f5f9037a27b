use Rattle.std.proofs.Common.{◌≡◌, ◌+◌, ◌-◌, ◌<◌, ℕ, List, Bool, ap, subst, sym, ◌∙◌, arith, length}
use Rattle.std.specs.List.{All}
use Rattle.cf_circuit.specs.Needs.{gate_at, marked}
use Rattle.cf_circuit.proofs.WireLaws.{no_gate, lower_at}
use Rattle.cf_circuit.proofs.NeedLaws.{Needing, needing_more, length-marked, written}
use Rattle.cf_circuit.proofs.needs.needed_wires.Goals as goal

pub mark-requires : goal.mark-requires
mark-requires c =
    let flat = c.args.flat.now in
    let place = c.loop-place.place - 1 in
    let low : place < length flat.gates = omega (arith, c.loop-place-test.true, c.loop-place.auto.place, ap length c.items-gates.ensures) in
    let below = subst (λ (ws : List ℕ). All (λ w. w < length flat.inputs + place) ws)
    (sym (c.read_by.ensures ∙ ap (λ gates. (gate_at gates place).ins) c.items-gates.ensures))
    (lower_at (length flat.inputs) flat.gates c.requires.flat.lower place no_gate low) in
    record { there = λ k d l. omega (arith, below k d l, low, c.loop-place.invariant.full, ap length c.as_mut_slice.ensures.value) }

pub loop-place-preserved-then-index : goal.loop-place-preserved-then-index
loop-place-preserved-then-index c =
    let flat = c.args.flat.now in
    let place = c.loop-place.place - 1 in
    let needed = c.loop-place.needed.items in
    let wires = c.read_by.result.now in
    let low : place < length flat.gates = omega (arith, c.loop-place-test.true, c.loop-place.auto.place, ap length c.items-gates.ensures) in
    let marks : c.mark.new.needed ≡ marked needed wires = c.mark.ensures ∙ ap (λ bs. marked bs wires) c.as_mut_slice.ensures.value in
    let same : length c.mark.new.needed ≡ length needed = ap length marks ∙ length-marked needed wires in
    subst (λ (bs : List Bool). Needing flat bs place)
    (sym (written needed c.mark.new.needed c.loop-place.needed.len (omega (arith, same, c.as_mut_slice.ensures.len, ap length c.as_mut_slice.ensures.value)) same ∙ marks))
    (needing_more flat c.requires.flat needed c.loop-place.place place (omega (arith, c.loop-place-test.true)) low wires
    (c.read_by.ensures ∙ ap (λ gates. (gate_at gates place).ins) c.items-gates.ensures) c.loop-place.invariant)
