use Rattle.std.proofs.Common.{◌≡◌, ◌+◌, ◌<◌, ℕ, List, true, get_or, length, ap, subst, sym, refl, ◌∙◌, arith, rules}
use Rattle.cf_hierarchy.specs.declared.gates.Gate.{Gate}
use Rattle.cf_pkg.proofs.Valued.{Keeps-trans}
use Rattle.cf_circuit.specs.declared.truths.Truth.{Truth}
use Rattle.cf_circuit.specs.declared.truths.Truth.TheVariants.{Where}
use Rattle.cf_circuit.specs.Covers.{TellWires}
use Rattle.cf_circuit.specs.Needs.{gate_at, is_needed}
use Rattle.cf_circuit.specs.Functions.{wire_test}
use Rattle.cf_circuit.proofs.WireLaws.{no_gate}
use Rattle.cf_circuit.proofs.BuildLaws.{Wired, wired_more, input_tells, gate_reads, gate_done, read_is}
use Rattle.cf_circuit.proofs.outputs.wires_of.Goals as goal

pub returns-in_err-push-2-clause-kept : goal.returns-in_err-push-2-clause-kept
returns-in_err-push-2-clause-kept c = Keeps-trans c.args.pkg.now c.loop-position.pkg c.variable.new.self c.loop-position.invariant.kept c.variable.ensures.kept

pub loop-position-preserved : goal.loop-position-preserved
loop-position-preserved c =
    let flat = c.args.flat.now in
    let i = c.loop-position.position-index in
    let tests = wire_test flat c.args.positions.now in
    subst (λ (ts : List Truth). Wired c.args.pkg.now c.variable.new.self c.args.level tests c.args.needed.now ts (i + 1)) (sym c.in_ok-push-2.ensures.items)
    (wired_more c.args.pkg.now c.loop-position.pkg c.variable.new.self c.args.level tests c.args.needed.now c.loop-position.truths.items i (Where c.in_ok-f.f) c.loop-position.invariant c.variable.ensures.kept
    (λ need. input_tells flat c.requires.flat c.args.level c.args.positions.now c.requires.one_each c.variable.new.self c.in_ok-f.f i (get_or c.args.positions.now i 0) c.loop-position-test.true refl
    c.in_ok-f.ensures.level c.in_ok-f.ensures.means))

pub of_cover-requires-clause-at : goal.of_cover-requires-clause-at
of_cover-requires-clause-at c =
    let flat = c.args.flat.now in
    let i = c.loop-gate.gate-index in
    let n = length flat.inputs in
    let low : i < length flat.gates = omega (arith, c.loop-gate-test.true, ap length c.items-gate-items.ensures) in
    let gate : c.gate-item.result ≡ gate_at flat.gates i = read_is c.items-gate-items.result.now flat.gates i c.gate-item.result no_gate c.loop-gate-test.true c.gate-item.is c.items-gate-items.ensures in
    let need : is_needed c.args.needed.now (n + i) ≡ true = search (rules, arith) in
    let reads = gate_reads flat c.requires.flat c.args.level c.args.positions.now c.requires.one_each c.loop-gate.pkg c.args.needed.now c.loop-gate.truths.items c.requires.needed c.loop-gate.invariant.told
    i low c.loop-gate.invariant.full need in
    let tests = wire_test flat c.args.positions.now in
    let told : TellWires c.loop-gate.pkg c.args.level c.as_slice.result.now c.items.result.now tests =
    subst (λ (ts : List Truth). TellWires c.loop-gate.pkg c.args.level ts c.items.result.now tests) (sym c.as_slice.ensures.value)
    (subst (λ (ws : List ℕ). TellWires c.loop-gate.pkg c.args.level c.loop-gate.truths.items ws tests) (sym (c.items.ensures ∙ ap (λ (x : Gate). x.ins) gate)) reads) in
    (c.args.level, (tests, told))

pub returns-in_err-truth-clause-kept : goal.returns-in_err-truth-clause-kept
returns-in_err-truth-clause-kept c = Keeps-trans c.args.pkg.now c.loop-gate.pkg c.of_cover.new.pkg c.loop-gate.invariant.kept c.of_cover.ensures.kept

pub returns-in_err-push-4-clause-kept : goal.returns-in_err-push-4-clause-kept
returns-in_err-push-4-clause-kept c = Keeps-trans c.args.pkg.now c.loop-gate.pkg c.of_cover.new.pkg c.loop-gate.invariant.kept c.of_cover.ensures.kept

pub loop-gate-preserved : goal.loop-gate-preserved
loop-gate-preserved c =
    let flat = c.args.flat.now in
    let i = c.loop-gate.gate-index in
    let n = length flat.inputs in
    let low : i < length flat.gates = omega (arith, c.loop-gate-test.true, ap length c.items-gate-items.ensures) in
    let gate : c.gate-item.result ≡ gate_at flat.gates i = read_is c.items-gate-items.result.now flat.gates i c.gate-item.result no_gate c.loop-gate-test.true c.gate-item.is c.items-gate-items.ensures in
    let need : is_needed c.args.needed.now (n + i) ≡ true = search (rules, arith) in
    let reads = gate_reads flat c.requires.flat c.args.level c.args.positions.now c.requires.one_each c.loop-gate.pkg c.args.needed.now c.loop-gate.truths.items c.requires.needed c.loop-gate.invariant.told
    i low c.loop-gate.invariant.full need in
    let tests = wire_test flat c.args.positions.now in
    let next : (n + i) + 1 ≡ n + (i + 1) = omega arith in
    subst (λ (k : ℕ). Wired c.args.pkg.now c.of_cover.new.pkg c.args.level tests c.args.needed.now c.push-in-loop-gate.new.self.items k) next
    (subst (λ (ts : List Truth). Wired c.args.pkg.now c.of_cover.new.pkg c.args.level tests c.args.needed.now ts ((n + i) + 1)) (sym c.in_ok-push-4.ensures.items)
    (wired_more c.args.pkg.now c.loop-gate.pkg c.of_cover.new.pkg c.args.level tests c.args.needed.now c.loop-gate.truths.items (n + i) c.in_ok-truth.truth c.loop-gate.invariant c.of_cover.ensures.kept
    (λ needs. gate_done flat c.requires.flat c.args.level c.args.positions.now c.requires.one_each c.loop-gate.pkg c.of_cover.new.pkg c.loop-gate.truths.items c.as_slice.result.now c.cover_of-cover.result.now
    c.items.result.now c.gate-item.result c.in_ok-truth.truth i low c.cover_of-cover.ensures c.items.ensures gate c.as_slice.ensures.value c.in_ok-truth.ensures.told reads)))
