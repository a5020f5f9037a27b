use Rattle.std.proofs.Common.{ℕ, ◌-◌, ◌<◌, ◌≤◌, List, length, ap, subst, sym, refl, arith, rules}
use Rattle.std.specs.List.{All}
use Rattle.cf_pkg.proofs.Valued.{Keeps-same, Keeps-trans}
use Rattle.cf_circuit.specs.Truths.{TellsEither}
use Rattle.cf_circuit.specs.Covers.{TellsPlanes}
use Rattle.cf_circuit.specs.Planes.{IsWide, AreParted}
use Rattle.cf_circuit.proofs.CoverLaws.{wires_at, choice_at, either_at, planes_tell, if_ok}
use Rattle.cf_circuit.proofs.covers.+of_planes.Goals as goal

pub of_planes-requires : goal.of_planes-requires
of_planes-requires g c =
    let long = ap length c.in-Some.ensures.cases.0 in
    let wide = subst (λ (ps : List ℕ). All (IsWide c.args.planes.now c.args.width) ps) (sym c.as_slice.ensures) c.in_ok-parts.ensures.wide_others in
    let at = wires_at c.args.pkg.now c.args.pkg.now c.args.truths.now c.args.wires.now c.in-Some.later.now c.in-Some.wire.now c.in-Some.ensures.cases.0 (Keeps-same c.args.pkg.now) c.requires.at in
    let fits : length c.in-Some.later.now ≤ c.args.width = omega (arith, long, c.requires.fits) in
    let falls : length c.in-Some.later.now < length c.args.wires.now = omega (arith, long) in
    search (rules, arith)

pub of_planes-requires-2 : goal.of_planes-requires-2
of_planes-requires-2 g c =
    let long = ap length c.in-Some.ensures.cases.0 in
    let wide = subst (λ (ps : List ℕ). All (IsWide c.args.planes.now c.args.width) ps) (sym c.as_slice-2.ensures) c.in_ok-parts.ensures.wide_ones in
    let at = wires_at c.args.pkg.now c.of_planes.new.pkg c.args.truths.now c.args.wires.now c.in-Some.later.now c.in-Some.wire.now c.in-Some.ensures.cases.0 c.of_planes.ensures.kept c.requires.at in
    let fits : length c.in-Some.later.now ≤ c.args.width = omega (arith, long, c.requires.fits) in
    let falls : length c.in-Some.later.now < length c.args.wires.now = omega (arith, long) in
    search (rules, arith)

pub of_planes-requires-3 : goal.of_planes-requires-3
of_planes-requires-3 g c =
    let long = ap length c.in-Some.ensures.cases.0 in
    let wide = subst (λ (ps : List ℕ). All (IsWide c.args.planes.now c.args.width) ps) (sym c.as_slice-3.ensures) c.in_ok-parts.ensures.wide_zeros in
    let at = wires_at c.args.pkg.now c.of_planes-2.new.pkg c.args.truths.now c.args.wires.now c.in-Some.later.now c.in-Some.wire.now c.in-Some.ensures.cases.0 (Keeps-trans c.args.pkg.now c.of_planes.new.pkg c.of_planes-2.new.pkg c.of_planes.ensures.kept c.of_planes-2.ensures.kept) c.requires.at in
    let fits : length c.in-Some.later.now ≤ c.args.width = omega (arith, long, c.requires.fits) in
    let falls : length c.in-Some.later.now < length c.args.wires.now = omega (arith, long) in
    search (rules, arith)

pub returns-in_err-zero-clause-kept : goal.returns-in_err-zero-clause-kept
returns-in_err-zero-clause-kept g c = Keeps-trans c.args.pkg.now c.of_planes-2.new.pkg c.of_planes-3.new.pkg (Keeps-trans c.args.pkg.now c.of_planes.new.pkg c.of_planes-2.new.pkg c.of_planes.ensures.kept c.of_planes-2.ensures.kept) c.of_planes-3.ensures.kept

pub choice-requires : goal.choice-requires
choice-requires g c = record {
  at = choice_at c.args.pkg.now c.of_planes.new.pkg c.of_planes-2.new.pkg c.of_planes-3.new.pkg c.of_planes.ensures.kept c.of_planes-2.ensures.kept c.of_planes-3.ensures.kept c.args.planes.now c.args.width c.args.places.now c.as_slice-3.result.now c.as_slice-2.result.now c.as_slice.result.now c.args.truths.now c.args.wires.now c.in-Some.later.now c.in-Some.wire.now c.in-Some.ensures.cases.0 c.in_ok-always.always c.in_ok-one.one c.in_ok-zero.zero
      c.in_ok-always.ensures.told c.in_ok-one.ensures.told c.in_ok-zero.ensures.told c.requires.at;
}

pub returns-in_err-by_wire-clause-kept : goal.returns-in_err-by_wire-clause-kept
returns-in_err-by_wire-clause-kept g c = Keeps-trans c.args.pkg.now c.of_planes-3.new.pkg c.choice.new.pkg (Keeps-trans c.args.pkg.now c.of_planes-2.new.pkg c.of_planes-3.new.pkg (Keeps-trans c.args.pkg.now c.of_planes.new.pkg c.of_planes-2.new.pkg c.of_planes.ensures.kept c.of_planes-2.ensures.kept) c.of_planes-3.ensures.kept) c.choice.ensures.kept

pub either-requires : goal.either-requires
either-requires g c = record {
  at = either_at c.args.pkg.now c.of_planes.new.pkg c.of_planes-2.new.pkg c.of_planes-3.new.pkg c.of_planes.ensures.kept c.of_planes-2.ensures.kept c.of_planes-3.ensures.kept c.args.planes.now c.args.width c.args.places.now c.as_slice-3.result.now c.as_slice-2.result.now c.as_slice.result.now c.args.truths.now c.args.wires.now c.in-Some.later.now c.in-Some.wire.now c.in-Some.ensures.cases.0 c.in_ok-always.always c.in_ok-one.one c.in_ok-zero.zero
      c.in_ok-always.ensures.told c.in_ok-one.ensures.told c.in_ok-zero.ensures.told c.choice.new.pkg c.choice.ensures.kept c.in_ok-by_wire.by_wire c.in_ok-by_wire.ensures.told c.requires.at;
}

pub returns-clause-told : goal.returns-clause-told
returns-clause-told g c =
    let input = c.args.width - length c.args.wires.now in
    let parts : AreParted c.args.planes.now c.args.width input c.args.places.now c.as_slice-3.result.now c.as_slice-2.result.now c.as_slice.result.now =
    subst (λ (zs : List ℕ). AreParted c.args.planes.now c.args.width input c.args.places.now zs c.as_slice-2.result.now c.as_slice.result.now) (sym c.as_slice-3.ensures)
    (subst (λ (os : List ℕ). AreParted c.args.planes.now c.args.width input c.args.places.now c.in_ok-parts.parts.zeros.items os c.as_slice.result.now) (sym c.as_slice-2.ensures)
    (subst (λ (ns : List ℕ). AreParted c.args.planes.now c.args.width input c.args.places.now c.in_ok-parts.parts.zeros.items c.in_ok-parts.parts.ones.items ns) (sym c.as_slice.ensures)
    c.in_ok-parts.ensures)) in
    if_ok c.either.result (TellsEither c.choice.new.pkg c.either.new.pkg c.in_ok-always.always c.in_ok-by_wire.by_wire)
    (TellsPlanes c.args.pkg.now c.either.new.pkg c.args.planes.now c.args.width c.args.places.now c.args.truths.now c.args.wires.now)
    (λ r joins. planes_tell c.args.pkg.now c.of_planes.new.pkg c.of_planes-2.new.pkg c.of_planes-3.new.pkg c.of_planes.ensures.kept c.of_planes-2.ensures.kept c.of_planes-3.ensures.kept c.args.planes.now c.args.width c.args.places.now c.as_slice-3.result.now c.as_slice-2.result.now c.as_slice.result.now c.args.truths.now c.args.wires.now c.in-Some.later.now c.in-Some.wire.now c.in-Some.ensures.cases.0 c.in_ok-always.always c.in_ok-one.one c.in_ok-zero.zero
    c.in_ok-always.ensures.told c.in_ok-one.ensures.told c.in_ok-zero.ensures.told c.choice.new.pkg c.choice.ensures.kept c.in_ok-by_wire.by_wire c.in_ok-by_wire.ensures.told
    c.either.new.pkg r input joins refl c.requires.fits parts)
    c.either.ensures.told

pub returns-clause-kept : goal.returns-clause-kept
returns-clause-kept g c = Keeps-trans c.args.pkg.now c.choice.new.pkg c.either.new.pkg (Keeps-trans c.args.pkg.now c.of_planes-3.new.pkg c.choice.new.pkg (Keeps-trans c.args.pkg.now c.of_planes-2.new.pkg c.of_planes-3.new.pkg (Keeps-trans c.args.pkg.now c.of_planes.new.pkg c.of_planes-2.new.pkg c.of_planes.ensures.kept c.of_planes-2.ensures.kept) c.of_planes-3.ensures.kept) c.choice.ensures.kept) c.either.ensures.kept
