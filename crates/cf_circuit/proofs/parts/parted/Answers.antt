use Rattle.std.proofs.Common.{◌+◌, ℕ, List, subst, sym, drop, get_or, ◌∙◌}
use Rattle.std.proofs.lemmas.List.{drop_more}
use Rattle.cf_circuit.specs.declared.parts.Parts.{Parts}
use Rattle.cf_circuit.proofs.PlaneLaws.{Parting, turn_zero, turn_one, turn_other}
use Rattle.cf_circuit.proofs.parts.parted.Goals.{in-Zero+in_ok-push-in-Zero, in-One+in_ok-push-in-One, in-Any+in_ok-push-in-Any}
use Rattle.cf_circuit.proofs.parts.parted.Goals as goal

pub loop-place-preserved : goal.loop-place-preserved
loop-place-preserved c = elim c.match-cell_of.branch [
  | in-Zero+in_ok-push-in-Zero w ↦
      subst (λ (q : Parts). Parting c.args.planes.now c.args.width c.args.input c.args.places.now q.zeros.items q.ones.items q.others.items (drop (c.loop-place.place-index + 1) c.args.places.now)) (sym w.parts-is)
      (subst (λ (xs : List ℕ). Parting c.args.planes.now c.args.width c.args.input c.args.places.now xs c.loop-place.parts.ones.items c.loop-place.parts.others.items (drop (c.loop-place.place-index + 1) c.args.places.now)) (sym w.in_ok-push-in-Zero.ensures.ok)
      (turn_zero c.args.planes.now c.args.width c.args.input c.requires.within c.args.places.now c.loop-place.parts.zeros.items c.loop-place.parts.ones.items c.loop-place.parts.others.items (drop (c.loop-place.place-index + 1) c.args.places.now)
      (get_or c.args.places.now c.loop-place.place-index 0) (c.requires.wide c.loop-place.place-index 0 c.loop-place-test.true)
      (subst (λ (ls : List ℕ). Parting c.args.planes.now c.args.width c.args.input c.args.places.now c.loop-place.parts.zeros.items c.loop-place.parts.ones.items c.loop-place.parts.others.items ls) (drop_more c.args.places.now c.loop-place.place-index 0 c.loop-place-test.true) c.loop-place.invariant)
      (sym w.in-Zero.is ∙ c.cell_of.ensures)))
  | in-One+in_ok-push-in-One w ↦
      subst (λ (q : Parts). Parting c.args.planes.now c.args.width c.args.input c.args.places.now q.zeros.items q.ones.items q.others.items (drop (c.loop-place.place-index + 1) c.args.places.now)) (sym w.parts-is)
      (subst (λ (xs : List ℕ). Parting c.args.planes.now c.args.width c.args.input c.args.places.now c.loop-place.parts.zeros.items xs c.loop-place.parts.others.items (drop (c.loop-place.place-index + 1) c.args.places.now)) (sym w.in_ok-push-in-One.ensures.ok)
      (turn_one c.args.planes.now c.args.width c.args.input c.requires.within c.args.places.now c.loop-place.parts.zeros.items c.loop-place.parts.ones.items c.loop-place.parts.others.items (drop (c.loop-place.place-index + 1) c.args.places.now)
      (get_or c.args.places.now c.loop-place.place-index 0) (c.requires.wide c.loop-place.place-index 0 c.loop-place-test.true)
      (subst (λ (ls : List ℕ). Parting c.args.planes.now c.args.width c.args.input c.args.places.now c.loop-place.parts.zeros.items c.loop-place.parts.ones.items c.loop-place.parts.others.items ls) (drop_more c.args.places.now c.loop-place.place-index 0 c.loop-place-test.true) c.loop-place.invariant)
      (sym w.in-One.is ∙ c.cell_of.ensures)))
  | in-Any+in_ok-push-in-Any w ↦
      subst (λ (q : Parts). Parting c.args.planes.now c.args.width c.args.input c.args.places.now q.zeros.items q.ones.items q.others.items (drop (c.loop-place.place-index + 1) c.args.places.now)) (sym w.parts-is)
      (subst (λ (xs : List ℕ). Parting c.args.planes.now c.args.width c.args.input c.args.places.now c.loop-place.parts.zeros.items c.loop-place.parts.ones.items xs (drop (c.loop-place.place-index + 1) c.args.places.now)) (sym w.in_ok-push-in-Any.ensures.ok)
      (turn_other c.args.planes.now c.args.width c.args.input c.requires.within c.args.places.now c.loop-place.parts.zeros.items c.loop-place.parts.ones.items c.loop-place.parts.others.items (drop (c.loop-place.place-index + 1) c.args.places.now)
      (get_or c.args.places.now c.loop-place.place-index 0) (c.requires.wide c.loop-place.place-index 0 c.loop-place-test.true)
      (subst (λ (ls : List ℕ). Parting c.args.planes.now c.args.width c.args.input c.args.places.now c.loop-place.parts.zeros.items c.loop-place.parts.ones.items c.loop-place.parts.others.items ls) (drop_more c.args.places.now c.loop-place.place-index 0 c.loop-place-test.true) c.loop-place.invariant)
      (sym w.in-Any.is ∙ c.cell_of.ensures)))
]
