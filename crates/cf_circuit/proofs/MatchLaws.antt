-- Where planes of covers match, by where the wires are 1 that they read.
use Rattle.std.proofs.Common.{ℕ, suc, ◌≡◌, ◌-◌, ◌<◌, ◌≤◌, Bool, true, false, not, ◌||◌, List, ◌∷◌, length, get_or, sym, ap, ◌∙◌, arith}
use Rattle.std.specs.Prelude.{if◌then◌else◌}
use Rattle.std.proofs.lemmas.List.Elements.{All-head}
use Rattle.cf_circuits.specs.declared.gates.Cell.{Cell}
use Rattle.cf_circuits.specs.declared.gates.Cover.{Cover}
use Rattle.cf_circuits.specs.Covers.{cover_value}
use Rattle.cf_pkg.specs.Packages.{Package, Keeps}
use Rattle.cf_circuit.specs.declared.truths.Truth.{Truth}
use Rattle.cf_circuit.specs.Truths.{Test, Tells}
use Rattle.cf_circuit.specs.Planes.{some_matches, matches_from, AreAllPlaces, AreParted}
use Rattle.cf_circuit.specs.Covers.{Tests, TellWires, truth_at, at_wires}
use Rattle.cf_circuit.proofs.TruthLaws.{tells_kept, tells_same}

-- where planes match that were parted
pub parted_tells : (p : Package) (l : ℕ) (planes : List (List Cell)) (width : ℕ) (places zeros ones others : List ℕ) (tests : Tests) (wire : ℕ) (later : List ℕ) (r : Truth) (input : ℕ)
    → input ≡ width - length (wire ∷ later) → length (wire ∷ later) ≤ width
    → AreParted planes width input places zeros ones others
    → Tells p l (λ a. matches_from planes (width - length later) others (at_wires tests later a)
    || (if tests wire a then matches_from planes (width - length later) ones (at_wires tests later a) else matches_from planes (width - length later) zeros (at_wires tests later a))) r
    → Tells p l (λ a. matches_from planes (width - length (wire ∷ later)) places (at_wires tests (wire ∷ later) a)) r
parted_tells p l planes width places zeros ones others tests wire later r input e fits parts h =
    let next : suc input ≡ width - length later = omega (arith, e, fits) in
    let parted : ℕ → Test = λ i a. matches_from planes i others (at_wires tests later a)
    || (if tests wire a then matches_from planes i ones (at_wires tests later a) else matches_from planes i zeros (at_wires tests later a)) in
    tells_same p l (parted (width - length later)) (λ a. matches_from planes (width - length (wire ∷ later)) places (at_wires tests (wire ∷ later) a)) r h
    (λ a is.
    ap (λ i. parted i a) (sym next)
    ∙ sym (parts.match (tests wire a) (at_wires tests later a))
    ∙ ap (λ i. matches_from planes i places (at_wires tests (wire ∷ later) a)) e)

-- the wires of a package that grows
pub wires_kept : (p q : Package) → Keeps p q → (l : ℕ) (truths : List Truth) (wires : List ℕ) (tests : Tests) → TellWires p l truths wires tests → TellWires q l truths wires tests
wires_kept p q k l truths wires tests h i d low =
    let at = h i d low in (at.0, tells_kept p q k l (tests (get_or wires i d)) (truth_at truths (get_or wires i d)) at.1)

-- the first wire and the later ones
pub first_wire : (p : Package) (l : ℕ) (truths : List Truth) (wire : ℕ) (later : List ℕ) (tests : Tests) → TellWires p l truths (wire ∷ later) tests
    → (wire < length truths) × Tells p l (tests wire) (truth_at truths wire)
first_wire p l truths wire later tests h = All-head (λ w. (w < length truths) × Tells p l (tests w) (truth_at truths w)) wire later h

pub later_wires : (p : Package) (l : ℕ) (truths : List Truth) (wire : ℕ) (later : List ℕ) (tests : Tests) → TellWires p l truths (wire ∷ later) tests → TellWires p l truths later tests
later_wires p l truths wire later tests h i d low = h (suc i) d (omega (arith, low))

-- where a cover is 1, from where one of its planes matches
on_is : (s b : Bool) → b ≡ true → s ≡ (if s then b else not b)
on_is true b e = sym e
on_is false b e = sym (ap not e)

off_is : (s b : Bool) → b ≡ false → not s ≡ (if s then b else not b)
off_is true b e = sym e
off_is false b e = sym (ap not e)

same_width : (width : ℕ) → width - width ≡ 0
same_width width = omega arith

module _ (p : Package) (l : ℕ) (cover : Cover) (places : List ℕ) (all : AreAllPlaces cover.planes places) (tests : Tests) (wires : List ℕ) (r : Truth) where
  matched_is : (a : List Bool) → matches_from cover.planes (length wires - length wires) places (at_wires tests wires a) ≡ some_matches cover.planes (at_wires tests wires a)
  matched_is a = ap (λ i. matches_from cover.planes i places (at_wires tests wires a)) (same_width (length wires)) ∙ all.match (at_wires tests wires a)

  pub on_tells : cover.on ≡ true → Tells p l (λ a. matches_from cover.planes (length wires - length wires) places (at_wires tests wires a)) r
      → Tells p l (λ a. cover_value cover (at_wires tests wires a)) r
  on_tells e h = tells_same p l _ (λ a. cover_value cover (at_wires tests wires a)) r h (λ a is. matched_is a ∙ on_is (some_matches cover.planes (at_wires tests wires a)) cover.on e)

  pub off_tells : cover.on ≡ false → Tells p l (λ a. not (matches_from cover.planes (length wires - length wires) places (at_wires tests wires a))) r
      → Tells p l (λ a. cover_value cover (at_wires tests wires a)) r
  off_tells e h =
      tells_same p l _ (λ a. cover_value cover (at_wires tests wires a)) r h
      (λ a is. ap not (matched_is a) ∙ off_is (some_matches cover.planes (at_wires tests wires a)) cover.on e)
