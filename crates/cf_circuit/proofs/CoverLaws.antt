-- Where planes match, from where those do that ask for a 0 of the first wire, for a 1, and for nothing.
use Rattle.std.proofs.Common.{ℕ, ◌≡◌, ◌-◌, ◌<◌, ◌≤◌, Bool, false, List, ◌∷◌, length, Result, Ok, Err, IfOk, sym, ap, subst, ◌∙◌}
use Rattle.std.specs.Prelude.{if◌then◌else◌}
use Rattle.cf_circuits.specs.declared.gates.Cell.{Cell}
use Rattle.cf_circuits.specs.declared.gates.Cover.{Cover}
use Rattle.cf_pkg.specs.Packages.{Package, Keeps}
use Rattle.cf_pkg.proofs.Valued.{Keeps-trans}
use Rattle.cf_circuit.specs.declared.truths.Truth.{Truth}
use Rattle.cf_circuit.specs.Truths.{Tells, IsAt, AreAt, AreAllAt, TellsNot, TellsEither, TellsChoice}
use Rattle.cf_circuit.specs.Planes.{matches_from, AreAllPlaces, AreParted}
use Rattle.cf_circuit.specs.Covers.{Tests, TellWires, AreWiresAt, TellsPlanes, TellsCover, truth_at, at_wires}
use Rattle.cf_circuit.proofs.TruthLaws.{tells_kept}
use Rattle.cf_circuit.proofs.MatchLaws.{off_tells, parted_tells, wires_kept, first_wire, later_wires}

-- wires of a level, later on
pub wires_at : (p q : Package) (truths : List Truth) (wires later : List ℕ) (wire : ℕ) → wires ≡ wire ∷ later → Keeps p q → (l : ℕ) × AreWiresAt p l truths wires
    → (l : ℕ) × AreWiresAt q l truths later
wires_at p q truths wires later wire e k h =
    let told : TellWires p h.0 truths (wire ∷ later) h.1.0 = subst (λ (ws : List ℕ). TellWires p h.0 truths ws h.1.0) e h.1.1 in
    (h.0, (h.1.0, wires_kept p q k h.0 truths later h.1.0 (later_wires p h.0 truths wire later h.1.0 told)))

pub wire_there : (p : Package) (truths : List Truth) (wires later : List ℕ) (wire : ℕ) → wires ≡ wire ∷ later → (l : ℕ) × AreWiresAt p l truths wires → wire < length truths
wire_there p truths wires later wire e h =
    (first_wire p h.0 truths wire later h.1.0 (subst (λ (ws : List ℕ). TellWires p h.0 truths ws h.1.0) e h.1.1)).0

module _ (p p1 p2 p3 : Package) (k1 : Keeps p p1) (k2 : Keeps p1 p2) (k3 : Keeps p2 p3) (planes : List (List Cell)) (width : ℕ) (places zeros ones others : List ℕ) (truths : List Truth)
    (wires later : List ℕ) (wire : ℕ) (e : wires ≡ wire ∷ later) (always one zero : Truth)
    (others_tell : TellsPlanes p p1 planes width others truths later always)
    (ones_tell : TellsPlanes p1 p2 planes width ones truths later one)
    (zeros_tell : TellsPlanes p2 p3 planes width zeros truths later zero) where
  k02 : Keeps p p2
  k02 = Keeps-trans p p1 p2 k1 k2

  k13 : Keeps p1 p3
  k13 = Keeps-trans p1 p2 p3 k2 k3

  k03 : Keeps p p3
  k03 = Keeps-trans p p2 p3 k02 k3

  abbrev at : Tests → List ℕ → List Bool → Bool
  at tests ps a = matches_from planes (width - length later) ps (at_wires tests later a)

  module _ (l : ℕ) (tests : Tests) (told : TellWires p l truths (wire ∷ later) tests) where
    later_told : TellWires p l truths later tests
    later_told = later_wires p l truths wire later tests told

    wire_tells : Tells p3 l (tests wire) (truth_at truths wire)
    wire_tells = tells_kept p p3 k03 l (tests wire) (truth_at truths wire) (first_wire p l truths wire later tests told).1

    always_tells : Tells p3 l (at tests others) always
    always_tells = tells_kept p1 p3 k13 l (at tests others) always (others_tell l tests later_told)

    one_tells : Tells p3 l (at tests ones) one
    one_tells = tells_kept p2 p3 k3 l (at tests ones) one (ones_tell l tests (wires_kept p p1 k1 l truths later tests later_told))

    zero_tells : Tells p3 l (at tests zeros) zero
    zero_tells = zeros_tell l tests (wires_kept p p2 k02 l truths later tests later_told)

  pub choice_at : (l : ℕ) × AreWiresAt p l truths wires → AreAllAt p3 (truth_at truths wire) one zero
  choice_at h =
      let l = h.0 in
      let tests = h.1.0 in
      let told : TellWires p l truths (wire ∷ later) tests = subst (λ (ws : List ℕ). TellWires p l truths ws tests) e h.1.1 in
      (l, (tests wire, wire_tells l tests told), (at tests ones, one_tells l tests told), (at tests zeros, zero_tells l tests told))

  module _ (p4 : Package) (k4 : Keeps p3 p4) (by_wire : Truth) (chooses : TellsChoice p3 p4 (truth_at truths wire) one zero by_wire) where
    abbrev choice : Tests → List Bool → Bool
    choice tests a = if tests wire a then at tests ones a else at tests zeros a

    pub either_at : (l : ℕ) × AreWiresAt p l truths wires → AreAt p4 always by_wire
    either_at h =
        let l = h.0 in
        let tests = h.1.0 in
        let told : TellWires p l truths (wire ∷ later) tests = subst (λ (ws : List ℕ). TellWires p l truths ws tests) e h.1.1 in (
          l,
          (at tests others, tells_kept p3 p4 k4 l (at tests others) always (always_tells l tests told)),
          (choice tests, chooses l (tests wire) (at tests ones) (at tests zeros) (wire_tells l tests told) (one_tells l tests told) (zero_tells l tests told)),
        )

    pub planes_tell : (p5 : Package) (r : Truth) (input : ℕ) → TellsEither p4 p5 always by_wire r → input ≡ width - length wires → length wires ≤ width
        → AreParted planes width input places zeros ones others → TellsPlanes p p5 planes width places truths wires r
    planes_tell p5 r input joins is fits parts l tests told =
        let first : TellWires p l truths (wire ∷ later) tests = subst (λ (ws : List ℕ). TellWires p l truths ws tests) e told in
        subst (λ (ws : List ℕ). Tells p5 l (λ a. matches_from planes (width - length ws) places (at_wires tests ws a)) r) (sym e)
        (parted_tells p5 l planes width places zeros ones others tests wire later r input (is ∙ ap (λ (ws : List ℕ). width - length ws) e) (subst (λ (ws : List ℕ). length ws ≤ width) e fits) parts
        (joins l (at tests others) (choice tests) (tells_kept p3 p4 k4 l (at tests others) always (always_tells l tests first))
        (chooses l (tests wire) (at tests ones) (at tests zeros) (wire_tells l tests first) (one_tells l tests first) (zero_tells l tests first))))

-- what an answer tells, from what another one does
pub if_ok : {T E : Type 0} (result : Result T E) (P Q : T → Type 0) → ((t : T) → P t → Q t) → IfOk result P → IfOk result Q
if_ok (Ok t) P Q f h = f t h
if_ok (Err fault) P Q f h = tt

pub planes_at : (p q : Package) (planes : List (List Cell)) (width : ℕ) (places : List ℕ) (truths : List Truth) (wires : List ℕ) (r : Truth) → TellsPlanes p q planes width places truths wires r
    → (l : ℕ) × AreWiresAt p l truths wires → (l : ℕ) × IsAt q l r
planes_at p q planes width places truths wires r h at =
    (at.0, ((λ a. matches_from planes (width - length wires) places (at_wires at.1.0 wires a)), h at.0 at.1.0 at.1.1))

pub cover_off : (p q r : Package) (cover : Cover) (planes : List (List Cell)) (places given : List ℕ) (truths : List Truth) (wires : List ℕ) (m : Truth) → planes ≡ cover.planes → given ≡ places
    → AreAllPlaces planes places → TellsPlanes p q planes (length wires) given truths wires m → cover.on ≡ false → (t : Truth) → TellsNot q r m t → TellsCover p r cover truths wires t
cover_off p q r cover planes places given truths wires m e same all h off t n l tests told =
    let there : AreAllPlaces cover.planes places = subst (λ (ps : List (List Cell)). AreAllPlaces ps places) e all in
    let tells : TellsPlanes p q cover.planes (length wires) places truths wires m =
    subst (λ (ps : List (List Cell)). TellsPlanes p q ps (length wires) places truths wires m) e (subst (λ (gs : List ℕ). TellsPlanes p q planes (length wires) gs truths wires m) same h) in
    off_tells r l cover places there tests wires t off (n l (λ a. matches_from cover.planes (length wires - length wires) places (at_wires tests wires a)) (tells l tests told))
