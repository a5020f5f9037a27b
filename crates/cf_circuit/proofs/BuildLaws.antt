-- The wires of a circuit and the functions of its outputs, as they are added.
use Rattle.std.proofs.Common.{ℕ, ◌≡◌, ◌+◌, ◌<◌, Bool, true, false, List, [], ◌∷◌, ◌++◌, length, get_or, sym, ap, subst, ◌∙◌, arith, inl, inr, Some}
use Rattle.std.specs.List.{slice_get}
use Rattle.std.proofs.lemmas.Option.{slice_get-get_or, slice_get_within, get_or_from_slice_get}
use Rattle.std.proofs.lemmas.List.{get_or_default, get_or-map, get_or_push, length_push, length-map, get_or_append_left}
use Rattle.std.proofs.lemmas.Bool.{cases_lt}
use Rattle.cf_model.specs.Assignments.{bit_at}
use Rattle.cf_model.specs.FlatFunctions.{variable}
use Rattle.cf_model.specs.Terms.{truth}
use Rattle.cf_hierarchy.specs.declared.gates.Gate.{Gate}
use Rattle.cf_hierarchy.proofs.Values.{wire_first}
use Rattle.cf_flat.specs.declared.flat.Flat.{Flat}
use Rattle.cf_flat.specs.declared.flat.Out.{Out}
use Rattle.cf_flat.specs.Flats.{IsFlat, means_of, cover_at}
use Rattle.cf_circuits.specs.declared.gates.Cover.{Cover}
use Rattle.cf_circuits.specs.Covers.{cover_value}
use Rattle.cf_pkg.specs.declared.Func.{Func}
use Rattle.cf_pkg.specs.Packages.{Package, Keeps, Means}
use Rattle.cf_pkg.proofs.Valued.{Keeps-trans}
use Rattle.cf_pkg.proofs.Finishing.{means_has, values_kept}
use Rattle.cf_circuit.specs.declared.truths.Truth.{Truth}
use Rattle.cf_circuit.specs.declared.truths.Truth.TheVariants.{Never, Where}
use Rattle.cf_circuit.specs.Truths.{Tells, Shows}
use Rattle.cf_circuit.specs.Covers.{Tests, TellWires, TellsCover, truth_at, at_wires}
use Rattle.cf_circuit.specs.Needs.{gate_at, is_needed, AreNeeded}
use Rattle.cf_circuit.specs.Functions.{bits_at, wire_test, AreTold}
use Rattle.cf_circuit.proofs.TruthLaws.{tells_kept, tells_same}
use Rattle.cf_circuit.proofs.WireLaws.{no_gate, lower_at, wire_of_gate}

-- as wires are added: those that are needed are told
pub record Wired (before now : Package) (l : ℕ) (tests : Tests) (needed : List Bool) (truths : List Truth) (k : ℕ) : Type 0 where
  pub full : length truths ≡ k
  pub told : AreTold now l tests needed truths
  pub kept : Keeps before now

pub wired_more : (p q r : Package) (l : ℕ) (tests : Tests) (needed : List Bool) (truths : List Truth) (k : ℕ) (t : Truth) → Wired p q l tests needed truths k → Keeps q r
    → (is_needed needed k ≡ true → Tells r l (tests k) t) → Wired p r l tests needed (truths ++ t ∷ []) (k + 1)
wired_more p q r l tests needed truths k t h keeps new = record {
  full = omega (arith, length_push truths t, h.full);
  told = λ w low need.
      elim (cases_lt w (length truths)) [
        | inl lt ↦
            subst (λ (u : Truth). Tells r l (tests w) u) (sym (get_or_append_left truths (t ∷ []) Never w lt))
            (tells_kept q r keeps l (tests w) (truth_at truths w) (h.told w lt need))
        | inr ge ↦
            (let at : w ≡ k = omega (arith, length_push truths t, h.full, low, ge) in
            subst (λ (u : Truth). Tells r l (tests w) u) (sym (get_or_push truths t Never w (omega (arith, h.full, at))))
            (subst (λ (v : ℕ). Tells r l (tests v) t) (sym at) (new (subst (λ (v : ℕ). is_needed needed v ≡ true) at need))))
      ];
  kept = Keeps-trans p q r h.kept keeps;
}

module _ (flat : Flat) (is_flat : IsFlat flat) (l : ℕ) (positions : List ℕ) (one_each : length positions ≡ length flat.inputs) where
  abbrev tests : Tests
  tests = wire_test flat positions

  long : (a : List Bool) → length (bits_at positions a) ≡ length flat.inputs
  long a = length-map positions (bit_at a) ∙ one_each

  -- an input's wire
  pub input_tells : (q : Package) (f : Func) (i position : ℕ) → i < length positions → position ≡ get_or positions i 0 → f.head.level ≡ l → Means q f (variable l position)
      → Tells q l (tests i) (Where f)
  input_tells q f i position low e level m =
      tells_same q l (λ a. bit_at a position) (tests i) (Where f) (means_has q f l _ level m)
      (λ a is.
      ap (bit_at a) e
      ∙ sym (get_or-map (bit_at a) positions i 0 false low)
      ∙ sym (wire_first (means_of flat.covers) (bits_at positions a) flat.gates i (omega (arith, long a, one_each, low))))

  -- what a gate reads is told, if its wire is needed
  pub gate_reads : (p : Package) (needed : List Bool) (truths : List Truth) → AreNeeded flat needed → AreTold p l tests needed truths → (i : ℕ) → i < length flat.gates
      → length truths ≡ length flat.inputs + i → is_needed needed (length flat.inputs + i) ≡ true → TellWires p l truths (gate_at flat.gates i).ins tests
  gate_reads p needed truths are told i low full need j e within =
      let w = get_or (gate_at flat.gates i).ins j e in
      let lower = lower_at (length flat.inputs) flat.gates is_flat.lower i no_gate low j e within in
      let there : w < length truths = omega (arith, full, lower) in
      (there, told w there (are.closed i low need j e within))

  -- and so is its wire
  pub gate_tells : (q : Package) (i : ℕ) (r : Truth) → i < length flat.gates
      → Tells q l (λ a. cover_value (cover_at flat.covers (gate_at flat.gates i).cover) (at_wires tests (gate_at flat.gates i).ins a)) r
      → Tells q l (tests (length flat.inputs + i)) r
  gate_tells q i r low h =
      tells_same q l _ (tests (length flat.inputs + i)) r h
      (λ a is. sym (wire_of_gate (means_of flat.covers) (length flat.inputs) (bits_at positions a) flat.gates (long a) is_flat.lower i no_gate low))

  -- from the code's view of a gate
  pub gate_done : (p q : Package) (truths given : List Truth) (cover : Cover) (wires : List ℕ) (gate : Gate) (r : Truth) (i : ℕ) → i < length flat.gates
      → cover ≡ cover_at flat.covers gate.cover → wires ≡ gate.ins → gate ≡ gate_at flat.gates i → given ≡ truths → TellsCover p q cover given wires r
      → TellWires p l truths (gate_at flat.gates i).ins tests → Tells q l (tests (length flat.inputs + i)) r
  gate_done p q truths given cover wires gate r i low is_cover is_wires is_gate same h told =
      let c : cover ≡ cover_at flat.covers (gate_at flat.gates i).cover = is_cover ∙ ap (λ (x : Gate). cover_at flat.covers x.cover) is_gate in
      let w : wires ≡ (gate_at flat.gates i).ins = is_wires ∙ ap (λ (x : Gate). x.ins) is_gate in
      let tells = subst (λ (ts : List Truth). TellsCover p q (cover_at flat.covers (gate_at flat.gates i).cover) ts (gate_at flat.gates i).ins r) same
      (subst (λ (ws : List ℕ). TellsCover p q (cover_at flat.covers (gate_at flat.gates i).cover) given ws r) w
      (subst (λ (x : Cover). TellsCover p q x given wires r) c h)) in
      gate_tells q i r low (tells l tests told)

-- an item that was read
pub read_is : {A : Type 0} (xs ys : List A) (i : ℕ) (x d : A) → i < length xs → x ≡ get_or xs i x → xs ≡ ys → x ≡ get_or ys i d
read_is xs ys i x d low e same = e ∙ get_or_default xs i x d low ∙ ap (λ zs. get_or zs i d) same

-- as functions of outputs are added
pub record Shown (before now : Package) (l : ℕ) (flat : Flat) (positions : List ℕ) (needed : List Bool) (truths : List Truth) (fs : List Func) (k : ℕ) : Type 0 where
  pub full : length fs ≡ k
  pub told : AreTold now l (wire_test flat positions) needed truths
  pub shown : (i : ℕ) (f : Func) (out : Out) → slice_get fs i ≡ Some f → slice_get flat.outputs i ≡ Some out → Shows now l (wire_test flat positions out.wire) f
  pub kept : Keeps before now

told_kept : (p q : Package) → Keeps p q → (l : ℕ) (tests : Tests) (needed : List Bool) (truths : List Truth) → AreTold p l tests needed truths → AreTold q l tests needed truths
told_kept p q k l tests needed truths h w low need = tells_kept p q k l (tests w) (truth_at truths w) (h w low need)

pub shown_more : (p q r : Package) (l : ℕ) (flat : Flat) (positions : List ℕ) (needed : List Bool) (truths : List Truth) (fs : List Func) (k : ℕ) (f : Func) (wire : ℕ)
    → ((d : Out) → (get_or flat.outputs k d).wire ≡ wire) → Shown p q l flat positions needed truths fs k → Keeps q r → Shows r l (wire_test flat positions wire) f
    → Shown p r l flat positions needed truths (fs ++ f ∷ []) (k + 1)
shown_more p q r l flat positions needed truths fs k f wire is h keeps new = record {
  full = omega (arith, length_push fs f, h.full);
  told = told_kept q r keeps l (wire_test flat positions) needed truths h.told;
  shown = λ i g out at_f at_out.
      (let low : i < length (fs ++ f ∷ []) = slice_get_within (fs ++ f ∷ []) i g at_f in
      let of : g ≡ get_or (fs ++ f ∷ []) i f = sym (get_or_from_slice_get (fs ++ f ∷ []) i g f at_f) in
      elim (cases_lt i (length fs)) [
        | inl lt ↦
            (let same : get_or (fs ++ f ∷ []) i f ≡ get_or fs i f = get_or_append_left fs (f ∷ []) f i lt in
            let old = h.shown i (get_or fs i f) out (slice_get-get_or fs i f lt) at_out in
            subst (λ (x : Func). Shows r l (wire_test flat positions out.wire) x) (sym (of ∙ same))
            (values_kept q r keeps (get_or fs i f) l (λ a. Some (truth (wire_test flat positions out.wire a))) old))
        | inr ge ↦
            (let at : i ≡ k = omega (arith, length_push fs f, h.full, low, ge) in
            let last : g ≡ f = of ∙ get_or_push fs f f i (omega (arith, h.full, at)) in
            let w : wire ≡ out.wire = sym (is out) ∙ ap (λ j. (get_or flat.outputs j out).wire) (sym at) ∙ ap (λ (o : Out). o.wire) (get_or_from_slice_get flat.outputs i out out at_out) in
            subst (λ (x : Func). Shows r l (wire_test flat positions out.wire) x) (sym last)
            (subst (λ (v : ℕ). Shows r l (wire_test flat positions v) f) w new))
      ]);
  kept = Keeps-trans p q r h.kept keeps;
}
