-- The wires that outputs need, marked from the last gate to the first.
use Rattle.std.proofs.Common.{ℕ, ◌≡◌, ◌+◌, ◌<◌, ◌≤◌, Bool, true, false, List, [], ◌∷◌, length, get_or, set, take, drop, ◌++◌, refl, sym, ap, subst, ◌∙◌, arith, inl, inr, length-set}
use Rattle.std.specs.List.{All}
use Rattle.std.proofs.Math.Seq.{take-append_seam}
use Rattle.std.proofs.lemmas.Bool.{cases_eq}
use Rattle.std.proofs.lemmas.List.{get_or-set_same, get_or-set_other}
use Rattle.std.proofs.lemmas.List.Elements.{All-head, All-tail, All-cons}
use Rattle.cf_hierarchy.specs.declared.gates.Gate.{Gate}
use Rattle.cf_flat.specs.declared.flat.Flat.{Flat}
use Rattle.cf_flat.specs.declared.flat.Out.{Out}
use Rattle.cf_flat.specs.Flats.{IsFlat}
use Rattle.cf_circuit.specs.Needs.{marked, gate_at, is_needed, IsClosed, AreNeeded}
use Rattle.cf_circuit.proofs.WireLaws.{lower_at}

pub length-marked : (needed : List Bool) (wires : List ℕ) → length (marked needed wires) ≡ length needed
length-marked needed [] = refl
length-marked needed (w ∷ wires) = length-marked (set needed w true) wires ∙ length-set needed w true

-- a marked wire stays so
set_kept : (needed : List Bool) (i w : ℕ) → i < length needed → is_needed needed w ≡ true → is_needed (set needed i true) w ≡ true
set_kept needed i w low h = elim (cases_eq w i) [
  | inl e ↦ ap (λ j. get_or (set needed i true) j false) e ∙ get_or-set_same needed i true false low
  | inr ne ↦ get_or-set_other needed i w true false ne ∙ h
]

pub marked_kept : (needed : List Bool) (wires : List ℕ) → All (λ w. w < length needed) wires → (w : ℕ) → is_needed needed w ≡ true → is_needed (marked needed wires) w ≡ true
marked_kept needed [] there w h = h
marked_kept needed (i ∷ wires) there w h =
    let low = All-head (λ v. v < length needed) i wires there in
    marked_kept (set needed i true) wires (λ k d l. omega (arith, All-tail (λ v. v < length needed) i wires there k d l, length-set needed i true)) w
    (set_kept needed i w low h)

-- all of the list are
pub marked_all : (needed : List Bool) (wires : List ℕ) → All (λ w. w < length needed) wires → All (λ w. is_needed (marked needed wires) w ≡ true) wires
marked_all needed [] there = λ k d l. absurd (omega (arith, l))
marked_all needed (i ∷ wires) there =
    let low = All-head (λ v. v < length needed) i wires there in
    let rest : All (λ v. v < length (set needed i true)) wires = λ k d l. omega (arith, All-tail (λ v. v < length needed) i wires there k d l, length-set needed i true) in
    All-cons (λ w. is_needed (marked needed (i ∷ wires)) w ≡ true) i wires
    (marked_kept (set needed i true) wires rest i (get_or-set_same needed i true false low))
    (marked_all (set needed i true) wires rest)

-- and no other one that is above them
pub marked_above : (needed : List Bool) (wires : List ℕ) (n : ℕ) → All (λ w. w < n) wires → (w : ℕ) → n ≤ w → is_needed (marked needed wires) w ≡ is_needed needed w
marked_above needed [] n below w high = refl
marked_above needed (i ∷ wires) n below w high =
    marked_above (set needed i true) wires n (All-tail (λ v. v < n) i wires below) w high
    ∙ get_or-set_other needed i w true false (λ e. omega (arith, e, high, All-head (λ v. v < n) i wires below))

-- the outputs' wires, as they are marked
pub record Marking (flat : Flat) (needed : List Bool) (k : ℕ) : Type 0 where
  pub full : length needed ≡ length flat.inputs + length flat.gates
  pub outputs : (i : ℕ) (d : Out) → i < k → i < length flat.outputs → is_needed needed (get_or flat.outputs i d).wire ≡ true

-- the gates from the last down to this one are closed
pub record Needing (flat : Flat) (needed : List Bool) (k : ℕ) : Type 0 where
  pub full : length needed ≡ length flat.inputs + length flat.gates
  pub outputs : All (λ out. is_needed needed out.wire ≡ true) flat.outputs
  pub closed : (i : ℕ) → k ≤ i → i < length flat.gates → IsClosed needed (length flat.inputs + i) (gate_at flat.gates i)

pub marking_more : (flat : Flat) → IsFlat flat → (needed : List Bool) (k wire : ℕ) → k < length flat.outputs → ((d : Out) → (get_or flat.outputs k d).wire ≡ wire) → Marking flat needed k → Marking flat (set needed wire true) (k + 1)
marking_more flat is needed k wire low e h = record {
  full = length-set needed wire true ∙ h.full;
  outputs = λ i d less within.
      (let there : wire < length needed = let w = is.wires k (get_or flat.outputs k d) low in let f = h.full in let g = e (get_or flat.outputs k d) in omega (arith, w, f, g) in
      elim (cases_eq i k) [
        | inl q ↦
            subst (λ (v : ℕ). is_needed (set needed wire true) v ≡ true) (sym (ap (λ j. (get_or flat.outputs j d).wire) q ∙ e d))
            (get_or-set_same needed wire true false there)
        | inr ne ↦ set_kept needed wire (get_or flat.outputs i d).wire there (h.outputs i d (omega (arith, less, ne)) within)
      ]);
}

pub needing_none : (flat : Flat) (needed : List Bool) (k m : ℕ) → length flat.outputs ≤ k → length flat.gates ≤ m → Marking flat needed k → Needing flat needed m
needing_none flat needed k m all past h = record {
  full = h.full;
  outputs = λ i d low. h.outputs i d (omega (arith, low, all)) low;
  closed = λ i high low. absurd (omega (arith, past, high, low));
}

-- a gate that isn't needed
pub needing_past : (flat : Flat) (needed : List Bool) (k place : ℕ) → place + 1 ≡ k → is_needed needed (length flat.inputs + place) ≡ false → Needing flat needed k → Needing flat needed place
needing_past flat needed k place e off h = record {
  full = h.full;
  outputs = h.outputs;
  closed = λ i high low.
      elim (cases_eq i place) [
        | inl q ↦ (λ yes. absurd (false-true (sym off ∙ ap (λ j. is_needed needed (length flat.inputs + j)) (sym q) ∙ yes)))
        | inr ne ↦ h.closed i (omega (arith, high, ne, e)) low
      ];
}
  where
    false-true : false ≡ true → ⊥
    false-true x = cc

-- a gate that is needed: so is what it reads
pub needing_more : (flat : Flat) → IsFlat flat → (needed : List Bool) (k place : ℕ) → place + 1 ≡ k → place < length flat.gates → (wires : List ℕ) → wires ≡ (gate_at flat.gates place).ins
    → Needing flat needed k → Needing flat (marked needed wires) place
needing_more flat is needed k place e low wires ins h =
    let n = length flat.inputs in
    let d : Gate = record { ins = []; cover = 0 } in
    let below : All (λ w. w < n + place) wires = subst (λ (ws : List ℕ). All (λ w. w < n + place) ws) (sym ins) (lower_at n flat.gates is.lower place d low) in
    let there : All (λ w. w < length needed) wires = λ j f l. omega (arith, below j f l, h.full, low) in
    record {
      full = length-marked needed wires ∙ h.full;
      outputs = λ i f l. marked_kept needed wires there (get_or flat.outputs i f).wire (h.outputs i f l);
      closed = λ i high within.
          elim (cases_eq i place) [
            | inl q ↦
                (λ yes. subst (λ (ws : List ℕ). All (λ w. is_needed (marked needed wires) w ≡ true) ws) (sym (ap (λ j. (gate_at flat.gates j).ins) q ∙ sym ins)) (marked_all needed wires there))
            | inr ne ↦
                (λ yes j g l.
                marked_kept needed wires there (get_or (gate_at flat.gates i).ins j g)
                (h.closed i (omega (arith, high, ne, e)) within (sym (marked_above needed wires (n + place) below (n + i) (omega (arith, high))) ∙ yes) j g l))
          ];
    }

pub all_needed : (flat : Flat) (needed : List Bool) (k : ℕ) → k ≡ 0 → Needing flat needed k → AreNeeded flat needed
all_needed flat needed k e h = record { full = h.full; outputs = h.outputs; closed = λ i low. h.closed i (omega (arith, e)) low }

-- marks that were written through a slice of all
pub written : (old new : List Bool) (n : ℕ) → n ≡ length new → length new ≡ length old → take n (new ++ drop (length new) old) ≡ new
written old new n long same = ap (λ m. take m (new ++ drop (length new) old)) long ∙ take-append_seam new (drop (length new) old)
