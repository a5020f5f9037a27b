use Rattle.std.proofs.Common.{◌≡◌, ℕ, ◌+◌, ◌<◌, ◌≤◌, List, [], ◌∷◌, Bool, false, Option, Some, length, get_or, set, map, refl, sym, ap, ◌∙◌, subst, inl, inr, arith, length-take, length-set}
use Rattle.std.specs.List.{slice_get, All, Contains}
use Rattle.std.specs.Prelude.{slice_index}
use Rattle.std.specs.Option.{option_map}
use Rattle.std.proofs.lemmas.Bool.{cases_eq}
use Rattle.std.proofs.lemmas.List.{get_or_default, get_or-map, get_or-take, get_or-set_same, get_or-set_other, length-map, length_push}
use Rattle.std.proofs.lemmas.List.Elements.{All-map, All-push}
use Rattle.std.proofs.lemmas.Option.{slice_get-get_or}
use Rattle.cf_order.specs.Orders.{row, IsOrder}
use Rattle.cf_hierarchy.specs.declared.gates.Gate.{Gate}
use Rattle.cf_hierarchy.specs.declared.gates.Node.{Node}
use Rattle.cf_hierarchy.specs.declared.gates.Node.TheVariants as node
use Rattle.cf_hierarchy.specs.Circuits.{needs, IsNode, Meaning, value_at, cval, UsesLower, wire_values, IsGateOf, Shows, AddsNode}
use Rattle.cf_hierarchy.proofs.Values.{cval_up, cval_step, all_known, UsesLower-push, wire_first, wire_kept, wire_new}

-- the first signals of the order have their wires, and these show them
pub record Wired (nodes : List Node) (order : List ℕ) (n : ℕ) (gates : List Gate) (wires : List ℕ)
    (k : ℕ) : Type 0 where
  pub full : length wires ≡ length nodes
  pub few : length gates ≤ k
  pub lower : UsesLower n gates
  pub made : All (IsGateOf nodes) gates
  pub below : (i : ℕ) → i < k → get_or wires (get_or order i 0) 0 < n + length gates
  pub shows : (means : Meaning) (bits : List Bool) → length bits ≡ n → (i : ℕ) → i < k
      → cval means nodes bits k (get_or order i 0) ≡ Some
      (get_or (wire_values means bits gates) (get_or wires (get_or order i 0) 0) false)

-- the needs of the next signal are among those before it
pub needs_before : (nodes : List Node) (order : List ℕ) → IsOrder (map needs nodes) order → (k : ℕ)
    → k < length order → (x : Node) → x ≡ get_or nodes (get_or order k 0) x
    → All (λ t. (i : ℕ) × (i < k) × (get_or order i 0 ≡ t)) (needs x)
needs_before nodes order is k h x e i d l =
    let s = get_or order k 0 in
    let in' : s < length nodes = omega (arith, is.within k h, length-map nodes needs) in
    let row_is : row (map needs nodes) s ≡ needs x = get_or-map needs nodes s x [] in' ∙ ap needs
    (sym e) in
    let t = get_or (needs x) i d in
    let c = is.after k h t (subst (λ xs. Contains xs t) (sym row_is)
    (i, l, get_or_default (needs x) i t d l)) in
    let low : c.0 < k = omega (arith, length-take k order, c.1) in (
      c.0,
      low,
      get_or_default order c.0 0 t (omega (arith, h, low)) ∙ sym
          (get_or-take k order c.0 t low) ∙ c.2,
    )

map-map : {A B C : Type 0} (f : A → B) (g : B → C) (xs : List A)
    → map g (map f xs) ≡ map (λ x. g (f x)) xs
map-map f g [] = refl
map-map f g (x ∷ xs) = ap (λ ys. g (f x) ∷ ys) (map-map f g xs)

-- a wire for each need
module _ (means : Meaning) (bits : List Bool) (n : ℕ) (wires : List ℕ) (old new : List Gate) (w : ℕ)
    (inputs : length bits ≡ n) (at : ℕ → Option Bool) where
  value_known : (x : Node) → IsNode n x → AddsNode n wires old new w x
      → All (λ t. at t ≡ Some (get_or (wire_values means bits old) (get_or wires t 0) false))
      (needs x)
      → value_at means bits at x ≡ Some (get_or (wire_values means bits new) w false)
  value_known (node.Input i) is (e, f) known =
      let h : i < length bits = omega (arith, is, inputs) in
      slice_get-get_or bits i false h ∙ ap Some (sym (wire_first means bits new i h)) ∙ ap
      (λ j. Some (get_or (wire_values means bits new) j false)) (sym e)
  value_known (node.Alias t) is (e, f) known = known 0 0 (omega arith) ∙ ap
      (λ j. Some (get_or (wire_values means bits old) j false)) (sym e) ∙ ap
      (λ gs. Some (get_or (wire_values means bits gs) w false)) (sym f)
  value_known (node.Output g) is (e, f) known =
      let read : ℕ → Bool = λ t. get_or (wire_values means bits old) (get_or wires t 0) false in
      let gate : Gate = record { ins = map (slice_index wires) g.ins; cover = g.cover } in
      let ins : map (λ w. get_or (wire_values means bits old) w false) gate.ins ≡ map read g.ins =
      map-map (slice_index wires) (λ w. get_or (wire_values means bits old) w false) g.ins in
      let z : w ≡ length bits + length old = omega (arith, e, inputs) in
      ap (option_map (means g.cover)) (all_known at read g.ins known)
      ∙ ap (λ bs. Some (means g.cover bs)) (sym ins)
      ∙ ap Some (sym (wire_new means bits old gate w z))
      ∙ ap (λ gs. Some (get_or (wire_values means bits gs) w false)) (sym f)

-- what the gates keep when a node comes
adds_longer : (n : ℕ) (wires : List ℕ) (old new : List Gate) (w : ℕ) (x : Node)
    → AddsNode n wires old new w x → (length old ≤ length new) × (length new ≤ length old + 1)
adds_longer n wires old new w (node.Input i) (e, f) =
    (omega (arith, ap length f), omega (arith, ap length f))
adds_longer n wires old new w (node.Alias i) (e, f) =
    (omega (arith, ap length f), omega (arith, ap length f))
adds_longer n wires old new w (node.Output g) (e, f) =
    let l = ap length f ∙ length_push old (record
    { ins = map (slice_index wires) g.ins; cover = g.cover }) in
    (omega (arith, l), omega (arith, l))

adds_kept : (means : Meaning) (bits : List Bool) (n : ℕ) (wires : List ℕ) (old new : List Gate)
    (w : ℕ) (x : Node) → AddsNode n wires old new w x → length bits ≡ n → (v : ℕ)
    → v < n + length old
    → get_or (wire_values means bits new) v false ≡ get_or (wire_values means bits old) v false
adds_kept means bits n wires old new w (node.Input i) (e, f) inputs v h = ap
    (λ gs. get_or (wire_values means bits gs) v false) f
adds_kept means bits n wires old new w (node.Alias i) (e, f) inputs v h = ap
    (λ gs. get_or (wire_values means bits gs) v false) f
adds_kept means bits n wires old new w (node.Output g) (e, f) inputs v h =
    ap (λ gs. get_or (wire_values means bits gs) v false) f ∙ wire_kept means bits old
    (record { ins = map (slice_index wires) g.ins; cover = g.cover }) v
    (omega (arith, h, inputs))

adds_lower : (n : ℕ) (wires : List ℕ) (old new : List Gate) (w : ℕ) (x : Node)
    → AddsNode n wires old new w x → IsNode n x
    → All (λ t. get_or wires t 0 < n + length old) (needs x) → UsesLower n old
    → UsesLower n new × (w < n + length new)
adds_lower n wires old new w (node.Input i) (e, f) is known lower =
    (subst (UsesLower n) (sym f) lower, omega (arith, e, is))
adds_lower n wires old new w (node.Alias t) (e, f) is known lower = let k = known 0 0 (omega arith)
    in (subst (UsesLower n) (sym f) lower, omega (arith, e, k, ap length f))
adds_lower n wires old new w (node.Output g) (e, f) is known lower =
    let gate : Gate = record { ins = map (slice_index wires) g.ins; cover = g.cover } in
    let ins : All (λ w. w < n + length old) gate.ins = All-map (λ w. w < n + length old)
    (slice_index wires) g.ins known in (
      subst (UsesLower n) (sym f) (UsesLower-push n old gate lower ins),
      omega
          (arith, e, ap length f ∙ length_push old gate),
    )

-- a gate that is added is that of its node
adds_made : (nodes : List Node) (n : ℕ) (wires : List ℕ) (old new : List Gate) (w s : ℕ) (x : Node)
    → AddsNode n wires old new w x → slice_get nodes s ≡ Some x → All (IsGateOf nodes) old
    → All (IsGateOf nodes) new
adds_made nodes n wires old new w s (node.Input i) (e, f) at made = subst (All (IsGateOf nodes)) (sym f) made
adds_made nodes n wires old new w s (node.Alias t) (e, f) at made = subst (All (IsGateOf nodes)) (sym f) made
adds_made nodes n wires old new w s (node.Output g) (e, f) at made =
    let gate : Gate = record { ins = map (slice_index wires) g.ins; cover = g.cover } in
    subst (All (IsGateOf nodes)) (sym f)
    (All-push (IsGateOf nodes) old gate made
    (record { signal = s; made = g; there = at; cover = refl; ins = length-map g.ins (slice_index wires) }))

module _ (nodes : List Node) (order : List ℕ) (is : IsOrder (map needs nodes) order) (n : ℕ)
    (old new : List Gate) (wires : List ℕ) (k w : ℕ) (x : Node)
    (wired : Wired nodes order n old wires k) (h : k < length order)
    (e : x ≡ get_or nodes (get_or order k 0) x) (ok : IsNode n x)
    (adds : AddsNode n wires old new w x) where
  here : get_or (set wires (get_or order k 0) w) (get_or order k 0) 0 ≡ w
  here = get_or-set_same wires (get_or order k 0) w 0
      (omega (arith, is.within k h, length-map nodes needs, wired.full))

  before : (i : ℕ) → i < k → get_or (set wires (get_or order k 0) w) (get_or order i 0) 0 ≡ get_or
      wires (get_or order i 0) 0
  before i l = get_or-set_other wires (get_or order k 0) (get_or order i 0) w 0
      (λ same. let z = is.once i k (omega (arith, l, h)) h same in omega (arith, z, l))

  wired_lower : UsesLower n new × (w < n + length new)
  wired_lower = adds_lower n wires old new w x adds ok
      (λ i d l. let b = needs_before nodes order is k h x e i d l in subst
      (λ t. get_or wires t 0 < n + length old) b.2 (wired.below b.0 b.1)) wired.lower

  pub wired_more : Wired nodes order n new (set wires (get_or order k 0) w) (k + 1)
  wired_more = record {
    full = length-set wires (get_or order k 0) w ∙ wired.full;
    few = omega (arith, (adds_longer n wires old new w x adds).1, wired.few);
    lower = wired_lower.0;
    made = adds_made nodes n wires old new w (get_or order k 0) x adds
        (slice_get-get_or nodes (get_or order k 0) x
        (omega (arith, is.within k h, length-map nodes needs)) ∙ ap Some (sym e)) wired.made;
    below = λ i l. elim (cases_eq i k) [
      | inl z ↦ subst (λ j. get_or (set wires (get_or order k 0) w) (get_or order j 0) 0 < n +
          length new) (sym z) (omega (arith, here, wired_lower.1))
      | inr ne ↦ let l' : i < k = omega arith in omega
          (arith, before i l', wired.below i l', (adds_longer n wires old new w x adds).0)
    ];
    shows = λ means bits inputs i l. elim (cases_eq i k) [
      | inl z ↦
          subst (λ j. cval means nodes bits (k + 1) (get_or order j 0) ≡ Some
          (get_or (wire_values means bits new) (get_or (set wires (get_or order k 0) w)
          (get_or order j 0) 0) false)) (sym z)
          (cval_step means nodes bits k (get_or order k 0) x
          (get_or (wire_values means bits new) w false)
          (slice_get-get_or nodes (get_or order k 0) x
          (omega (arith, is.within k h, length-map nodes needs)) ∙ ap Some (sym e))
          (value_known means bits n wires old new w inputs (cval means nodes bits k) x ok adds
          (λ i d l. let b = needs_before nodes order is k h x e i d l in
          subst (λ t. cval means nodes bits k t ≡ Some
          (get_or (wire_values means bits old) (get_or wires t 0) false)) b.2
          (wired.shows means bits inputs b.0 b.1)))
          ∙ ap (λ v. Some (get_or (wire_values means bits new) v false)) (sym here))
      | inr ne ↦
          let l' : i < k = omega arith in
          cval_up means nodes bits k (k + 1) (get_or order i 0) _ (omega arith)
          (wired.shows means bits inputs i l')
          ∙ ap Some (sym (adds_kept means bits n wires old new w x adds inputs
          (get_or wires (get_or order i 0) 0) (wired.below i l')))
          ∙ ap (λ v. Some (get_or (wire_values means bits new) v false)) (sym (before i l'))
    ];
  }

-- at the end every signal is shown
module _ (nodes : List Node) (order : List ℕ) (is : IsOrder (map needs nodes) order) (n : ℕ)
    (gates : List Gate) (wires : List ℕ) (k : ℕ) (wired : Wired nodes order n gates wires k)
    (all : k ≡ length order) where
  pub all_shown : (s : ℕ) → s < length nodes → Shows nodes n gates s (get_or wires s 0)
  all_shown s h means bits inputs m l =
      let at = is.every s (omega (arith, h, length-map nodes needs)) in
      let e = get_or_default order at.0 0 s at.1 ∙ at.2 in
      let old = subst (λ t. cval means nodes bits k t ≡ Some
      (get_or (wire_values means bits gates) (get_or wires t 0) false)) e
      (wired.shows means bits inputs at.0 (omega (arith, at.1, all))) in
      cval_up means nodes bits k m s _ (omega (arith, l, all, is.whole, length-map nodes needs)) old

  pub all_below : (s : ℕ) → s < length nodes → get_or wires s 0 < n + length gates
  all_below s h =
      let at = is.every s (omega (arith, h, length-map nodes needs)) in
      let e = get_or_default order at.0 0 s at.1 ∙ at.2 in
      subst (λ t. get_or wires t 0 < n + length gates) e
      (wired.below at.0 (omega (arith, at.1, all)))

-- the needs of the next signal are signals
pub needs_within : (nodes : List Node) (order : List ℕ) → IsOrder (map needs nodes) order → (k : ℕ)
    → k < length order → (x : Node) → x ≡ get_or nodes (get_or order k 0) x
    → All (λ t. t < length nodes) (needs x)
needs_within nodes order is k h x e i d l =
    let b = needs_before nodes order is k h x e i d l in
    omega (arith, is.within b.0 (omega (arith, b.1, h)), b.2, length-map nodes needs)

-- and the next signal's node is good
pub node_ok : (nodes : List Node) (order : List ℕ) → IsOrder (map needs nodes) order → (n : ℕ)
    → All (IsNode n) nodes → (k : ℕ) → k < length order → (x : Node)
    → x ≡ get_or nodes (get_or order k 0) x → IsNode n x
node_ok nodes order is n all k h x e = subst (IsNode n) (sym e)
    (all (get_or order k 0) x (omega (arith, is.within k h, length-map nodes needs)))
