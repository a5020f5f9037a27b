use Rattle.std.proofs.Common.{◌≡◌, ℕ, ◌+◌, ◌<◌, ◌≤◌, List, [], length, map, get_or, Some, refl, sym, ◌∙◌, ap, subst, arith, add-one, inl, inr}
use Rattle.std.specs.List.{slice_get, All}
use Rattle.std.proofs.lemmas.List.{length-map}
use Rattle.cf_model.specs.Renumbering.{IsNew}
use Rattle.cf_model.specs.Diagrams.{Levels, Node, count, exits, IsGoodNode, Extends}
use Rattle.cf_model.proofs.Growing.{Extends-refl, with_node_extends}
use Rattle.cf_table.specs.declared.BConn.{BConn}
use Rattle.cf_table.specs.declared.level.PackedConnection.{PackedConnection}
use Rattle.cf_table.specs.Groupings.{LacksNode, node_with, exits_with, IsInterned}
use Rattle.cf_table.specs.Kept.{Kept, ids, packed, node_by, shown_level, shown_levels, shown_node, IsAdded, IsEnteredAt, IsPackedOver, Holds}
use Rattle.cf_table.proofs.Shown.{all_packed, found, interned, new_node, packed_node, shown_at, unfound}

-- what interning a node leaves
pub record Leaves (before now : List (List Kept)) (book : List (List ℕ)) (l : ℕ) (n : Node) (at : ℕ) : Type 0 where
  pub holds : Holds now book
  pub interned : IsInterned (shown_levels before book) (shown_levels now book) (l + 1) n at
  pub extended : Extends (shown_levels before book) (shown_levels now book)

known : (levels : List (List Kept)) (book : List (List ℕ)) (l a at : ℕ) (bs : List BConn) → Holds levels book → l < length levels
    → slice_get (map ids (get_or levels l [])) at ≡ Some (a, map packed bs) → Leaves levels levels book l (node_with book a bs) at
known levels book l a at bs holds h there =
    let t = shown_levels levels book in
    let r = found levels book l [] h at a (map packed bs) there in
    record {
      holds = holds;
      interned = subst (λ (m : ℕ). IsInterned t t m (node_with book a bs) at) (sym (add-one l)) (record { there = r.0; is_it = r.1 ∙ packed_node book a bs; grown = inl refl });
      extended = Extends-refl t;
    }

added : (before now : List (List Kept)) (book : List (List ℕ)) (l a at : ℕ) (bs : List BConn) (k : Kept) → Holds before book → l < 7 → l < length before → ids k ≡ (a, map packed bs) → k.exits ≡ exits_with book bs
    → All (IsPackedOver book) (map packed bs) → IsGoodNode (count (shown_levels before book) l) (exits (shown_levels before book) l) (node_with book a bs)
    → IsAdded before now l k → IsNew (map ids (get_or before l [])) (ids k) → at ≡ length (get_or before l []) → Leaves before now book l (node_with book a bs) at
added before now book l a at bs k holds seven h is counted over good grown new last =
    let t = shown_levels before book in
    let u = shown_levels now book in
    let n = node_with book a bs in
    let lacks : LacksNode t (l + 1) n =
    subst (λ (m : Node). LacksNode t (l + 1) m) (packed_node book a bs)
    (subst (λ (m : ℕ). LacksNode t m (node_by book a (map packed bs))) (sym (add-one l))
    (unfound before book holds l [] h a (map packed bs) over (subst (λ (q : ℕ × List PackedConnection). IsNew (map ids (get_or before l [])) q) is new))) in
    let all = interned before now book l k n (l + 1) (add-one l) seven holds
    (ap (λ (q : ℕ × List PackedConnection). node_by book q.0 q.1) is ∙ packed_node book a bs)
    (subst (λ (ps : List PackedConnection). All (IsPackedOver book) ps) (sym (ap (λ (q : ℕ × List PackedConnection). q.1) is)) over)
    counted good lacks grown in
    let room : l + 1 < length t = omega (arith, h, length-map before (shown_level book)) in
    let at_end : at ≡ count t (l + 1) =
    last ∙ sym (length-map (get_or before l []) (shown_node book)) ∙ sym (ap length (shown_at before book l [] h)) ∙ ap (λ (m : ℕ). count t m) (sym (add-one l)) in
    record {
      holds = all.0;
      interned = new_node t u (l + 1) n at room all.1 lacks at_end;
      extended = subst (λ (x : Levels). Extends t x) (sym all.1) (with_node_extends t (l + 1) n room);
    }

-- a node that is entered in its level is interned
pub entered : (before now : List (List Kept)) (book : List (List ℕ)) (l a at : ℕ) (bs : List BConn) (k : Kept) → Holds before book → l ≤ 6 → ids k ≡ (a, map packed bs) → k.exits ≡ exits_with book bs
    → All (λ b. b.ret.at < length book) bs → IsGoodNode (count (shown_levels before book) l) (exits (shown_levels before book) l) (node_with book a bs)
    → IsEnteredAt before now l k at → Leaves before now book l (node_with book a bs) at
entered before now book l a at bs k holds le is counted over good e =
    let h : l < length before = omega (arith, le, holds.seven) in
    elim e [
      | inl old ↦ subst (λ (levels : List (List Kept)). Leaves before levels book l (node_with book a bs) at) (sym old.0) (known before book l a at bs holds h (old.1 ∙ ap Some is))
      | inr new ↦ added before now book l a at bs k holds (omega (arith, le)) h is counted (all_packed book bs over) good new.0 new.1 new.2
    ]
