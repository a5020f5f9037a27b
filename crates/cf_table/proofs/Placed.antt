use Rattle.std.proofs.Common.{◌≡◌, ℕ, zero, suc, List, [], ◌∷◌, Bool, true, false, cond, ◌&&◌, not, ◌+◌, nat_eq, map, Option, None, Some, refl, sym, ◌∙◌, ap, subst, inl, inr, arith}
use Rattle.std.specs.List.{position_or_len}
use Rattle.std.specs.Bool.{Decides}
use Rattle.std.specs.Map.{keys_of, lookup}
use Rattle.std.specs.Option.{UnwrapsOrElse}
use Rattle.std.specs.Cmp.Lexicographic.{pointwise}
use Rattle.std.proofs.lemmas.Bool.{false≢true}
use Rattle.std.proofs.lemmas.Bool.Decides.{nat_tests}
use Rattle.std.proofs.lemmas.Option.{same_Some}
use Rattle.std.proofs.lemmas.Slice.Eq.{slice_eq-Decides}
use Rattle.indexmap.specs.IndexMap.{insert_entry}
use Rattle.cf_model.specs.Renumbering.{IsNew}
use Rattle.cf_table.specs.declared.level.PackedConnection.{PackedConnection}
use Rattle.cf_table.specs.declared.level.PackedNode.{PackedNode}
use Rattle.cf_table.specs.contracts.level.PackedConnectionPartialEq.TheImpl as connection_eq
use Rattle.cf_table.specs.contracts.level.PackedNodePartialEq.TheImpl as node_eq
use Rattle.cf_table.specs.Kept.{Kept, ids, ids_of, kept_of, IsEntered}
use Rattle.cf_table.proofs.Shown.{same_packed}

-- the derived test of two packed nodes
abbrev pub same : PackedNode → PackedNode → Bool
same p q = node_eq.eq-value.it p q

two : (a b x y : ℕ) → (nat_eq a x && nat_eq b y) ≡ true → (a ≡ x) × (b ≡ y)
two a b x y h = grind (arith, nat_tests)

joined : (a b x y : ℕ) → a ≡ x → b ≡ y → (nat_eq a x && nat_eq b y) ≡ true
joined a b x y h k = grind (arith, nat_tests)

connection-Decides : (p q : PackedConnection) → Decides (connection_eq.eq-value.it p q) (p ≡ q)
connection-Decides p q = (
  λ h. (let r = two p.callee p.returns q.callee q.returns h in same_packed p q r.0 r.1),
  λ h. joined p.callee p.returns q.callee q.returns (ap (λ (c : PackedConnection). c.callee) h) (ap (λ (c : PackedConnection). c.returns) h),
)

connections-Decides : (ps qs : List PackedConnection) → Decides (pointwise connection_eq.eq-value.it ps qs) (ps ≡ qs)
connections-Decides ps qs = slice_eq-Decides connection-Decides ps qs (pointwise connection_eq.eq-value.it ps qs) refl

both : (a b : Bool) → (a && b) ≡ true → (a ≡ true) × (b ≡ true)
both true b h = (refl, h)
both false b h = cc

and_true : (a b : Bool) → a ≡ true → b ≡ true → (a && b) ≡ true
and_true true b h k = k
and_true false b h k = cc

number_same : (a b : ℕ) → nat_eq a b ≡ true → a ≡ b
number_same a b h = grind (arith, nat_tests)

same_number : (a b : ℕ) → a ≡ b → nat_eq a b ≡ true
same_number a b h = grind (arith, nat_tests)

pub same_ids : (p q : PackedNode) → same p q ≡ true → ids_of p ≡ ids_of q
same_ids p q h =
    let r = both (nat_eq p.a_callee q.a_callee) (pointwise connection_eq.eq-value.it p.connections.items q.connections.items) h in
    ap (λ (x : ℕ). (x, p.connections.items)) (number_same p.a_callee q.a_callee r.0) ∙ ap (λ (x : List PackedConnection). (q.a_callee, x)) ((connections-Decides p.connections.items q.connections.items).0 r.1)

pub passes : (p q : PackedNode) → ids_of p ≡ ids_of q → same p q ≡ true
passes p q h =
    and_true (nat_eq p.a_callee q.a_callee) (pointwise connection_eq.eq-value.it p.connections.items q.connections.items)
    (same_number p.a_callee q.a_callee (ap (λ (x : ℕ × List PackedConnection). x.0) h)) ((connections-Decides p.connections.items q.connections.items).1 (ap (λ (x : ℕ × List PackedConnection). x.1) h))

-- an entry that isn't the first
behind : (e : PackedNode × ℕ) (es : List (PackedNode × ℕ)) (now : List Kept) (k : PackedNode) (exits at : ℕ) → same k e.0 ≡ false → IsEntered (map kept_of es) now (kept_of (k, exits)) at → IsEntered (map kept_of (e ∷ es)) (kept_of e ∷ now) (kept_of (k, exits)) (suc at)
behind e es now k exits at q r = elim r [
  | inl known ↦ inl (ap (λ (ks : List Kept). kept_of e ∷ ks) known.0, known.1)
  | inr added ↦ inr (ap (λ (ks : List Kept). kept_of e ∷ ks) added.0, new added.1, ap suc added.2)
]
  where
    new : IsNew (map ids (map kept_of es)) (ids_of k) → IsNew (map ids (map kept_of (e ∷ es))) (ids_of k)
    new n zero h = false≢true (sym q ∙ passes k e.0 (sym (same_Some (ids_of e.0) (ids_of k) h)))
    new n (suc i) h = n i h

inserted : (es : List (PackedNode × ℕ)) (k : PackedNode) (exits v : ℕ) → UnwrapsOrElse (lookup (same k) es) (λ w. w ≡ exits) v
    → IsEntered (map kept_of es) (map kept_of (insert_entry same es k v)) (kept_of (k, exits)) (position_or_len (same k) (keys_of es))
inserted [] k exits v u = inr (ap (λ (x : ℕ). kept_of (k, x) ∷ []) u, (λ i h. cc), refl)
inserted (e ∷ es) k exits v u = by (same k e.0) refl u (inserted es k exits v)
  where
    by : (b : Bool) → same k e.0 ≡ b → UnwrapsOrElse (cond b (Some e.1) (lookup (same k) es)) (λ w. w ≡ exits) v
        → (UnwrapsOrElse (lookup (same k) es) (λ w. w ≡ exits) v → IsEntered (map kept_of es) (map kept_of (insert_entry same es k v)) (kept_of (k, exits)) (position_or_len (same k) (keys_of es)))
        → IsEntered (map kept_of (e ∷ es)) (map kept_of (cond b ((e.0, v) ∷ es) (e ∷ insert_entry same es k v))) (kept_of (k, exits)) (cond (not b) (1 + position_or_len (same k) (keys_of es)) 0)
    by true q t rest = inl (ap (λ (x : ℕ). kept_of (e.0, x) ∷ map kept_of es) t, ap Some (sym (same_ids k e.0 q)))
    by false q t rest =
        let place = position_or_len (same k) (keys_of es) in
        let now = map kept_of (insert_entry same es k v) in
        let one_more : suc place ≡ 1 + place = omega arith in
        subst (λ (i : ℕ). IsEntered (map kept_of (e ∷ es)) (kept_of e ∷ now) (kept_of (k, exits)) i) one_more (behind e es now k exits place q (rest t))

-- what an entry of the map leaves, whose value is the old one, or the new one where there was none
pub entered_by : (es now : List (PackedNode × ℕ)) (before : List Kept) (k : PackedNode) (exits at v : ℕ) → map kept_of es ≡ before → now ≡ insert_entry same es k v → at ≡ position_or_len (same k) (keys_of es)
    → UnwrapsOrElse (lookup (same k) es) (λ w. w ≡ exits) v → IsEntered before (map kept_of now) (kept_of (k, exits)) at
entered_by es now before k exits at v b e p u =
    subst (λ (ks : List Kept). IsEntered ks (map kept_of now) (kept_of (k, exits)) at) b
    (subst (λ (xs : List (PackedNode × ℕ)). IsEntered (map kept_of es) (map kept_of xs) (kept_of (k, exits)) at) (sym e)
    (subst (λ (i : ℕ). IsEntered (map kept_of es) (map kept_of (insert_entry same es k v)) (kept_of (k, exits)) i) (sym p) (inserted es k exits v u)))

pub unwraps_so : {P : ℕ → Type 0} (o o' : Option ℕ) (v exits : ℕ) → o ≡ o' → ((w : ℕ) → P w → w ≡ exits) → UnwrapsOrElse o P v → UnwrapsOrElse o' (λ w. w ≡ exits) v
unwraps_so None None v exits e f u = f v u
unwraps_so None (Some y) v exits e f u = cc
unwraps_so (Some x) None v exits e f u = cc
unwraps_so (Some x) (Some y) v exits e f u = u ∙ same_Some x y e
