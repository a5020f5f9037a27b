use Rattle.std.proofs.Common.{◌≡◌, ℕ, zero, suc, ◌<◌, Bool, List, [], ◌++◌, map, length, get_or, nat_eq, refl, sym, ◌∙◌, ap, subst, arith, inl, inr, ◌⊎◌, Some, option_map}
use Rattle.std.specs.List.{flat_map, filter, slice_get, All, Contains}
use Rattle.std.proofs.lemmas.List.{length-map}
use Rattle.std.proofs.lemmas.List.Elements.{All-contains, Contains-get_or, Contains-append_cases}
use Rattle.std.proofs.lemmas.Option.{slice_get_within, slice_get-map, slice_get-get_or, same_Some}
use Rattle.cf_model.specs.Renumbering.{AllDiffer, IsApart, distinct}
use Rattle.cf_model.specs.Patterns.{Pattern, same_pattern, a_pattern, b_patterns, sub, subs, size_at}
use Rattle.cf_model.specs.Diagrams.{Levels, Node, Connection, no_connection, connection_at, count, node, pattern, exits, IsGood, IsGoodNode}
use Rattle.cf_model.proofs.PatternLaws.{patterns_decide}
use Rattle.cf_model.proofs.RenumberingLaws.{nat_decides, distinct_differ}
use Rattle.cf_model.proofs.Canonicity.{canonical}
use Rattle.cf_model.proofs.Callees.{a_law, callees_law}
use Rattle.cf_table.specs.declared.Gid.{Gid}
use Rattle.cf_table.specs.Groupings.{Groupings, Owns, grouping_pattern}
use Rattle.cf_build.specs.Parts.{IsPart}
use Rattle.cf_build.proofs.PartLaws.{part_self, part_in_sub}
use Rattle.cf_pkg.specs.Sizes.{callees, IsReached, ListsReached}
use Rattle.cf_pkg.proofs.Members.{none, place_of, here, later, first_or_later, mapped, from_mapped, among, from_among, passing, from_passing, distinct_has, distinct_from, equally_long}

-- the callees of a node: its A-callee, and each B-callee
a_is_callee : (n : Node) → Contains (callees n) n.a_callee
a_is_callee n = here n.a_callee n.a_callee (map (λ b. b.callee) n.connections) refl

b_is_callee : (n : Node) (m : ℕ) → m < length n.connections → Contains (callees n) (connection_at n.connections m).callee
b_is_callee n m h =
    later (connection_at n.connections m).callee n.a_callee (map (λ b. b.callee) n.connections)
    (mapped (λ b. b.callee) n.connections (connection_at n.connections m) (Contains-get_or n.connections m no_connection h))

at_place : (bs : List Connection) (c : ℕ) → Contains (map (λ b. b.callee) bs) c → (m : ℕ) × (m < length bs) × ((connection_at bs m).callee ≡ c)
at_place bs c h =
    let w = from_mapped (λ b. b.callee) bs c h in
    let m = place_of bs no_connection w.0 w.1 in
    (m.0, m.1, ap (λ (b : Connection). b.callee) m.2 ∙ w.2)

callee_cases : (n : Node) (c : ℕ) → Contains (callees n) c → (n.a_callee ≡ c) ⊎ ((m : ℕ) × (m < length n.connections) × ((connection_at n.connections m).callee ≡ c))
callee_cases n c h = elim (first_or_later c n.a_callee (map (λ b. b.callee) n.connections) h) [
  | inl e ↦ inl e
  | inr r ↦ inr (at_place n.connections c r)
]

-- a callee of a part is a part
pub part_callee : (t : Levels) (l i k j c : ℕ) → IsPart t l i (suc k) j → Contains (callees (node t (suc k) j)) c → IsPart t l i k c
part_callee t zero i k j c r h = absurd (omega (arith, r.0))
part_callee t (suc l) i k j c r h =
    let n = node t (suc l) i in
    elim r [
      | inl s ↦
          let e : k ≡ l = omega (arith, s.0) in
          let there : Contains (callees n) c = subst (λ (x : ℕ). Contains (callees (node t (suc l) x)) c) s.1 (subst (λ (x : ℕ). Contains (callees (node t (suc x) j)) c) e h) in
          elim (callee_cases n c there) [
            | inl q ↦ inr (inl (part_self t l n.a_callee k c e (sym q)))
            | inr w ↦ inr (inr (w.0, w.1, part_self t l (connection_at n.connections w.0).callee k c e (sym w.2)))
          ]
      | inr s ↦ elim s [
        | inl a ↦ inr (inl (part_callee t l n.a_callee k j c a h))
        | inr b ↦ inr (inr (b.0, b.1, part_callee t l (connection_at n.connections b.0).callee k j c b.2 h))
      ]
    ]

-- A part is the grouping itself, or a callee of a part one level above.
abbrev IsBelow : Levels → ℕ → ℕ → ℕ → ℕ → Type 0
IsBelow t l i k c = ((l ≡ k) × (i ≡ c)) ⊎ ((j : ℕ) × IsPart t l i (suc k) j × Contains (callees (node t (suc k) j)) c)

callee_below : (t : Levels) (l i k c b : ℕ) → Contains (callees (node t (suc l) i)) b → ((k' j : ℕ) → IsPart t l b k' j → IsPart t (suc l) i k' j) → IsBelow t l b k c → IsBelow t (suc l) i k c
callee_below t l i k c b h up w = elim w [
  | inl s ↦ inr (i, part_self t (suc l) i (suc k) i (ap suc (sym s.0)) refl, subst (λ (x : ℕ). Contains (callees (node t (suc x) i)) c) s.0 (subst (λ (x : ℕ). Contains (callees (node t (suc l) i)) x) s.1 h))
  | inr r ↦ inr (r.0, up (suc k) r.0 r.1, r.2)
]

pub part_parent : (t : Levels) (l i k c : ℕ) → IsPart t l i k c → IsBelow t l i k c
part_parent t zero i k c r = inl (sym r.0, sym r.1)
part_parent t (suc l) i k c r =
    let n = node t (suc l) i in
    elim r [
      | inl s ↦ inl (sym s.0, sym s.1)
      | inr s ↦ elim s [
        | inl a ↦ callee_below t l i k c n.a_callee (a_is_callee n) (λ k' j p. inr (inl p)) (part_parent t l n.a_callee k c a)
        | inr b ↦ callee_below t l i k c (connection_at n.connections b.0).callee (b_is_callee n b.0 b.1) (λ k' j p. inr (inr (b.0, b.1, p))) (part_parent t l (connection_at n.connections b.0).callee k c b.2)
      ]
    ]

-- a part is in the table
pub part_exists : (t : Levels) → IsGood t → (l i : ℕ) → i < count t l → (k j : ℕ) → IsPart t l i k j → j < count t k
part_exists t g zero i h k j r = subst (λ (x : ℕ). x < count t k) (sym r.1) (subst (λ (x : ℕ). i < count t x) (sym r.0) h)
part_exists t g (suc l) i h k j r =
    let good : IsGoodNode (count t l) (exits t l) (node t (suc l) i) = g.good_nodes l i h in
    elim r [
      | inl s ↦ subst (λ (x : ℕ). x < count t k) (sym s.1) (subst (λ (x : ℕ). i < count t x) (sym s.0) h)
      | inr s ↦ elim s [
        | inl a ↦ part_exists t g l (node t (suc l) i).a_callee good.callee_exists k j a
        | inr b ↦ part_exists t g l (connection_at (node t (suc l) i).connections b.0).callee (good.good_connections b.0 b.1).callee_exists k j b.2
      ]
    ]

abbrev made : ℕ → List ℕ → Pattern
made l r = record { level = l; ranks = r }

abbrev pattern_at : Levels → ℕ → ℕ → Pattern
pattern_at t l i = made l (pattern t l i)

-- What a pattern is made of are the patterns of the grouping's parts.
abbrev HasPart : Levels → ℕ → ℕ → Pattern → Type 0
HasPart t l i x = (j : ℕ) × IsPart t l i x.level j × (pattern_at t x.level j ≡ x)

level_of : (t : Levels) (l i : ℕ) (x : Pattern) → made l (pattern t l i) ≡ x → (x.level ≡ l) × (pattern_at t x.level i ≡ x)
level_of t l i x e =
    let same : l ≡ x.level = ap (λ (p : Pattern). p.level) e in
    (sym same, ap (λ (m : ℕ). pattern_at t m i) (sym same) ∙ e)

pub sub_has_part : (t : Levels) → IsGood t → (l i : ℕ) → i < count t l → (x : Pattern) → Contains (sub l (pattern t l i)) x → HasPart t l i x
unfolding sub
sub_has_part t g zero i h x c = elim (first_or_later x (pattern_at t 0 i) [] c) [
  | inl e ↦ (let w = level_of t 0 i x e in (i, (w.0, refl), w.1))
  | inr r ↦ absurd (none x r)
]
sub_has_part t g (suc l) i h x c =
    let p = pattern t (suc l) i in
    let n = node t (suc l) i in
    let good : IsGoodNode (count t l) (exits t l) n = g.good_nodes l i h in
    let left = sub l (a_pattern l p) in
    let right = flat_map (sub l) (b_patterns l p) in
    elim (first_or_later x (pattern_at t (suc l) i) (left ++ right) c) [
      | inl e ↦ (let w = level_of t (suc l) i x e in (i, inl (w.0, refl), w.1))
      | inr r ↦ elim (Contains-append_cases left right x r) [
        | inl a ↦
            let w = sub_has_part t g l n.a_callee good.callee_exists x (subst (λ (q : List ℕ). Contains (sub l q) x) (sym (a_law t g l i h)) a) in
            (w.0, inr (inl w.1), w.2)
        | inr b ↦
            let u = from_among (sub l) (map (λ d. pattern t l d.callee) n.connections) x (subst (λ (qs : List (List ℕ)). Contains (flat_map (sub l) qs) x) (sym (callees_law t g l i h)) b) in
            let v = from_mapped (λ d. pattern t l d.callee) n.connections u.0 u.1 in
            let m = place_of n.connections no_connection v.0 v.1 in
            let w = sub_has_part t g l (connection_at n.connections m.0).callee (good.good_connections m.0 m.1).callee_exists x
            (subst (λ (d : Connection). Contains (sub l (pattern t l d.callee)) x) (sym m.2) (subst (λ (q : List ℕ). Contains (sub l q) x) (sym v.2) u.2)) in
            (w.0, inr (inr (m.0, m.1, w.1)), w.2)
      ]
    ]

-- What is reached has the patterns that the heads' patterns are made of.
pub reached_in : (t : Groupings) → IsGood t.levels → (heads : List Gid) → All (Owns t) heads → (k i : ℕ) → IsReached t.levels heads k i → Contains (subs (map (grouping_pattern t.levels) heads)) (pattern_at t.levels k i)
reached_in t g heads own k i r =
    among (λ p. sub p.level p.ranks) (map (grouping_pattern t.levels) heads) (grouping_pattern t.levels r.0) (pattern_at t.levels k i) (mapped (grouping_pattern t.levels) heads r.0 r.1)
    (part_in_sub t.levels g r.0.level r.0.at (All-contains (Owns t) heads r.0 own r.1) k i r.2)

pub reached_from : (t : Groupings) → IsGood t.levels → (heads : List Gid) → All (Owns t) heads → (x : Pattern) → Contains (subs (map (grouping_pattern t.levels) heads)) x
    → (i : ℕ) × IsReached t.levels heads x.level i × (pattern_at t.levels x.level i ≡ x)
reached_from t g heads own x c =
    let u = from_among (λ p. sub p.level p.ranks) (map (grouping_pattern t.levels) heads) x c in
    let v = from_mapped (grouping_pattern t.levels) heads u.0 u.1 in
    let w = sub_has_part t.levels g v.0.level v.0.at (All-contains (Owns t) heads v.0 own v.1) x (subst (λ (p : Pattern). Contains (sub p.level p.ranks) x) (sym v.2) u.2) in
    (w.0, (v.0, v.1, w.1), w.2)

pub reached_exists : (t : Groupings) → IsGood t.levels → (heads : List Gid) → All (Owns t) heads → (k i : ℕ) → IsReached t.levels heads k i → i < count t.levels k
reached_exists t g heads own k i r = part_exists t.levels g r.0.level r.0.at (All-contains (Owns t) heads r.0 own r.1) k i r.2

AllDiffer-mapped : {A : Type 0} (f : ℕ → A) (n : ℕ) (xs : List ℕ) → IsApart f n → ((x : ℕ) → Contains xs x → x < n) → AllDiffer xs → AllDiffer (map f xs)
AllDiffer-mapped {A} f n xs apart under d i j y hi hj =
    let read : (k : ℕ) → slice_get (map f xs) k ≡ Some y → (k < length xs) × (f (get_or xs k 0) ≡ y) = λ k h.
    (let l : k < length xs = omega (arith, slice_get_within (map f xs) k y h, length-map xs f) in
    (l, same_Some (f (get_or xs k 0)) y (sym (slice_get-map f xs k ∙ ap (option_map f) (slice_get-get_or xs k 0 l)) ∙ h))) in
    let a = read i hi in
    let b = read j hj in
    let same : get_or xs i 0 ≡ get_or xs j 0 = apart (get_or xs i 0) (get_or xs j 0) (under (get_or xs i 0) (Contains-get_or xs i 0 a.0)) (under (get_or xs j 0) (Contains-get_or xs j 0 b.0)) (a.1 ∙ sym b.1) in
    d i j (get_or xs j 0) (slice_get-get_or xs i 0 a.0 ∙ ap Some same) (slice_get-get_or xs j 0 b.0)

-- The list of what is reached at a level is as long as the size there.
pub counted : (t : Groupings) → IsGood t.levels → (heads : List Gid) → All (Owns t) heads → (k : ℕ) (places : List ℕ) → ListsReached t.levels heads k places → length places ≡ size_at k (map (grouping_pattern t.levels) heads)
counted t g heads own k places h =
    let ps = map (grouping_pattern t.levels) heads in
    let at_level : Pattern → Bool = λ p. nat_eq p.level k in
    let found = filter at_level (subs ps) in
    let f : ℕ → Pattern = pattern_at t.levels k in
    let exists : (i : ℕ) → Contains places i → i < count t.levels k = λ i c. reached_exists t g heads own k i (h.reached i c) in
    let apart : IsApart f (count t.levels k) = λ i j hi hj e. canonical t.levels g k i j hi hj (ap (λ (p : Pattern). p.ranks) e) in
    sym (length-map places f)
    ∙ equally_long (map f places) (distinct same_pattern found) (AllDiffer-mapped f (count t.levels k) places apart exists h.once) (distinct_differ same_pattern patterns_decide found)
    (λ x c.
    (let w = from_mapped f places x c in
    let same : x.level ≡ k = sym (ap (λ (p : Pattern). p.level) w.2) in
    distinct_has same_pattern patterns_decide [] found x (inr (passing at_level (subs ps) x (subst (Contains (subs ps)) w.2 (reached_in t g heads own k w.0 (h.reached w.0 w.1))) ((nat_decides x.level k).1 same)))))
    (λ x c. elim (distinct_from same_pattern [] found x c) [
      | inl n ↦ absurd (none x n)
      | inr d ↦
          let w = from_passing at_level (subs ps) x d in
          let same : x.level ≡ k = (nat_decides x.level k).0 w.1 in
          let r = reached_from t g heads own x w.0 in
          let there : IsReached t.levels heads k r.0 = subst (λ (l : ℕ). IsReached t.levels heads l r.0) same r.1 in
          let is_it : f r.0 ≡ x = ap (λ (l : ℕ). pattern_at t.levels l r.0) (sym same) ∙ r.2 in
          subst (Contains (map f places)) is_it (mapped f places r.0 (h.complete r.0 there))
    ])
