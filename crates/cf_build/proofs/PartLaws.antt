use Rattle.std.proofs.Common.{◌≡◌, ℕ, zero, suc, ◌<◌, ◌≤◌, ◌+◌, List, [], ◌∷◌, ◌++◌, map, refl, sym, ◌∙◌, ap, subst, length, get_or, arith, inl, inr, ◌⊎◌, nat_eq}
use Rattle.std.proofs.lemmas.Bool.{cases_lt, cases_eq}
use Rattle.std.proofs.lemmas.List.{length-map, get_or-map, get_or_append_left, get_or_push, length_push, get_or-set_same, get_or-set_other}
use Rattle.std.specs.List.{flat_map, Contains}
use Rattle.std.proofs.lemmas.List.Elements.{Contains-append_left, Contains-append_right}
use Rattle.cf_model.specs.Diagrams.{Levels, Node, Connection, no_connection, no_node, connection_at, nodes, count, node, row, pattern, exits, IsGoodNode, IsGood, Extends}
use Rattle.cf_model.proofs.Growth.{Under, Under-width}
use Rattle.cf_model.specs.Renumbering.{IsCanon, rgs}
use Rattle.cf_model.proofs.RenumberingLaws.{canon_length}
use Rattle.cf_model.specs.Patterns.{Pattern, a_pattern, b_patterns, sub}
use Rattle.cf_model.proofs.Callees.{a_law, b_law, b_rows}
use Rattle.cf_table.specs.declared.BConn.{BConn}
use Rattle.cf_table.specs.Groupings.{connection_of, node_with, IsInterned}
use Rattle.cf_build.specs.Joining.{blank}
use Rattle.cf_build.specs.Assembling.{AddsOnly}
use Rattle.cf_build.specs.Parts.{IsPart, AddsParts, AddsPartsOf}
use Rattle.cf_build.proofs.Words.{canon_reads}

pub part_self : (t : Levels) (l i k j : ℕ) → k ≡ l → j ≡ i → IsPart t l i k j
part_self t zero i k j e q = (e, q)
part_self t (suc l) i k j e q = inl (e, q)

-- parts stay parts as the table grows
pub part_kept : (u v : Levels) → IsGood u → Extends u v → (l i : ℕ) → i < count u l → (k j : ℕ) → IsPart u l i k j → IsPart v l i k j
part_kept u v g x zero i h k j r = r
part_kept u v g x (suc l) i h k j r =
    let n = node u (suc l) i in
    let good : IsGoodNode (count u l) (exits u l) n = g.good_nodes l i h in
    let same : node v (suc l) i ≡ n = x.kept (suc l) i h in
    subst (λ (d : Node). ((k ≡ suc l) × (j ≡ i)) ⊎ (IsPart v l d.a_callee k j ⊎ ((m : ℕ) × (m < length d.connections) × IsPart v l (connection_at d.connections m).callee k j))) (sym same)
    (elim r [
      | inl s ↦ inl s
      | inr s ↦ elim s [
        | inl a ↦ inr (inl (part_kept u v g x l n.a_callee good.callee_exists k j a))
        | inr b ↦ inr (inr (b.0, b.1, part_kept u v g x l (connection_at n.connections b.0).callee (good.good_connections b.0 b.1).callee_exists k j b.2))
      ]
    ])

-- one more row
pub rows_added : (t s u : Levels) (l : ℕ) (bs after : List BConn) (b : BConn) → IsGood s → Extends s u → ((m : ℕ) → m < length bs → (get_or bs m blank).«to».at < count s l)
    → AddsPartsOf t s l bs → AddsParts s u l b.«to».at → after ≡ bs ++ b ∷ [] → AddsPartsOf t u l after
rows_added t s u l bs after b g x own ar a e k j ge lt =
    let long : length after ≡ length bs + 1 = ap length e ∙ length_push bs b in
    elim (cases_lt j (count s k)) [
      | inl lo ↦ (let w = ar k j ge lo in
          let at : get_or after w.0 blank ≡ get_or bs w.0 blank = ap (λ (v : List BConn). get_or v w.0 blank) e ∙ get_or_append_left bs (b ∷ []) blank w.0 w.1 in
          (w.0, omega (arith, w.1, long), subst (λ (c : BConn). IsPart u l c.«to».at k j) (sym at) (part_kept s u g x l (get_or bs w.0 blank).«to».at (own w.0 w.1) k j w.2)))
      | inr hi ↦ (let at : get_or after (length bs) blank ≡ b = ap (λ (v : List BConn). get_or v (length bs) blank) e ∙ get_or_push bs b blank (length bs) refl in
          (length bs, omega (arith, long), subst (λ (c : BConn). IsPart u l c.«to».at k j) (sym at) (a k j hi lt)))
    ]

-- the node that was interned is the one that was gained
interned_here : (u v : Levels) (l : ℕ) (n : Node) (at : ℕ) → l < length u → IsInterned u v l n at → (k j : ℕ) → count u k ≤ j → j < count v k → (k ≡ l) × (j ≡ at)
interned_here u v l n at room i k j ge lt = elim i.grown [
  | inl same ↦ absurd (omega (arith, ge, lt, ap (λ (t : Levels). count t k) same))
  | inr new ↦ (let here : nodes v l ≡ nodes u l ++ n ∷ [] = ap (λ (t : Levels). nodes t l) new.0 ∙ get_or-set_same u l (nodes u l ++ n ∷ []) [] room in
      let long : count v l ≡ count u l + 1 = ap length here ∙ length_push (nodes u l) n in
      elim (cases_eq k l) [
        | inl e ↦ (let je : count u l ≤ j = subst (λ (x : ℕ). count u x ≤ j) e ge in
            let jl : j < count v l = subst (λ (x : ℕ). j < count v x) e lt in
            elim (cases_lt at (count u l)) [
              | inl lo ↦ absurd (new.1 at lo (sym (ap (λ (ns : List Node). get_or ns at no_node) here ∙ get_or_append_left (nodes u l) (n ∷ []) no_node at lo) ∙ i.is_it))
              | inr hi ↦ (e, omega (arith, je, jl, hi, i.there, long))
            ])
        | inr d ↦ (let there : nodes v k ≡ nodes u k = ap (λ (t : Levels). nodes t k) new.0 ∙ get_or-set_other u l k (nodes u l ++ n ∷ []) [] d in absurd (omega (arith, ge, lt, ap length there)))
      ])
]

-- all that `join` adds is part of its answer
pub join_added : (t s u v : Levels) (l : ℕ) (tuples : List (List ℕ)) (all bs : List BConn) (classes : List ℕ) (a at : ℕ) → IsGood s → IsGood u → Extends s u → Extends u v → suc l < length u
    → ((m : ℕ) → m < length all → (get_or all m blank).«to».at < count s l) → a < count u l → AddsPartsOf t s l all → AddsParts s u l a → IsCanon all classes bs → IsInterned u v (suc l) (node_with tuples a bs) at → AddsParts t v (suc l) at
join_added t s u v l tuples all bs classes a at gs gu x y room own ca ar aa c i k j ge lt =
    let n = node_with tuples a bs in
    let same : node v (suc l) at ≡ n = i.is_it in
    let f = connection_of tuples in
    let put : (((k ≡ suc l) × (j ≡ at)) ⊎ (IsPart v l n.a_callee k j ⊎ ((m : ℕ) × (m < length n.connections) × IsPart v l (connection_at n.connections m).callee k j))) → IsPart v (suc l) at k j =
    λ w. subst (λ (d : Node). ((k ≡ suc l) × (j ≡ at)) ⊎ (IsPart v l d.a_callee k j ⊎ ((m : ℕ) × (m < length d.connections) × IsPart v l (connection_at d.connections m).callee k j))) (sym same) w in
    elim (cases_lt j (count u k)) [
      | inr hi ↦ put (inl (interned_here u v (suc l) n at room i k j hi lt))
      | inl lo ↦ elim (cases_lt j (count s k)) [
        | inr mid ↦ put (inr (inl (part_kept u v gu y l a ca k j (aa k j mid lo))))
        | inl low ↦
            let w = ar k j ge low in
            let m = w.0 in
            let to = (get_or all m blank).«to».at in
            let ot : to < count s l = own m w.1 in
            let r1 : IsPart u l to k j = part_kept s u gs x l to ot k j w.2 in
            let r2 : IsPart v l to k j = part_kept u v gu y l to (omega (arith, ot, x.more l)) k j r1 in
            let reads : all ≡ map (λ i. get_or bs i blank) classes = canon_reads all classes bs blank c.spells in
            let lm : m < length classes = omega (arith, w.1, canon_length all classes bs c) in
            let e = get_or classes m 0 in
            let le : e < length bs = below classes (Under-width 0 (length bs) classes (omega (arith, c.reached))) m lm in
            let is_b : get_or all m blank ≡ get_or bs e blank = ap (λ (v : List BConn). get_or v m blank) reads ∙ get_or-map (λ i. get_or bs i blank) classes m 0 blank lm in
            let is_c : connection_at (map f bs) e ≡ f (get_or bs e blank) = get_or-map f bs e blank no_connection le in
            let r3 : IsPart v l (connection_at (map f bs) e).callee k j = subst (λ (b : Connection). IsPart v l b.callee k j) (sym is_c) (subst (λ (b : BConn). IsPart v l b.«to».at k j) is_b r2) in
            put (inr (inr (e, omega (arith, le, length-map bs f), r3)))
      ]
    ]
  where
    below : (xs : List ℕ) → Under (length bs) xs → (m : ℕ) → m < length xs → get_or xs m 0 < length bs
    below [] w m h = absurd (omega (arith, h))
    below (x ∷ xs) w zero h = w.0
    below (x ∷ xs) w (suc m) h = below xs w.1 m (omega (arith, h))

-- the parts of a grouping have the patterns of its `sub`
contains_here : {A : Type 0} (x y : A) (ys : List A) → y ≡ x → Contains (y ∷ ys) x
contains_here x y ys e = (0, omega arith, e)

contains_word : {A X : Type 0} (x : A) (f : X → List A) (ys : List X) (m : ℕ) (d : X) → m < length ys → Contains (f (get_or ys m d)) x → Contains (flat_map f ys) x
contains_word x f [] m d h w = absurd (omega (arith, h))
contains_word x f (y ∷ ys) zero d h w = Contains-append_left (f y) (flat_map f ys) x w
contains_word x f (y ∷ ys) (suc m) d h w = Contains-append_right (f y) (flat_map f ys) x (contains_word x f ys m d (omega (arith, h)) w)

abbrev pattern_at : Levels → ℕ → ℕ → Pattern
pattern_at t l i = record { level = l; ranks = pattern t l i }

self : (t : Levels) (l i k j : ℕ) → k ≡ l → j ≡ i → pattern_at t l i ≡ pattern_at t k j
self t l i k j e q = ap (λ (x : ℕ). pattern_at t x i) (sym e) ∙ ap (λ (y : ℕ). pattern_at t k y) (sym q)

-- what the A-callee is made of, its grouping is made of
pub sub_of_a : (t : Levels) → IsGood t → (l i : ℕ) → i < count t (suc l) → (x : Pattern) → Contains (sub l (pattern t l (node t (suc l) i).a_callee)) x → Contains (sub (suc l) (pattern t (suc l) i)) x
unfolding sub
sub_of_a t g l i h x w =
    let p = pattern t (suc l) i in
    let left = sub l (a_pattern l p) in
    let right = flat_map (sub l) (b_patterns l p) in
    let here : Pattern = record { level = suc l; ranks = p } in
    Contains-append_right (here ∷ []) (left ++ right) x (Contains-append_left left right x (subst (λ (q : List ℕ). Contains (sub l q) x) (a_law t g l i h) w))

-- and so is what a B-callee is made of
pub sub_of_b : (t : Levels) → IsGood t → (l i m : ℕ) → i < count t (suc l) → m < length (node t (suc l) i).connections → (x : Pattern) → Contains (sub l (pattern t l (connection_at (node t (suc l) i).connections m).callee)) x → Contains (sub (suc l) (pattern t (suc l) i)) x
unfolding sub
sub_of_b t g l i m h hm x w =
    let d = node t (suc l) i in
    let p = pattern t (suc l) i in
    let left = sub l (a_pattern l p) in
    let right = flat_map (sub l) (b_patterns l p) in
    let here : Pattern = record { level = suc l; ranks = p } in
    let ps = map (rgs nat_eq) (map (row (pattern t l)) d.connections) in
    let lm : m < length (map (row (pattern t l)) d.connections) = omega (arith, hm, length-map d.connections (row (pattern t l))) in
    let at : get_or ps m [] ≡ rgs nat_eq (row (pattern t l) (connection_at d.connections m)) = get_or-map (rgs nat_eq) (map (row (pattern t l)) d.connections) m [] [] lm ∙ ap (λ (v : List ℕ). rgs nat_eq v) (get_or-map (row (pattern t l)) d.connections m no_connection [] hm) in
    let v : Contains (sub l (get_or ps m [])) x = subst (λ (q : List ℕ). Contains (sub l q) x) ((b_law t g l i m h hm).0 ∙ sym at) w in
    let all : Contains (flat_map (sub l) ps) x = contains_word x (sub l) ps m [] (omega (arith, lm, length-map (map (row (pattern t l)) d.connections) (rgs nat_eq))) v in
    Contains-append_right (here ∷ []) (left ++ right) x (Contains-append_right left right x
    (subst (λ (rs : List (List ℕ)). Contains (flat_map (sub l) (map (rgs nat_eq) rs)) x) (b_rows t g l i h) all))

pub part_in_sub : (t : Levels) → IsGood t → (l i : ℕ) → i < count t l → (k j : ℕ) → IsPart t l i k j → Contains (sub l (pattern t l i)) (pattern_at t k j)
unfolding sub
part_in_sub t g zero i h k j r = contains_here (pattern_at t k j) (pattern_at t 0 i) [] (self t 0 i k j r.0 r.1)
part_in_sub t g (suc l) i h k j r =
    let good : IsGoodNode (count t l) (exits t l) (node t (suc l) i) = g.good_nodes l i h in
    let p = pattern t (suc l) i in
    elim r [
      | inl s ↦ contains_here (pattern_at t k j) (pattern_at t (suc l) i) (sub l (a_pattern l p) ++ flat_map (sub l) (b_patterns l p)) (self t (suc l) i k j s.0 s.1)
      | inr s ↦ elim s [
        | inl a ↦ sub_of_a t g l i h (pattern_at t k j) (part_in_sub t g l (node t (suc l) i).a_callee good.callee_exists k j a)
        | inr b ↦ sub_of_b t g l i b.0 h b.1 (pattern_at t k j) (part_in_sub t g l (connection_at (node t (suc l) i).connections b.0).callee (good.good_connections b.0 b.1).callee_exists k j b.2)
      ]
    ]

pub only_sub : (t u : Levels) → IsGood u → (l i : ℕ) → i < count u l → AddsParts t u l i → AddsOnly t u (sub l (pattern u l i))
only_sub t u g l i h a k j ge lt = part_in_sub u g l i h k j (a k j ge lt)
