use Rattle.std.proofs.Common.{◌≡◌, ◌≢◌, ℕ, zero, suc, ◌<◌, ◌≤◌, List, [], ◌∷◌, ◌++◌, map, refl, sym, ◌∙◌, ap, subst, length, get_or, arith, inl, inr}
use Rattle.std.specs.List.{flat_map}
use Rattle.std.proofs.lemmas.Bool.{cases_lt, cases_eq}
use Rattle.std.proofs.lemmas.List.{get_or-set_same, get_or-set_other, get_or_append_left, get_or_push, length_push}
use Rattle.cf_model.specs.Renumbering.{width, Agree}
use Rattle.cf_model.specs.Diagrams.{Levels, Node, no_node, exit_at, connection_at, nodes, count, node, row, spell, pattern, all_returns, exits, IsGoodNode, IsGood, Extends, with_node}
use Rattle.cf_model.proofs.Growth.{Under, Under-width}
use Rattle.cf_model.proofs.Canonicity.{level_holds}

pub Extends-refl : (t : Levels) → Extends t t
Extends-refl t = record { more = λ l. omega arith; kept = λ l i h. refl }

pub Extends-trans : (t u v : Levels) → Extends t u → Extends u v → Extends t v
Extends-trans t u v a b = record {
  more = λ l. omega (arith, a.more l, b.more l);
  kept = λ l i h. b.kept l i (omega (arith, h, a.more l)) ∙ a.kept l i h;
}

-- the number of exits is read off the node
pub exits_kept : (t u : Levels) → Extends t u → (l i : ℕ) → i < count t l → exits u l i ≡ exits t l i
exits_kept t u x zero zero h = refl
exits_kept t u x zero (suc i) h = refl
exits_kept t u x (suc l) i h = ap (λ (n : Node). width 0 (all_returns n.connections)) (x.kept (suc l) i h)

flat_map_under : {A : Type 0} (f g : ℕ → List A) (k : ℕ) (p : List ℕ) → Under k p → Agree f g k → flat_map f p ≡ flat_map g p
flat_map_under f g k [] u a = refl
flat_map_under f g k (x ∷ xs) u a =
    let h : f x ≡ g x = a x u.0 in
    let r : flat_map f xs ≡ flat_map g xs = flat_map_under f g k xs u.1 a in
    cc

pub pattern_kept : (t u : Levels) → IsGood t → Extends t u → (l i : ℕ) → i < count t l → pattern u l i ≡ pattern t l i
unfolding pattern
pattern_kept t u g x zero zero h = refl
pattern_kept t u g x zero (suc i) h = refl
pattern_kept t u g x (suc l) i h =
    let n = node t (suc l) i in
    let good : IsGoodNode (count t l) (exits t l) n = g.good_nodes l i h in
    let b = level_holds t g l in
    let full : width 0 (pattern t l n.a_callee) ≡ length n.connections = b.reaches n.a_callee good.callee_exists ∙ sym good.middles in
    ap (λ (m : Node). spell (pattern u l) m) (x.kept (suc l) i h)
    ∙ ap (λ (p : List ℕ). flat_map (λ j. row (pattern u l) (connection_at n.connections j)) p) (pattern_kept t u g x l n.a_callee good.callee_exists)
    ∙ flat_map_under (λ j. row (pattern u l) (connection_at n.connections j)) (λ j. row (pattern t l) (connection_at n.connections j)) (length n.connections) (pattern t l n.a_callee) (Under-width 0 (length n.connections) (pattern t l n.a_callee) (omega (arith, full)))
    (λ j lj. ap (λ (p : List ℕ). map (exit_at (connection_at n.connections j)) p) (pattern_kept t u g x l (connection_at n.connections j).callee (good.good_connections j lj).callee_exists))

-- a node that is good over a level is good over it once it has grown
pub good_kept : (c d : ℕ) (e f : ℕ → ℕ) (n : Node) → c ≤ d → Agree f e c → IsGoodNode c e n → IsGoodNode d f n
good_kept c d e f n le a g = record {
  callee_exists = omega (arith, g.callee_exists, le);
  middles = g.middles ∙ sym (a n.a_callee g.callee_exists);
  good_connections = λ j h. (let b = g.good_connections j h in record { callee_exists = omega (arith, b.callee_exists, le); entries = b.entries ∙ sym (a (connection_at n.connections j).callee b.callee_exists); once = b.once });
  first_reach = g.first_reach;
  differ = g.differ;
}

nodes_here : (t : Levels) (l : ℕ) (n : Node) → l < length t → nodes (with_node t l n) l ≡ nodes t l ++ n ∷ []
nodes_here t l n h = get_or-set_same t l (nodes t l ++ n ∷ []) [] h

nodes_there : (t : Levels) (l m : ℕ) (n : Node) → m ≢ l → nodes (with_node t l n) m ≡ nodes t m
nodes_there t l m n h = get_or-set_other t l m (nodes t l ++ n ∷ []) [] h

pub with_node_extends : (t : Levels) (l : ℕ) (n : Node) → l < length t → Extends t (with_node t l n)
with_node_extends t l n h = record {
  more = λ m. elim (cases_eq m l) [
    | inl e ↦ (let q : nodes (with_node t l n) m ≡ nodes t m ++ n ∷ [] = subst (λ (k : ℕ). nodes (with_node t l n) k ≡ nodes t k ++ n ∷ []) (sym e) (nodes_here t l n h) in
        omega (arith, ap length q, length_push (nodes t m) n))
    | inr d ↦ omega (arith, ap length (nodes_there t l m n d))
  ];
  kept = λ m i hi. elim (cases_eq m l) [
    | inl e ↦ (let q : nodes (with_node t l n) m ≡ nodes t m ++ n ∷ [] = subst (λ (k : ℕ). nodes (with_node t l n) k ≡ nodes t k ++ n ∷ []) (sym e) (nodes_here t l n h) in
        ap (λ (xs : List Node). get_or xs i no_node) q ∙ get_or_append_left (nodes t m) (n ∷ []) no_node i hi)
    | inr d ↦ ap (λ (xs : List Node). get_or xs i no_node) (nodes_there t l m n d)
  ];
}

zero_not_suc : (l : ℕ) → 0 ≡ suc l → ⊥
zero_not_suc l e = omega (arith, e)

-- a node of the table with one more: an old one, or the new one
data Gained (t : Levels) (l : ℕ) (n : Node) (m i : ℕ) : Type 0 where
  was : (i < count t (suc m)) × (node (with_node t (suc l) n) (suc m) i ≡ node t (suc m) i) → Gained t l n m i
  is_new : (m ≡ l) × (i ≡ count t (suc m)) × (node (with_node t (suc l) n) (suc m) i ≡ n) → Gained t l n m i

gained : (t : Levels) (l : ℕ) (n : Node) → suc l < length t → (m i : ℕ) → i < count (with_node t (suc l) n) (suc m) → Gained t l n m i
gained t l n h m i hi = elim (cases_lt i (count t (suc m))) [
  | inl li ↦ was (li, (with_node_extends t (suc l) n h).kept (suc m) i li)
  | inr gi ↦ elim (cases_eq m l) [
    | inl e ↦ (let q : nodes (with_node t (suc l) n) (suc m) ≡ nodes t (suc m) ++ n ∷ [] = subst (λ (k : ℕ). nodes (with_node t (suc l) n) (suc k) ≡ nodes t (suc k) ++ n ∷ []) (sym e) (nodes_here t (suc l) n h) in
        let at : i ≡ count t (suc m) = omega (arith, gi, hi, ap length q, length_push (nodes t (suc m)) n) in
        is_new (e, at, ap (λ (xs : List Node). get_or xs i no_node) q ∙ get_or_push (nodes t (suc m)) n no_node i (sym at)))
    | inr d ↦ (let q : nodes (with_node t (suc l) n) (suc m) ≡ nodes t (suc m) = nodes_there t (suc l) (suc m) n (λ e. d (omega (arith, e))) in absurd (omega (arith, gi, hi, ap length q)))
  ]
]

fresh_at : (t : Levels) (l : ℕ) (n : Node) → ((i : ℕ) → i < count t (suc l) → node t (suc l) i ≢ n) → (m i : ℕ) → m ≡ l → i < count t (suc m) → node t (suc m) i ≡ n → ⊥
fresh_at t l n fresh m i e h q = fresh i (subst (λ (k : ℕ). i < count t (suc k)) e h) (subst (λ (k : ℕ). node t (suc k) i ≡ n) e q)

pub with_node_good : (t : Levels) (l : ℕ) (n : Node) → IsGood t → suc l < length t → IsGoodNode (count t l) (exits t l) n
    → ((i : ℕ) → i < count t (suc l) → node t (suc l) i ≢ n) → IsGood (with_node t (suc l) n)
with_node_good t l n g h good fresh =
    let u = with_node t (suc l) n in
    let x : Extends t u = with_node_extends t (suc l) n h in
    record {
      base = ap length (nodes_there t (suc l) 0 n (λ e. zero_not_suc l e)) ∙ g.base;
      good_nodes = λ m i hi. good_kept (count t m) (count u m) (exits t m) (exits u m) (node u (suc m) i) (x.more m) (λ j hj. exits_kept t u x m j hj)
          (elim (gained t l n h m i hi) [
            | was w ↦ subst (λ (k : Node). IsGoodNode (count t m) (exits t m) k) (sym w.1) (g.good_nodes m i w.0)
            | is_new w ↦ subst (λ (k : Node). IsGoodNode (count t m) (exits t m) k) (sym w.2) (subst (λ (k : ℕ). IsGoodNode (count t k) (exits t k) n) (sym w.0) good)
          ]);
      nodes_differ = λ m i j hi hj e.
          elim (gained t l n h m i hi) [
            | was w ↦ elim (gained t l n h m j hj) [
              | was v ↦ g.nodes_differ m i j w.0 v.0 (sym w.1 ∙ e ∙ v.1)
              | is_new v ↦ absurd (fresh_at t l n fresh m i v.0 w.0 (sym w.1 ∙ e ∙ v.2))
            ]
            | is_new w ↦ elim (gained t l n h m j hj) [
              | was v ↦ absurd (fresh_at t l n fresh m j w.0 v.0 (sym v.1 ∙ sym e ∙ w.2))
              | is_new v ↦ omega (arith, w.1, v.1)
            ]
          ];
    }

-- appending a node leaves each pattern that was there
pub appended_kept : (t : Levels) (at : ℕ) (n : Node) → IsGood t → at < length t → (l i : ℕ) → i < count t l → pattern (with_node t at n) l i ≡ pattern t l i
appended_kept t at n g h = pattern_kept t (with_node t at n) g (with_node_extends t at n h)
