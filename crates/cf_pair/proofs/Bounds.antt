use Rattle.std.proofs.Common.{◌≡◌, ℕ, zero, suc, ◌<◌, ◌≤◌, ◌+◌, ◌*◌, ◌-◌, Bool, true, IsTrue, List, [], ◌∷◌, ◌++◌, refl, sym, ◌∙◌, ap, subst, length, get_or, arith, Some, inl, inr, ◌⊎◌, append_assoc, add-one}
use Rattle.std.specs.Prelude.{All, Contains, sum_by}
use Rattle.std.specs.List.{slice_get, zip}
use Rattle.std.specs.Prelude.{Result, Ok, Err}
use Rattle.std.specs.Result.{is_ok, IsErr}
use Rattle.std.proofs.lemmas.List.{append-nil}
use Rattle.std.proofs.lemmas.List.Elements.{All-append, All-weaker, All-push}
use Rattle.cf_model.proofs.CanonLaws.{AllDiffer-push}
use Rattle.std.proofs.lemmas.List.Sums.{sum_by-append, sum_by-cons}
use Rattle.std.proofs.lemmas.Option.{slice_get_within, get_or_from_slice_get}
use Rattle.cf_model.specs.Renumbering.{AllDiffer, IsNew, distinct}
use Rattle.cf_model.specs.Patterns.{Pattern, sub, node_work, work_size, same_pattern}
use Rattle.cf_model.proofs.SumLaws.{differ_rest, pairs_within, in_distinct, few_pairs}
use Rattle.cf_model.specs.Diagrams.{Levels, Node, Connection, connection_at, count, node, pattern, IsGood, Extends}
use Rattle.cf_model.proofs.Growing.{pattern_kept}
use Rattle.cf_table.specs.declared.Gid.{Gid}
use Rattle.cf_table.specs.declared.BConn.{BConn}
use Rattle.cf_table.specs.Groupings.{Groupings, connection_of, patterns_of}
use Rattle.cf_table.proofs.Told.{good_node}
use Rattle.cf_table.proofs.Above.{middles_above}
use Rattle.cf_build.proofs.PartLaws.{sub_of_a, sub_of_b}
use Rattle.cf_build.specs.Assembling.{HasCanon}
use Rattle.cf_pair.proofs.Zips.{Both}
use Rattle.cf_pair.proofs.Pairs.{middles_canon, middles_in, level_with}
use Rattle.cf_pair.specs.Charges.{pair_work, ArePartsOf, IsCharged}

abbrev made : ℕ → List ℕ → Pattern
made l r = record { level = l; ranks = r }

-- Different pairs of parts of two patterns count at most the product of the two work sizes.
pub work_within : (p q : Pattern) (ks : List (Pattern × Pattern)) → AllDiffer ks
    → ((m : ℕ) (k : Pattern × Pattern) → slice_get ks m ≡ Some k → Contains (sub p.level p.ranks) k.0 × Contains (sub q.level q.ranks) k.1)
    → sum_by pair_work ks ≤ work_size p * work_size q
work_within p q ks d h =
    pairs_within (λ (x : Pattern). node_work x.level x.ranks) (λ (y : Pattern). node_work y.level y.ranks) ks (distinct same_pattern (sub p.level p.ranks)) (distinct same_pattern (sub q.level q.ranks)) d
    (λ m k hk. (let r = h m k hk in (in_distinct (sub p.level p.ranks) k.0 r.0, in_distinct (sub q.level q.ranks) k.1 r.1)))

-- no pair is looked at, but for `own` steps
pub charged_none : (b n : List (Pattern × Pattern)) (p q : Pattern) (limit own s e : ℕ) (ok : Bool) → n ≡ b → e ≤ s + own → IsCharged b n p q limit own s e ok
charged_none b n p q limit own s e ok same le = record {
  all = [];
  differ = λ d. subst (λ (v : List (Pattern × Pattern)). AllDiffer v) (sym (append-nil b)) d;
  parts = λ i d l. absurd (omega (arith, l));
  cost = omega (arith, le);
  kept = λ h. same ∙ sym (append-nil b);
}

-- one after another
pub charged_then : (b m n : List (Pattern × Pattern)) (p q p' q' : Pattern) (limit limit' own own1 own2 s s1 s2 e : ℕ) (ok : Bool) → IsCharged b m p q limit own1 s s1 true → IsCharged m n p' q' limit' own2 s2 e ok
    → ((k : Pattern × Pattern) → ArePartsOf p' q' limit' k → ArePartsOf p q limit k) → s2 + own1 + own2 ≤ s1 + own → IsCharged b n p q limit own s e ok
charged_then b m n p q p' q' limit limit' own own1 own2 s s1 s2 e ok c d up le =
    let m_is : m ≡ b ++ c.all = c.kept refl in
    let join : (b ++ c.all) ++ d.all ≡ b ++ (c.all ++ d.all) = append_assoc b c.all d.all in
    record {
      all = c.all ++ d.all;
      differ = λ h. subst (λ (v : List (Pattern × Pattern)). AllDiffer v) (ap (λ (v : List (Pattern × Pattern)). v ++ d.all) m_is ∙ join) (d.differ (subst (λ (v : List (Pattern × Pattern)). AllDiffer v) (sym m_is) (c.differ h)));
      parts = All-append (ArePartsOf p q limit) c.all d.all c.parts (All-weaker (ArePartsOf p' q' limit') (ArePartsOf p q limit) up d.all d.parts);
      cost = omega (arith, c.cost, d.cost, le, sum_by-append pair_work c.all d.all);
      kept = λ h. d.kept h ∙ ap (λ (v : List (Pattern × Pattern)). v ++ d.all) m_is ∙ join;
    }

-- more steps of its own, and an answer that may be an error
pub charged_weaker : (b n : List (Pattern × Pattern)) (p q : Pattern) (limit own own' s e : ℕ) (ok ok' : Bool) → IsCharged b n p q limit own s e ok → own ≤ own' → (IsTrue ok' → IsTrue ok) → IsCharged b n p q limit own' s e ok'
charged_weaker b n p q limit own own' s e ok ok' c le f = record {
  all = c.all;
  differ = c.differ;
  parts = c.parts;
  cost = omega (arith, c.cost, le);
  kept = λ h. c.kept (f h);
}

-- what stands in two lists, one after another, stands in one of them
in_either : {A : Type 0} (xs ys : List A) (i : ℕ) (x : A) → slice_get (xs ++ ys) i ≡ Some x → (slice_get xs i ≡ Some x) ⊎ ((j : ℕ) × (slice_get ys j ≡ Some x))
in_either [] ys i x h = inr (i, h)
in_either (z ∷ xs) ys zero x h = inl h
in_either (z ∷ xs) ys (suc i) x h = in_either xs ys i x h

new_after : (b all : List (Pattern × Pattern)) (p q : Pattern) → All (ArePartsOf p q p.level) all → IsNew b (p, q) → IsNew (b ++ all) (p, q)
new_after b all p q parts new = λ i h. elim (in_either b all i (p, q) h) [
  | inl l ↦ new i l
  | inr r ↦ (let low = (parts r.0 (p, q) (slice_get_within all r.0 (p, q) r.1)).level in
      omega (arith, low, ap (λ (k : Pattern × Pattern). k.0.level) (get_or_from_slice_get all r.0 (p, q) (p, q) r.1)))
]

-- a pair of one level isn't among pairs of parts below that level
pub still_new : (b m : List (Pattern × Pattern)) (p q : Pattern) (own s e : ℕ) → IsCharged b m p q p.level own s e true → IsNew b (p, q) → IsNew m (p, q)
still_new b m p q own s e c new = subst (λ (v : List (Pattern × Pattern)). IsNew v (p, q)) (sym (c.kept refl)) (new_after b c.all p q c.parts new)

-- the pair itself is looked at, and kept
pub charged_self : (b m n : List (Pattern × Pattern)) (p q : Pattern) (own s e : ℕ) (ok ok' : Bool) → IsCharged b m p q p.level own s e ok → IsNew b (p, q) → own ≤ 2 * pair_work (p, q) → Contains (sub p.level p.ranks) p → Contains (sub q.level q.ranks) q
    → (IsTrue ok' → IsTrue ok × (n ≡ m ++ (p, q) ∷ [])) → IsCharged b n p q (suc p.level) 0 s e ok'
charged_self b m n p q own s e ok ok' c new le hp hq f =
    let join : (b ++ c.all) ++ (p, q) ∷ [] ≡ b ++ (c.all ++ (p, q) ∷ []) = append_assoc b c.all ((p, q) ∷ []) in
    let one : ArePartsOf p q (suc p.level) (p, q) = record { first = hp; second = hq; level = omega arith } in
    let fresh : IsNew (b ++ c.all) (p, q) = new_after b c.all p q c.parts new in
    record {
      all = c.all ++ (p, q) ∷ [];
      differ = λ h. subst (λ (v : List (Pattern × Pattern)). AllDiffer v) join (AllDiffer-push (b ++ c.all) (p, q) (c.differ h) fresh);
      parts = All-push (ArePartsOf p q (suc p.level)) c.all (p, q) (All-weaker (ArePartsOf p q p.level) (ArePartsOf p q (suc p.level)) (λ k h. record { first = h.first; second = h.second; level = omega (arith, h.level) }) c.all c.parts) one;
      cost = omega (arith, c.cost, le, sum_by-append pair_work c.all ((p, q) ∷ []), sum_by-cons pair_work (p, q) []);
      kept = λ h. (let r = f h in r.1 ∙ ap (λ (v : List (Pattern × Pattern)). v ++ (p, q) ∷ []) (c.kept r.0) ∙ join);
    }

differ_last : {A : Type 0} (xs ys : List A) → AllDiffer (xs ++ ys) → AllDiffer ys
differ_last [] ys d = d
differ_last (x ∷ xs) ys d = differ_last xs ys (differ_rest x (xs ++ ys) d)

-- all steps
pub charged_bound : (b n : List (Pattern × Pattern)) (p q : Pattern) (limit s e : ℕ) (ok : Bool) → IsCharged b n p q limit 0 s e ok → AllDiffer b → e ≤ s + 2 * (work_size p * work_size q)
charged_bound b n p q limit s e ok c d =
    let w : sum_by pair_work c.all ≤ work_size p * work_size q = work_within p q c.all (differ_last b c.all (c.differ d)) (λ m k hk.
    (let r = c.parts m k (slice_get_within c.all m k hk) in
    let same : get_or c.all m k ≡ k = get_or_from_slice_get c.all m k k hk in
    (subst (λ (x : Pattern × Pattern). Contains (sub p.level p.ranks) x.0) same r.first, subst (λ (x : Pattern × Pattern). Contains (sub q.level q.ranks) x.1) same r.second))) in
    omega (arith, c.cost, w)

-- a pattern is a part of itself
pub sub_self : (l : ℕ) (r : List ℕ) → Contains (sub l r) (made l r)
unfolding sub
sub_self zero r = (0, omega arith, refl)
sub_self (suc l) r = (0, omega arith, refl)

-- parts of the A-callee are parts of the grouping
pub in_a : (t : Levels) → IsGood t → (k l i a : ℕ) → l + 1 ≡ k → i < count t k → a ≡ (node t k i).a_callee → (x : Pattern) → Contains (sub l (pattern t l a)) x → Contains (sub k (pattern t k i)) x
in_a t g k l i a e hi ae x h =
    subst (λ (m : ℕ). i < count t m → a ≡ (node t m i).a_callee → Contains (sub m (pattern t m i)) x) (sym (add-one l) ∙ e)
    (λ hi ae. sub_of_a t g l i hi x (subst (λ (y : ℕ). Contains (sub l (pattern t l y)) x) ae h)) hi ae

-- so are parts of a B-callee, which is read in a table that has grown
pub in_b : (t s : Levels) → IsGood t → Extends t s → (k l i j c : ℕ) → l + 1 ≡ k → i < count t k → j < length (node t k i).connections → c ≡ (connection_at (node s k i).connections j).callee → (x : Pattern) → Contains (sub l (pattern s l c)) x → Contains (sub k (pattern t k i)) x
in_b t s g up k l i j c e hi hj ce x h =
    let b = connection_at (node t k i).connections j in
    let same : c ≡ b.callee = ce ∙ ap (λ (n : Node). (connection_at n.connections j).callee) (up.kept k i hi) in
    let own : b.callee < count t l = ((good_node t g k l i e hi).good_connections j hj).callee_exists in
    let here : Contains (sub l (pattern t l b.callee)) x = subst (λ (r : List ℕ). Contains (sub l r) x) (ap (pattern s l) same ∙ pattern_kept t s g up l b.callee own) h in
    subst (λ (m : ℕ). i < count t m → j < length (node t m i).connections → Contains (sub l (pattern t l (connection_at (node t m i).connections j).callee)) x → Contains (sub m (pattern t m i)) x) (sym (add-one l) ∙ e)
    (λ hi hj w. sub_of_b t g l i j hi hj x w) hi hj here

-- what a grouping above level 0 counts
node_counts : (t : Levels) → IsGood t → (k l i : ℕ) → l + 1 ≡ k → i < count t k → node_work k (pattern t k i) ≡ 1 + length (node t k i).connections
node_counts t g k l i e hi =
    subst (λ (m : ℕ). i < count t m → node_work m (pattern t m i) ≡ 1 + length (node t m i).connections) (sym (add-one l) ∙ e)
    (λ hi. ap (λ (n : ℕ). 1 + n) (sym (middles_above t g (suc l) l i refl hi))) hi

paid : (n a b x y : ℕ) → n ≤ a * b → x ≡ 1 + a → y ≡ 1 + b → 2 + 2 * n ≤ 2 * (x * y)
paid n a b x y h p q =
    let e : (1 + a) * (1 + b) ≡ 1 + a + b + a * b = grind arith in
    subst (λ (u : ℕ). 2 + 2 * n ≤ 2 * (u * y)) (sym p) (subst (λ (v : ℕ). 2 + 2 * n ≤ 2 * ((1 + a) * v)) (sym q) (omega (arith, h, e)))

-- the looks at two groupings and at each pair of middle vertices are within what the pair of patterns counts
work_pays : (t : Levels) → IsGood t → (g h : Gid) (l : ℕ) (ms : List (ℕ × ℕ)) → l + 1 ≡ g.level → l + 1 ≡ h.level → g.at < count t g.level → h.at < count t h.level → AllDiffer ms → All (Both (length (node t g.level g.at).connections) (length (node t h.level h.at).connections)) ms
    → 2 + 2 * length ms ≤ 2 * pair_work (patterns_of t g h)
work_pays t good g h l ms e f hg hh d both =
    let a = length (node t g.level g.at).connections in
    let b = length (node t h.level h.at).connections in
    paid (length ms) a b (node_work g.level (pattern t g.level g.at)) (node_work h.level (pattern t h.level h.at)) (few_pairs a b ms d both) (node_counts t good g.level l g.at e hg) (node_counts t good h.level l h.at f hh)

abbrev two : Pattern → Pattern → Pattern × Pattern
two p q = (p, q)

-- the patterns stay as the table grows
pub pair_kept : (t u : Levels) → IsGood t → Extends t u → (g h : Gid) → g.at < count t g.level → h.at < count t h.level → patterns_of u g h ≡ patterns_of t g h
pair_kept t u good x g h hg hh =
    ap (λ (r : List ℕ). two (made g.level r) (made h.level (pattern u h.level h.at))) (pattern_kept t u good x g.level g.at hg)
    ∙ ap (λ (r : List ℕ). two (made g.level (pattern t g.level g.at)) (made h.level r)) (pattern_kept t u good x h.level h.at hh)

-- the pairs of middle vertices differ and are in range
pub middles_fit : (t u : Levels) (g h a b e : Gid) (ms : List (ℕ × ℕ)) → IsGood t → IsGood u → Extends t u → 1 ≤ g.level → h.level ≡ g.level → g.at < count t g.level → h.at < count t h.level
    → a.level + 1 ≡ g.level → a.at ≡ (node t g.level g.at).a_callee → b.level + 1 ≡ h.level → b.at ≡ (node t h.level h.at).a_callee → HasCanon u e a.level (zip (pattern t a.level a.at) (pattern t b.level b.at)) ms
    → AllDiffer ms × All (λ m. (m.0 < length (node u g.level g.at).connections) × (m.1 < length (node u h.level h.at).connections)) ms
middles_fit t u g h a b e ms gt gu x above lev own_g own_h la ea lb eb canon =
    let k = g.level in
    let l = k - 1 in
    let at = level_with t u e a b l zip ms canon (omega (arith, la)) (omega (arith, lb, lev)) in
    let h0 : h.at < count t k = subst (λ (i : ℕ). h.at < count t i) lev own_h in
    let b_is : b.at ≡ (node t k h.at).a_callee = subst (λ (i : ℕ). b.at ≡ (node t i h.at).a_callee) lev eb in
    let below : l + 1 ≡ k = omega (arith, above) in
    let mc = middles_canon t u gt x k l g.at h.at a.at b.at (pattern u e.level e.at) ms below own_g h0 ea b_is at.canon in
    let range = middles_in u gu k l g.at h.at (pattern u e.level e.at) ms below (omega (arith, own_g, x.more k)) (omega (arith, h0, x.more k)) mc in
    (at.canon.differ, subst (λ (i : ℕ). All (Both (length (node u k g.at).connections) (length (node u i h.at).connections)) ms) (sym lev) range)

-- parts of the A-callees are parts of the two groupings
a_parts : (t : Levels) → IsGood t → (g h a b : Gid) → g.at < count t g.level → h.at < count t h.level → a.level + 1 ≡ g.level → a.at ≡ (node t g.level g.at).a_callee → b.level + 1 ≡ h.level → b.at ≡ (node t h.level h.at).a_callee
    → (k : Pattern × Pattern) → ArePartsOf (patterns_of t a b).0 (patterns_of t a b).1 (suc a.level) k → ArePartsOf (patterns_of t g h).0 (patterns_of t g h).1 g.level k
a_parts t good g h a b hg hh la ea lb eb k p = record {
  first = in_a t good g.level a.level g.at a.at la hg ea k.0 p.first;
  second = in_a t good h.level b.level h.at b.at lb hh eb k.1 p.second;
  level = omega (arith, p.level, la);
}

-- the steps of the A-callees' product, with the two before it
pub callee_charged : (t : Groupings) (n : List (Pattern × Pattern)) (g h a b : Gid) (s0 s2 s3 : ℕ) (ok : Bool) → IsGood t.levels → g.at < count t.levels g.level → h.at < count t.levels h.level
    → a.level + 1 ≡ g.level → a.at ≡ (node t.levels g.level g.at).a_callee → b.level + 1 ≡ h.level → b.at ≡ (node t.levels h.level h.at).a_callee → s2 ≤ s0 + 2
    → IsCharged t.products n (patterns_of t.levels a b).0 (patterns_of t.levels a b).1 (suc a.level) 0 s2 s3 ok → IsCharged t.products n (patterns_of t.levels g h).0 (patterns_of t.levels g h).1 g.level 2 s0 s3 ok
callee_charged t n g h a b s0 s2 s3 ok good hg hh la ea lb eb le c =
    let p = patterns_of t.levels g h in
    let q = patterns_of t.levels a b in
    charged_then t.products t.products n p.0 p.1 q.0 q.1 g.level (suc a.level) 2 2 0 s0 s2 s2 s3 ok (charged_none t.products t.products p.0 p.1 g.level 2 s0 s2 true refl le) c
    (a_parts t.levels good g h a b hg hh la ea lb eb) (omega arith)

-- two steps are within what the pair of patterns counts
pub two_paid : (t : Levels) → IsGood t → (g h : Gid) → 1 ≤ g.level → h.level ≡ g.level → g.at < count t g.level → h.at < count t h.level → 2 ≤ 2 * pair_work (patterns_of t g h)
two_paid t good g h above lev hg hh =
    let r = work_pays t good g h (g.level - 1) [] (omega (arith, above)) (omega (arith, above, lev)) hg hh (λ i j x hi hj. absurd (let no : slice_get {X = _} [] i ≡ Some x = hi in cc)) (λ i d l. absurd (omega (arith, l))) in
    omega (arith, r)

-- the steps of all rows after it
pub rows_charged : (t u : Groupings) (n : List (Pattern × Pattern)) (g h : Gid) (ms : List (ℕ × ℕ)) (s0 s3 s4 : ℕ) (ok : Bool) → IsGood t.levels → IsGood u.levels → Extends t.levels u.levels → 1 ≤ g.level → h.level ≡ g.level → g.at < count t.levels g.level → h.at < count t.levels h.level
    → AllDiffer ms × All (λ m. (m.0 < length (node u.levels g.level g.at).connections) × (m.1 < length (node u.levels h.level h.at).connections)) ms
    → IsCharged t.products u.products (patterns_of t.levels g h).0 (patterns_of t.levels g h).1 g.level 2 s0 s3 true
    → IsCharged u.products n (patterns_of u.levels g h).0 (patterns_of u.levels g h).1 g.level (2 * length ms) s3 s4 ok
    → IsCharged t.products n (patterns_of t.levels g h).0 (patterns_of t.levels g h).1 g.level (2 * pair_work (patterns_of t.levels g h)) s0 s4 ok
rows_charged t u n g h ms s0 s3 s4 ok gt gu x above lev hg hh fit c d =
    let p = patterns_of t.levels g h in
    let same : patterns_of u.levels g h ≡ p = pair_kept t.levels u.levels gt x g h hg hh in
    let d' : IsCharged u.products n p.0 p.1 g.level (2 * length ms) s3 s4 ok = subst (λ (k : Pattern × Pattern). IsCharged u.products n k.0 k.1 g.level (2 * length ms) s3 s4 ok) same d in
    let w : 2 + 2 * length ms ≤ 2 * pair_work (patterns_of u.levels g h) =
    work_pays u.levels gu g h (g.level - 1) ms (omega (arith, above)) (omega (arith, above, lev)) (omega (arith, hg, x.more g.level)) (omega (arith, hh, x.more h.level)) fit.0 fit.1 in
    let w' : 2 + 2 * length ms ≤ 2 * pair_work p = subst (λ (k : Pattern × Pattern). 2 + 2 * length ms ≤ 2 * pair_work k) same w in
    charged_then t.products u.products n p.0 p.1 p.0 p.1 g.level g.level (2 * pair_work p) 2 (2 * length ms) s0 s3 s3 s4 ok c d' (λ k h. h) (omega (arith, w'))

-- an error is no answer
pub failed : {T E : Type 0} (r : Result T E) → IsErr r → IsTrue (is_ok r) → ⊥
failed (Ok x) h e = cc
failed (Err x) h e = cc

-- parts of the B-callees that a pair of middle vertices leads to are parts of the two groupings
pub row_parts : (t s : Groupings) → IsGood t.levels → Extends t.levels s.levels → (g h : Gid) (b c : BConn) (m : ℕ × ℕ) → g.at < count t.levels g.level → h.at < count t.levels h.level
    → (m.0 < length (node t.levels g.level g.at).connections) × (m.1 < length (node t.levels h.level h.at).connections) → b.«to».level + 1 ≡ g.level → c.«to».level + 1 ≡ h.level
    → connection_of s.tuples b ≡ connection_at (node s.levels g.level g.at).connections m.0 → connection_of s.tuples c ≡ connection_at (node s.levels h.level h.at).connections m.1
    → (k : Pattern × Pattern) → ArePartsOf (patterns_of s.levels b.«to» c.«to»).0 (patterns_of s.levels b.«to» c.«to»).1 (suc b.«to».level) k → ArePartsOf (patterns_of t.levels g h).0 (patterns_of t.levels g h).1 g.level k
row_parts t s good up g h b c m hg hh hm lb lc cb cc' k p = record {
  first = in_b t.levels s.levels good up g.level b.«to».level g.at m.0 b.«to».at lb hg hm.0 (ap (λ (x : Connection). x.callee) cb) k.0 p.first;
  second = in_b t.levels s.levels good up h.level c.«to».level h.at m.1 c.«to».at lc hh hm.1 (ap (λ (x : Connection). x.callee) cc') k.1 p.second;
  level = omega (arith, p.level, lb);
}
