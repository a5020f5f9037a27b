use Rattle.std.proofs.Common.{◌≡◌, ℕ, zero, suc, ◌<◌, ◌≤◌, max, Bool, true, false, List, [], ◌∷◌, length, nat_eq, refl, sym, ◌∙◌, ap, arith, inl, inr}
use Rattle.std.specs.Prelude.{◌&&◌, ◌||◌, not, nat_le, nat_lt, filter, cond, Some, slice_get}
use Rattle.std.specs.Bool.{Decides}
use Rattle.std.specs.Cmp.Lexicographic.{pointwise}
use Rattle.std.proofs.lemmas.Bool.{cases_lt, false≢true}
use Rattle.std.proofs.lemmas.Bool.Decides.{Decides-and, Decides-like, Decides-below_and, nat_tests}
use Rattle.std.proofs.lemmas.List.{get_or_past}
use Rattle.std.proofs.lemmas.Option.{same_Some}
use Rattle.std.proofs.lemmas.Slice.Eq.{slice_eq-Decides}
use Rattle.cf_model.specs.Renumbering.{Grows, IsApart}
use Rattle.cf_model.specs.Patterns.{same_ranks}
use Rattle.cf_model.specs.Diagrams.{Levels, Connection, Node, exit_at, connection_at, count, node, all_returns, exits, IsGood}
use Rattle.cf_model.proofs.RenumberingLaws.{nat_decides}
use Rattle.cf_model.proofs.PatternLaws.{ranks_decide}
use Rattle.cf_model.proofs.Canonicity.{conn_same, node_same}

-- The facts that make a table good, one by one.
pub data Fact : Type 0 where
  TwoBaseGroupings : Fact
  ACalleesExist : Fact
  MiddlesMatchExits : Fact
  BCalleesExist : Fact
  EntriesMatchExits : Fact
  NoEntryTwice : Fact
  FirstReach : Fact
  NoEqualConnections : Fact
  NoEqualNodes : Fact

-- a fact on each node, given how many groupings the level below has and their numbers of exits
abbrev pub EachNode : (ℕ → (ℕ → ℕ) → Node → Type 0) → Levels → Type 0
EachNode P t = (l i : ℕ) → i < count t (suc l) → P (count t l) (exits t l) (node t (suc l) i)

-- a fact on each B-connection of a node
abbrev pub EachConnection : (Connection → Type 0) → Node → Type 0
EachConnection P n = (j : ℕ) → j < length n.connections → P (connection_at n.connections j)

-- what a fact says of a table
abbrev pub Holds : Fact → Levels → Type 0
Holds TwoBaseGroupings t = count t 0 ≡ 2
Holds ACalleesExist t = EachNode (λ c e n. n.a_callee < c) t
Holds MiddlesMatchExits t = EachNode (λ c e n. length n.connections ≡ e n.a_callee) t
Holds BCalleesExist t = EachNode (λ c e n. EachConnection (λ b. b.callee < c) n) t
Holds EntriesMatchExits t = EachNode (λ c e n. EachConnection (λ b. length b.returns ≡ e b.callee) n) t
Holds NoEntryTwice t = EachNode (λ c e n. EachConnection (λ b. IsApart (exit_at b) (length b.returns)) n) t
Holds FirstReach t = EachNode (λ c e n. Grows 0 (all_returns n.connections)) t
Holds NoEqualConnections t = EachNode (λ c e n. IsApart (connection_at n.connections) (length n.connections)) t
Holds NoEqualNodes t = (l : ℕ) → IsApart (node t (suc l)) (count t (suc l))

-- a table of which each fact holds is good
pub good_from_facts : (t : Levels) → ((f : Fact) → Holds f t) → IsGood t
good_from_facts t h = record {
  base = h TwoBaseGroupings;
  good_nodes = λ l i hi. record {
    callee_exists = h ACalleesExist l i hi;
    middles = h MiddlesMatchExits l i hi;
    good_connections = λ j hj. record { callee_exists = h BCalleesExist l i hi j hj; entries = h EntriesMatchExits l i hi j hj; once = h NoEntryTwice l i hi j hj };
    first_reach = h FirstReach l i hi;
    differ = h NoEqualConnections l i hi;
  };
  nodes_differ = h NoEqualNodes;
}

-- and each holds of a good table
pub facts_from_good : (t : Levels) → IsGood t → (f : Fact) → Holds f t
facts_from_good t g TwoBaseGroupings = g.base
facts_from_good t g ACalleesExist = λ l i hi. (g.good_nodes l i hi).callee_exists
facts_from_good t g MiddlesMatchExits = λ l i hi. (g.good_nodes l i hi).middles
facts_from_good t g BCalleesExist = λ l i hi j hj. ((g.good_nodes l i hi).good_connections j hj).callee_exists
facts_from_good t g EntriesMatchExits = λ l i hi j hj. ((g.good_nodes l i hi).good_connections j hj).entries
facts_from_good t g NoEntryTwice = λ l i hi j hj. ((g.good_nodes l i hi).good_connections j hj).once
facts_from_good t g FirstReach = λ l i hi. (g.good_nodes l i hi).first_reach
facts_from_good t g NoEqualConnections = λ l i hi. (g.good_nodes l i hi).differ
facts_from_good t g NoEqualNodes = g.nodes_differ

-- whether each number below n passes
abbrev pub all_below : (ℕ → Bool) → ℕ → Bool
all_below p zero = true
all_below p (suc n) = p n && all_below p n

below_decides : (p : ℕ → Bool) (P : ℕ → Type 0) → ((k : ℕ) → Decides (p k) (P k)) → (n : ℕ) → Decides (all_below p n) ((k : ℕ) → k < n → P k)
below_decides p P each n = Decides-below_and p P (all_below p) each refl (λ k. refl) n

-- the test of `IsApart`
abbrev pub apart_test : {A : Type 0} → (A → A → Bool) → (ℕ → A) → ℕ → Bool
apart_test eq f k = all_below (λ i. all_below (λ j. not (eq (f i) (f j)) || nat_eq i j) k) k

implies_decides : {P Q : Type 0} (a b : Bool) → Decides a P → Decides b Q → Decides (not a || b) (P → Q)
implies_decides true b p q = (λ h x. q.0 h, λ f. q.1 (f (p.0 refl)))
implies_decides false b p q = (λ h x. absurd (false≢true (p.1 x)), λ f. refl)

apart_decides : {A : Type 0} (eq : A → A → Bool) → ((x y : A) → Decides (eq x y) (x ≡ y)) → (f : ℕ → A) (k : ℕ) → Decides (apart_test eq f k) (IsApart f k)
apart_decides eq same f k =
    Decides-like (apart_test eq f k) (λ h i j hi hj e. h i hi j hj e) (λ h i hi j hj e. h i j hi hj e)
    (below_decides (λ i. all_below (λ j. not (eq (f i) (f j)) || nat_eq i j) k) (λ i. (j : ℕ) → j < k → f i ≡ f j → i ≡ j)
    (λ i. below_decides (λ j. not (eq (f i) (f j)) || nat_eq i j) (λ j. f i ≡ f j → i ≡ j) (λ j. implies_decides (eq (f i) (f j)) (nat_eq i j) (same (f i) (f j)) (nat_decides i j)) k) k)

-- the test of `Grows`
abbrev pub grows_test : ℕ → List ℕ → Bool
grows_test n [] = true
grows_test n (x ∷ xs) = nat_le x n && grows_test (max n (suc x)) xs

le_decides : (a b : ℕ) → Decides (nat_le a b) (a ≤ b)
le_decides a b = (λ h. grind (arith, nat_tests), λ h. grind (arith, nat_tests))

lt_decides : (a b : ℕ) → Decides (nat_lt a b) (a < b)
lt_decides a b = (λ h. grind (arith, nat_tests), λ h. grind (arith, nat_tests))

grows_decides : (n : ℕ) (xs : List ℕ) → Decides (grows_test n xs) (Grows n xs)
grows_decides n [] = (λ h. tt, λ h. refl)
grows_decides n (x ∷ xs) = Decides-and (nat_le x n) (grows_test (max n (suc x)) xs) (le_decides x n) (grows_decides (max n (suc x)) xs)

abbrev pub same_connection : Connection → Connection → Bool
same_connection a b = nat_eq a.callee b.callee && same_ranks a.returns b.returns

connection_decides : (a b : Connection) → Decides (same_connection a b) (a ≡ b)
connection_decides a b =
    Decides-like (same_connection a b) (λ h. conn_same a b h.0 h.1) (λ e. (ap (λ (c : Connection). c.callee) e, ap (λ (c : Connection). c.returns) e))
    (Decides-and (nat_eq a.callee b.callee) (same_ranks a.returns b.returns) (nat_decides a.callee b.callee) (ranks_decide a.returns b.returns))

abbrev pub same_node : Node → Node → Bool
same_node a b = nat_eq a.a_callee b.a_callee && pointwise same_connection a.connections b.connections

node_decides : (a b : Node) → Decides (same_node a b) (a ≡ b)
node_decides a b =
    Decides-like (same_node a b) (λ h. node_same a b h.0 h.1) (λ e. (ap (λ (c : Node). c.a_callee) e, ap (λ (c : Node). c.connections) e))
    (Decides-and (nat_eq a.a_callee b.a_callee) (pointwise same_connection a.connections b.connections) (nat_decides a.a_callee b.a_callee) (slice_eq-Decides connection_decides a.connections b.connections (pointwise same_connection a.connections b.connections) refl))

-- a test of each node
abbrev pub node_test : (ℕ → (ℕ → ℕ) → Node → Bool) → Levels → Bool
node_test p t = all_below (λ l. all_below (λ i. p (count t l) (exits t l) (node t (suc l) i)) (count t (suc l))) (length t)

-- a test of each B-connection
abbrev pub connection_test : (Connection → Bool) → Node → Bool
connection_test p n = all_below (λ j. p (connection_at n.connections j)) (length n.connections)

-- a level past the table's has no node
none_past : (t : Levels) (l i : ℕ) → length t ≤ l → i < count t (suc l) → ⊥
none_past t l i h hi = omega (arith, hi, ap length (get_or_past t (suc l) [] (omega (arith, h))))

each_node_decides : (p : ℕ → (ℕ → ℕ) → Node → Bool) (P : ℕ → (ℕ → ℕ) → Node → Type 0) → ((c : ℕ) (e : ℕ → ℕ) (n : Node) → Decides (p c e n) (P c e n)) → (t : Levels) → Decides (node_test p t) (EachNode P t)
each_node_decides p P each t =
    Decides-like (node_test p t)
    (λ h l i hi. elim (cases_lt l (length t)) [ inl k ↦ h l k i hi | inr k ↦ absurd (none_past t l i k hi) ])
    (λ h l k i hi. h l i hi)
    (below_decides (λ l. all_below (λ i. p (count t l) (exits t l) (node t (suc l) i)) (count t (suc l))) (λ l. (i : ℕ) → i < count t (suc l) → P (count t l) (exits t l) (node t (suc l) i))
    (λ l. below_decides (λ i. p (count t l) (exits t l) (node t (suc l) i)) (λ i. P (count t l) (exits t l) (node t (suc l) i)) (λ i. each (count t l) (exits t l) (node t (suc l) i)) (count t (suc l))) (length t))

each_connection_decides : (p : Connection → Bool) (P : Connection → Type 0) → ((b : Connection) → Decides (p b) (P b)) → (n : Node) → Decides (connection_test p n) (EachConnection P n)
each_connection_decides p P each n = below_decides (λ j. p (connection_at n.connections j)) (λ j. P (connection_at n.connections j)) (λ j. each (connection_at n.connections j)) (length n.connections)

-- the test of a fact
abbrev pub passes : Fact → Levels → Bool
passes TwoBaseGroupings t = nat_eq (count t 0) 2
passes ACalleesExist t = node_test (λ c e n. nat_lt n.a_callee c) t
passes MiddlesMatchExits t = node_test (λ c e n. nat_eq (length n.connections) (e n.a_callee)) t
passes BCalleesExist t = node_test (λ c e n. connection_test (λ b. nat_lt b.callee c) n) t
passes EntriesMatchExits t = node_test (λ c e n. connection_test (λ b. nat_eq (length b.returns) (e b.callee)) n) t
passes NoEntryTwice t = node_test (λ c e n. connection_test (λ b. apart_test nat_eq (exit_at b) (length b.returns)) n) t
passes FirstReach t = node_test (λ c e n. grows_test 0 (all_returns n.connections)) t
passes NoEqualConnections t = node_test (λ c e n. apart_test same_connection (connection_at n.connections) (length n.connections)) t
passes NoEqualNodes t = all_below (λ l. apart_test same_node (node t (suc l)) (count t (suc l))) (length t)

-- the tests decide the facts
pub fact_decides : (f : Fact) (t : Levels) → Decides (passes f t) (Holds f t)
fact_decides TwoBaseGroupings t = nat_decides (count t 0) 2
fact_decides ACalleesExist t = each_node_decides (λ c e n. nat_lt n.a_callee c) (λ c e n. n.a_callee < c) (λ c e n. lt_decides n.a_callee c) t
fact_decides MiddlesMatchExits t = each_node_decides (λ c e n. nat_eq (length n.connections) (e n.a_callee)) (λ c e n. length n.connections ≡ e n.a_callee) (λ c e n. nat_decides (length n.connections) (e n.a_callee)) t
fact_decides BCalleesExist t = each_node_decides (λ c e n. connection_test (λ b. nat_lt b.callee c) n) (λ c e n. EachConnection (λ b. b.callee < c) n) (λ c e n. each_connection_decides (λ b. nat_lt b.callee c) (λ b. b.callee < c) (λ b. lt_decides b.callee c) n) t
fact_decides EntriesMatchExits t =
    each_node_decides (λ c e n. connection_test (λ b. nat_eq (length b.returns) (e b.callee)) n) (λ c e n. EachConnection (λ b. length b.returns ≡ e b.callee) n)
    (λ c e n. each_connection_decides (λ b. nat_eq (length b.returns) (e b.callee)) (λ b. length b.returns ≡ e b.callee) (λ b. nat_decides (length b.returns) (e b.callee)) n) t
fact_decides NoEntryTwice t =
    each_node_decides (λ c e n. connection_test (λ b. apart_test nat_eq (exit_at b) (length b.returns)) n) (λ c e n. EachConnection (λ b. IsApart (exit_at b) (length b.returns)) n)
    (λ c e n. each_connection_decides (λ b. apart_test nat_eq (exit_at b) (length b.returns)) (λ b. IsApart (exit_at b) (length b.returns)) (λ b. apart_decides nat_eq nat_decides (exit_at b) (length b.returns)) n) t
fact_decides FirstReach t = each_node_decides (λ c e n. grows_test 0 (all_returns n.connections)) (λ c e n. Grows 0 (all_returns n.connections)) (λ c e n. grows_decides 0 (all_returns n.connections)) t
fact_decides NoEqualConnections t =
    each_node_decides (λ c e n. apart_test same_connection (connection_at n.connections) (length n.connections)) (λ c e n. IsApart (connection_at n.connections) (length n.connections))
    (λ c e n. apart_decides same_connection connection_decides (connection_at n.connections) (length n.connections)) t
fact_decides NoEqualNodes t =
    Decides-like (passes NoEqualNodes t)
    (λ h l i j hi hj e. elim (cases_lt l (length t)) [ inl k ↦ h l k i j hi hj e | inr k ↦ absurd (none_past t l i k hi) ])
    (λ h l k. h l)
    (below_decides (λ l. apart_test same_node (node t (suc l)) (count t (suc l))) (λ l. IsApart (node t (suc l)) (count t (suc l))) (λ l. apart_decides same_node node_decides (node t (suc l)) (count t (suc l))) (length t))

abbrev pub all_facts : List Fact
all_facts = TwoBaseGroupings ∷ ACalleesExist ∷ MiddlesMatchExits ∷ BCalleesExist ∷ EntriesMatchExits ∷ NoEntryTwice ∷ FirstReach ∷ NoEqualConnections ∷ NoEqualNodes ∷ []

-- the facts that a table breaks
abbrev pub broken_facts : Levels → List Fact
broken_facts t = filter (λ f. not (passes f t)) all_facts

fact_place : (f : Fact) → (i : ℕ) × (slice_get all_facts i ≡ Some f)
fact_place TwoBaseGroupings = (0, refl)
fact_place ACalleesExist = (1, refl)
fact_place MiddlesMatchExits = (2, refl)
fact_place BCalleesExist = (3, refl)
fact_place EntriesMatchExits = (4, refl)
fact_place NoEntryTwice = (5, refl)
fact_place FirstReach = (6, refl)
fact_place NoEqualConnections = (7, refl)
fact_place NoEqualNodes = (8, refl)

none_left : {A : Type 0} (p : A → Bool) (xs : List A) → filter (λ x. not (p x)) xs ≡ [] → (i : ℕ) (x : A) → slice_get xs i ≡ Some x → p x ≡ true
none_left p [] h i x e = cc
none_left p (y ∷ ys) h i x e = by (p y) refl h (none_left p ys) i e
  where
    by : (b : Bool) → p y ≡ b → cond (not b) (y ∷ filter (λ x. not (p x)) ys) (filter (λ x. not (p x)) ys) ≡ [] → (filter (λ x. not (p x)) ys ≡ [] → (i : ℕ) (x : _) → slice_get ys i ≡ Some x → p x ≡ true) → (i : ℕ) → slice_get (y ∷ ys) i ≡ Some x → p x ≡ true
    by true t h rest zero e = ap p (sym (same_Some y x e)) ∙ t
    by true t h rest (suc i) e = rest h i x e
    by false t h rest i e = cc

-- a table that breaks none is good
pub good_from_tests : (t : Levels) → broken_facts t ≡ [] → IsGood t
good_from_tests t h = good_from_facts t (λ f. (fact_decides f t).0 (none_left (λ f. passes f t) all_facts h (fact_place f).0 f (fact_place f).1))
