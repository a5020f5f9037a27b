use Rattle.std.proofs.Common.{◌≡◌, ℕ, zero, suc, refl, ◌+◌, ◌<◌, List, [], length, get_or, subst, sym, ap, ◌∙◌, IsTrue, ◌↔◌, nat_eq, arith, add-one, inl, inr}
use Rattle.std.specs.Prelude.{Result, Ok, Err, OnErr, Option, Some, None, MatchOption}
use Rattle.std.proofs.lemmas.Bool.{cases_lt}
use Rattle.std.proofs.lemmas.Bool.Decides.{nat_tests}
use Rattle.std.proofs.lemmas.List.{get_or_past}
use Rattle.cf_model.specs.Renumbering.{width}
use Rattle.cf_model.specs.Diagrams.{Levels, Connection, count, node, pattern, connection_at, exits, all_returns, IsGood, IsGoodNode}
use Rattle.cf_model.proofs.Canonicity.{canonical}
use Rattle.cf_table.specs.declared.Gid.{Gid}
use Rattle.cf_table.specs.declared.BConn.{BConn}

test_same : (a b : ℕ) → IsTrue (nat_eq a b) → a ≡ b
test_same a b h = grind (arith, nat_tests)

same_test : (a b : ℕ) → a ≡ b → IsTrue (nat_eq a b)
same_test a b h = grind (arith, nat_tests)

-- the test of two places is the test of two patterns
pub told : (t : Levels) → IsGood t → (k l i j : ℕ) → k ≡ l → i < count t k → j < count t l → IsTrue (nat_eq i j) ↔ (pattern t k i ≡ pattern t l j)
told t g k l i j e hi hj = (
  λ h. ap (λ (m : ℕ). pattern t m i) e ∙ ap (λ (m : ℕ). pattern t l m) (test_same i j h),
  λ h. same_test i j (canonical t g l i j (subst (λ (m : ℕ). i < count t m) e hi) hj (ap (λ (m : ℕ). pattern t m i) (sym e) ∙ h)),
)

abbrev made : ℕ → ℕ → Gid
made l a = record { level = l; at = a }

pub same_gid : (g h : Gid) → g.level ≡ h.level → g.at ≡ h.at → g ≡ h
same_gid g h a b = ap (λ (x : ℕ). made x g.at) a ∙ ap (λ (x : ℕ). made h.level x) b

abbrev connected : ℕ → ℕ → ℕ → BConn
connected l a r = record { «to» = made l a; ret = record { at = r } }

-- the B-connection of numbers that are all 0
abbrev pub blank : BConn
blank = connected 0 0 0

pub same_conn : (p q : BConn) → p.«to».level ≡ q.«to».level → p.«to».at ≡ q.«to».at → p.ret.at ≡ q.ret.at → p ≡ q
same_conn p q a b c = ap (λ (x : ℕ). connected x p.«to».at p.ret.at) a ∙ ap (λ (x : ℕ). connected q.«to».level x p.ret.at) b ∙ ap (λ (x : ℕ). connected q.«to».level q.«to».at x) c

pub on_err : {T E : Type 0} (r : Result T E) (P : Type 0) → P → OnErr r P
on_err (Ok x) P h = tt
on_err (Err x) P h = h

-- a list that has an entry is there
pub inside : {A : Type 0} (xss : List (List A)) (l i : ℕ) → i < length (get_or xss l []) → l < length xss
inside xss l i h = elim (cases_lt l (length xss)) [
  | inl y ↦ y
  | inr n ↦ (let e : get_or xss l [] ≡ [] = get_or_past xss l [] n in absurd (omega (arith, h, ap length e)))
]

-- the node of a grouping above level 0 is good over the level below
pub good_node : (t : Levels) → IsGood t → (k l i : ℕ) → l + 1 ≡ k → i < count t k → IsGoodNode (count t l) (exits t l) (node t k i)
good_node t g k l i e = subst (λ (m : ℕ). i < count t m → IsGoodNode (count t l) (exits t l) (node t m i)) (sym (add-one l) ∙ e) (g.good_nodes l i)

exits_at : (t : Levels) (i : ℕ) → i < 2 → i + 1 ≡ exits t 0 i
exits_at t zero h = refl
exits_at t (suc zero) h = refl
exits_at t (suc (suc i)) h = absurd (omega (arith, h))

-- the exits of the groupings of level 0
pub base_exits : (t : Levels) → IsGood t → (l i : ℕ) → l ≡ 0 → i < count t l → (i < 2) × (i + 1 ≡ exits t l i)
base_exits t g l i e h =
    let lt : i < 2 = omega (arith, subst (λ (m : ℕ). i < count t m) e h, g.base) in
    (lt, exits_at t i lt ∙ ap (λ (m : ℕ). exits t m i) (sym e))

-- a good node's callees are there
pub callee_owned : (t : Levels) → IsGood t → (k l i j : ℕ) → l + 1 ≡ k → i < count t k → j < length (node t k i).connections → (b : Connection) → b ≡ connection_at (node t k i).connections j → b.callee < count t l
callee_owned t g k l i j e h hj b q = subst (λ (x : Connection). x.callee < count t l) (sym q) ((good_node t g k l i e h).good_connections j hj).callee_exists

-- the exits of a grouping above level 0
pub exits_above : (t : Levels) (k l i : ℕ) → l + 1 ≡ k → exits t k i ≡ width 0 (all_returns (node t k i).connections)
exits_above t k l i e = subst (λ (m : ℕ). exits t m i ≡ width 0 (all_returns (node t m i).connections)) (sym (add-one l) ∙ e) refl

-- what is known where there is no answer
pub none_of : {A : Type 0} (o : Option A) (P : Type 0) (Q : A → Type 0) → ((x : A) → o ≡ Some x → ⊥) → MatchOption o P Q → P
none_of None P Q f h = h
none_of (Some x) P Q f h = absurd (f x refl)
