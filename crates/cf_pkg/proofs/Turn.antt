use Rattle.std.proofs.Common.{◌≡◌, ℕ, zero, suc, ◌<◌, ◌+◌, ◌/◌, ◌%◌, ◌^◌, List, [], ◌∷◌, refl, sym, ◌∙◌, ap, subst, length, get_or, arith, pow-suc}
use Rattle.cf_model.specs.FlatFunctions.{points}
use Rattle.cf_model.specs.Diagrams.{Levels, Connection, exit_at, connection_at, pattern, IsGood}
use Rattle.cf_model.proofs.FlatFunctionLaws.{points-is}
use Rattle.cf_model.proofs.Canonicity.{pattern-dont_care, pattern-fork}
use Rattle.cf_model.proofs.Entries.{Halves, halves, middle_at}
use Rattle.cf_table.specs.declared.Gid.{Gid}
use Rattle.cf_table.specs.declared.BConn.{BConn}
use Rattle.cf_table.specs.Groupings.{Groupings, Owns, node_of, pattern_of, connection_of}
use Rattle.cf_table.proofs.Told.{same_gid}

zeros : (n : ℕ) → ◌≡◌ {A = ℕ} (get_or (0 ∷ 0 ∷ []) n 0) 0
zeros zero = refl
zeros (suc zero) = refl
zeros (suc (suc n)) = refl

-- the one exit of DONT_CARE
pub dont_care_exit : (t : Levels) (g : Gid) (n : ℕ) → g ≡ record { level = 0; at = 0 } → get_or (pattern t g.level g.at) n 0 ≡ 0
dont_care_exit t g n e = ap (λ (x : Gid). get_or (pattern t x.level x.at) n 0) e ∙ ap (λ (p : List ℕ). get_or p n 0) (pattern-dont_care t) ∙ zeros n

bit : (n : ℕ) → n < 2 → n ≡ get_or (0 ∷ 1 ∷ []) n 0
bit zero h = refl
bit (suc zero) h = refl
bit (suc (suc n)) h = absurd (omega (arith, h))

at_base : (t : Levels) (g : Gid) (i n : ℕ) → n < 2 → i ≡ g.at → g.level ≡ 0 → (g ≡ record { level = 0; at = 0 } → ⊥) → n ≡ get_or (pattern t 0 i) n 0
at_base t g zero n h e l other = absurd (other (same_gid g (record { level = 0; at = 0 }) l (sym e)))
at_base t g (suc i) n h e l other = bit n h ∙ ap (λ (p : List ℕ). get_or p n 0) (sym (pattern-fork t i))

-- the exit of FORK at a bit
pub fork_exit : (t : Levels) (g : Gid) (n : ℕ) → n < 2 → g.level ≡ 0 → (g ≡ record { level = 0; at = 0 } → ⊥) → n ≡ get_or (pattern t g.level g.at) n 0
fork_exit t g n h l other = at_base t g g.at n h refl l other ∙ ap (λ (k : ℕ). get_or (pattern t k g.at) n 0) (sym l)

-- the number of an assignment's bits is below its level's points
pub in_range : (k n len : ℕ) → len ≡ 2 ^ k → n < 2 ^ len → n < points k
in_range k n len e h = subst (λ (m : ℕ). n < m) (ap (λ (j : ℕ). 2 ^ j) e ∙ sym (points-is k)) h

half_of : (k l len : ℕ) → l + 1 ≡ k → len ≡ 2 ^ k → len / 2 ≡ 2 ^ l
half_of k l len e h =
    let s : suc l ≡ k = omega (arith, e) in
    let p : len ≡ 2 ^ suc l = h ∙ ap (λ (j : ℕ). 2 ^ j) (sym s) in
    omega (arith, p, pow-suc 2 l)

-- half of an assignment's bits have the points of the level below
pub half_points : (k l len : ℕ) → l + 1 ≡ k → len ≡ 2 ^ k → 2 ^ (len / 2) ≡ points l
half_points k l len e h = ap (λ (j : ℕ). 2 ^ j) (half_of k l len e h) ∙ sym (points-is l)

-- What a turn of the walk at assignment number n knows after its first half, which led to middle vertex j.
pub record First (t : Groupings) (g a : Gid) (n half j : ℕ) : Type 0 where
  pub good : IsGood t.levels
  pub owned : Owns t g
  pub range : n < points g.level
  pub half_is : half ≡ points a.level
  pub level : a.level + 1 ≡ g.level
  pub callee : a.at ≡ (node_of t g).a_callee
  pub exit : j ≡ get_or (pattern_of t a) (n / half) 0

all : (t : Groupings) (g a : Gid) (n half j : ℕ) → First t g a n half j → Halves t.levels g.level a.level g.at n
all t g a n half j f = halves t.levels f.good g.level a.level g.at n f.level f.owned f.range

j_is : (t : Groupings) (g a : Gid) (n half j : ℕ) → First t g a n half j → j ≡ middle_at t.levels g.level a.level g.at n
j_is t g a n half j f =
    f.exit ∙ ap (λ (x : ℕ). get_or (pattern t.levels a.level x) (n / half) 0) f.callee
    ∙ ap (λ (x : ℕ). get_or (pattern t.levels a.level (node_of t g).a_callee) (n / x) 0) f.half_is

pub middle : (t : Groupings) (g a : Gid) (n half j : ℕ) → First t g a n half j → j < length (node_of t g).connections
middle t g a n half j f = omega (arith, j_is t g a n half j f, (all t g a n half j f).middle)

-- What it knows after its second half, which led to exit i of the B-connection's callee.
pub record Second (t : Groupings) (g a : Gid) (n half j : ℕ) (b : BConn) (i : ℕ) : Type 0 where
  pub first : First t g a n half j
  pub level : b.«to».level + 1 ≡ g.level
  pub connection : connection_of t.tuples b ≡ connection_at (node_of t g).connections j
  pub exit : i ≡ get_or (pattern_of t b.«to») (n % half) 0

connection_is : (t : Groupings) (g a : Gid) (n half j : ℕ) (b : BConn) (i : ℕ) → Second t g a n half j b i
    → connection_of t.tuples b ≡ connection_at (node_of t g).connections (middle_at t.levels g.level a.level g.at n)
connection_is t g a n half j b i s = s.connection ∙ ap (λ (x : ℕ). connection_at (node_of t g).connections x) (j_is t g a n half j s.first)

i_is : (t : Groupings) (g a : Gid) (n half j : ℕ) (b : BConn) (i : ℕ) → Second t g a n half j b i → i ≡ get_or (pattern t.levels a.level b.«to».at) (n % points a.level) 0
i_is t g a n half j b i s =
    let same : b.«to».level ≡ a.level = omega (arith, s.level, s.first.level) in
    s.exit ∙ ap (λ (l : ℕ). get_or (pattern t.levels l b.«to».at) (n % half) 0) same ∙ ap (λ (h : ℕ). get_or (pattern t.levels a.level b.«to».at) (n % h) 0) s.first.half_is

-- the exit has a place in the return tuple
pub place : (t : Groupings) (g a : Gid) (n half j : ℕ) (b : BConn) (i : ℕ) → Second t g a n half j b i → i < length (get_or t.tuples b.ret.at [])
place t g a n half j b i s =
    subst (λ (x : ℕ). x < length (get_or t.tuples b.ret.at [])) (sym (i_is t g a n half j b i s))
    (subst (λ (c : Connection). get_or (pattern t.levels a.level c.callee) (n % points a.level) 0 < length c.returns) (sym (connection_is t g a n half j b i s)) (all t g a n half j s.first).place)

-- and there stands the exit of the whole assignment
pub answer : (t : Groupings) (g a : Gid) (n half j : ℕ) (b : BConn) (i : ℕ) → Second t g a n half j b i → get_or (get_or t.tuples b.ret.at []) i 0 ≡ get_or (pattern_of t g) n 0
answer t g a n half j b i s =
    ap (λ (x : ℕ). get_or (get_or t.tuples b.ret.at []) x 0) (i_is t g a n half j b i s)
    ∙ sym (subst (λ (c : Connection). get_or (pattern t.levels g.level g.at) n 0 ≡ exit_at c (get_or (pattern t.levels a.level c.callee) (n % points a.level) 0)) (sym (connection_is t g a n half j b i s)) (all t g a n half j s.first).entry)
