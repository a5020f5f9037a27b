use Rattle.std.proofs.Common.{◌≡◌, ℕ, ◌<◌, ◌≤◌, ◌+◌, ◌*◌, ◌/◌, ◌%◌, ◌-◌, Bool, true, false, cond, nat_eq, List, length, get_or, refl, sym, ◌∙◌, ap, subst, arith, inl, inr}
use Rattle.std.proofs.lemmas.Bool.{cases_lt, false≢true}
use Rattle.cf_model.proofs.RenumberingLaws.{nat_decides}
use Rattle.std.proofs.lemmas.Nat.{div-add-mod'}
use Rattle.std.proofs.Math.Nat.{mod-lt, div-lt_iff_lt-mul, mul-le-mul_right}
use Rattle.cf_witness.specs.Nexts.{is_marked, LacksMarked, IsNext}
use Rattle.cf_witness.proofs.Marks.{lacks_joined}

-- A list of half * half numbers in rows: the first half leads to a middle vertex, and its row has the second half.
pub record InRows (p first : List ℕ) (row_at : ℕ → List ℕ) (marks middles : List Bool) (half : ℕ) : Type 0 where
  pub positive : 0 < half
  pub long : length p ≡ half * half
  pub first_long : length first ≡ half
  pub row_long : (u : ℕ) → u < half → length (row_at (get_or first u 0)) ≡ half
  pub read : (u v : ℕ) → u < half → v < half → get_or p (u * half + v) 0 ≡ get_or (row_at (get_or first u 0)) v 0
  pub told : (u v : ℕ) → u < half → v < half → is_marked marks (get_or (row_at (get_or first u 0)) v 0) ≡ true → is_marked middles (get_or first u 0) ≡ true

-- The search from `from` on has come to second half `v` of first half `u`.
pub record HasCome (p : List ℕ) (marks : List Bool) (from half u v : ℕ) : Type 0 where
  pub reached : from ≤ u * half + v
  pub none_before : LacksMarked p marks from (u * half + v)

pub has_begun : (p : List ℕ) (marks : List Bool) (from half : ℕ) → HasCome p marks from half (from / half) (from % half)
has_begun p marks from half =
    let e = div-add-mod' from half in
    record { reached = omega (arith, e); none_before = λ n ge lt h. omega (arith, e, ge, lt) }

pub in_square : (p u v : ℕ) → u < p → v < p → u * p + v < p * p
in_square p u v hu hv = let m : (u + 1) * p ≤ p * p = mul-le-mul_right p (omega (arith, hu)) in omega (arith, m, hv)

-- the two halves of a place
record Cut (half n : ℕ) : Type 0 where
  u : ℕ
  v : ℕ
  first : u < half
  second : v < half
  whole : u * half + v ≡ n

cut : (half n : ℕ) → 0 < half → n < half * half → Cut half n
cut half n pos h = record { u = n / half; v = n % half; first = (div-lt_iff_lt-mul pos).1 h; second = mod-lt n pos; whole = div-add-mod' n half }

at_least : (half a s u v : ℕ) → v < half → a * half + s ≤ u * half + v → a ≤ u
at_least half a s u v hv h = elim (cases_lt u a) [
  | inl l ↦ (let m : (u + 1) * half ≤ a * half = mul-le-mul_right half (omega (arith, l)) in absurd (omega (arith, m, h, hv)))
  | inr r ↦ r
]

marked_row : (p first : List ℕ) (row_at : ℕ → List ℕ) (marks middles : List Bool) (half : ℕ) → InRows p first row_at marks middles half → (u v n : ℕ) → u < half → v < half → u * half + v ≡ n → is_marked marks (get_or p n 0) ≡ true
    → is_marked marks (get_or (row_at (get_or first u 0)) v 0) ≡ true
marked_row p first row_at marks middles half w u v n hu hv e h = ap (is_marked marks) (sym (w.read u v hu hv) ∙ ap (λ (k : ℕ). get_or p k 0) e) ∙ h

-- first halves without a marked middle vertex
middle_lacks : (p first : List ℕ) (row_at : ℕ → List ℕ) (marks middles : List Bool) (half : ℕ) → InRows p first row_at marks middles half → (a s b : ℕ) → b ≤ half → LacksMarked first middles a b → LacksMarked p marks (a * half + s) (b * half)
middle_lacks p first row_at marks middles half w a s b hb h n ge lt e =
    let m : b * half ≤ half * half = mul-le-mul_right half hb in
    let c = cut half n w.positive (omega (arith, lt, m)) in
    let low : a ≤ c.u = at_least half a s c.u c.v c.second (omega (arith, ge, c.whole)) in
    let high : c.u < b = (elim (cases_lt c.u b) [ inl l ↦ l | inr r ↦ (let k : b * half ≤ c.u * half = mul-le-mul_right half r in absurd (omega (arith, k, lt, c.whole))) ]) in
    h c.u low high (w.told c.u c.v c.first c.second (marked_row p first row_at marks middles half w c.u c.v n c.first c.second c.whole e))

-- the second halves of one first half
row_lacks : (p first : List ℕ) (row_at : ℕ → List ℕ) (marks middles : List Bool) (half : ℕ) → InRows p first row_at marks middles half → (u j low high : ℕ) → u < half → get_or first u 0 ≡ j → high ≤ half → LacksMarked (row_at j) marks low high
    → LacksMarked p marks (u * half + low) (u * half + high)
row_lacks p first row_at marks middles half w u j low high hu ej hh h n ge lt e =
    let sq : u * half + half ≤ half * half = (let m : (u + 1) * half ≤ half * half = mul-le-mul_right half (omega (arith, hu)) in omega (arith, m)) in
    let c = cut half n w.positive (omega (arith, lt, sq, hh)) in
    let up : u ≤ c.u = at_least half u low c.u c.v c.second (omega (arith, ge, c.whole)) in
    let down : c.u ≤ u = at_least half c.u c.v u (n - u * half) (omega (arith, lt, hh, ge)) (omega (arith, ge, c.whole)) in
    let same : c.u ≡ u = omega (arith, up, down) in
    let times : c.u * half ≡ u * half = ap (λ (k : ℕ). k * half) same in
    let m = marked_row p first row_at marks middles half w c.u c.v n c.first c.second c.whole e in
    let here : get_or first c.u 0 ≡ j = ap (λ (k : ℕ). get_or first k 0) same ∙ ej in
    h c.v (omega (arith, ge, c.whole, times)) (omega (arith, lt, c.whole, times)) (subst (λ (k : ℕ). is_marked marks (get_or (row_at k) c.v 0) ≡ true) here m)

-- nothing is left where no middle vertex is marked
pub none_left : (p first : List ℕ) (row_at : ℕ → List ℕ) (marks middles : List Bool) (half from a s : ℕ) → InRows p first row_at marks middles half → HasCome p marks from half a s → LacksMarked first middles a half → LacksMarked p marks from (half * half)
none_left p first row_at marks middles half from a s w h k =
    lacks_joined p marks from (a * half + s) (half * half) h.none_before (middle_lacks p first row_at marks middles half w a s half (omega arith) k)

-- nor at the end of the first halves
pub all_passed : (p : List ℕ) (marks : List Bool) (half from a s : ℕ) → HasCome p marks from half a s → half ≤ a → LacksMarked p marks from (half * half)
all_passed p marks half from a s h k n ge lt e = let m : half * half ≤ a * half = mul-le-mul_right half k in h.none_before n ge (omega (arith, lt, m)) e

-- where the second halves of first half u begin
abbrev pub second_from : ℕ → ℕ → ℕ → ℕ
second_from u a s = cond (nat_eq u a) s 0

second_small : (half u a s : ℕ) → s ≤ half → second_from u a s ≤ half
second_small half u a s h = by (nat_eq u a)
  where
    by : (b : Bool) → cond b s 0 ≤ half
    by true = h
    by false = omega arith

beyond : (p : List ℕ) (marks : List Bool) (from half a s u : ℕ) → HasCome p marks from half a s → s ≤ half → a < u → LacksMarked p marks from (u * half) → (from ≤ u * half + 0) × LacksMarked p marks from (u * half + 0)
beyond p marks from half a s u h hs l gone =
    let same : u * half + 0 ≡ u * half = omega arith in
    let more : (a + 1) * half ≤ u * half = mul-le-mul_right half (omega (arith, l)) in
    let reached = h.reached in
    (omega (arith, more, reached, hs), subst (λ (k : ℕ). LacksMarked p marks from k) (sym same) gone)

-- up to the first half that leads to a marked middle vertex there is nothing
up_to : (p first : List ℕ) (row_at : ℕ → List ℕ) (marks middles : List Bool) (half from a s u j : ℕ) → InRows p first row_at marks middles half → HasCome p marks from half a s → s ≤ half → IsNext first middles a u j
    → (from ≤ u * half + second_from u a s) × LacksMarked p marks from (u * half + second_from u a s)
up_to p first row_at marks middles half from a s u j w h hs f = by (nat_eq u a) refl
  where
    by : (b : Bool) → nat_eq u a ≡ b → (from ≤ u * half + cond b s 0) × LacksMarked p marks from (u * half + cond b s 0)
    by true e =
        let same : u ≡ a = (nat_decides u a).0 e in
        subst (λ (x : ℕ). (from ≤ x * half + s) × LacksMarked p marks from (x * half + s)) (sym same) (h.reached, h.none_before)
    by false e =
        let differ : u ≡ a → ⊥ = λ q. false≢true (sym e ∙ (nat_decides u a).1 q) in
        let reached = f.reached in
        let within = f.within in
        let long = w.first_long in
        let other : a < u = elim (cases_lt a u) [ inl l ↦ l | inr g ↦ (let q : u ≡ a = omega (arith, g, reached) in absurd (differ q)) ] in
        let hu : u ≤ half = omega (arith, within, long) in
        beyond p marks from half a s u h hs other (lacks_joined p marks from (a * half + s) (u * half) h.none_before (middle_lacks p first row_at marks middles half w a s u hu f.none_before))

-- the least place with a marked number
pub found : (p first : List ℕ) (row_at : ℕ → List ℕ) (marks middles : List Bool) (half from a s u j low v e : ℕ) → InRows p first row_at marks middles half → HasCome p marks from half a s → s ≤ half → IsNext first middles a u j → low ≡ second_from u a s
    → IsNext (row_at j) marks low v e → IsNext p marks from (half * u + v) e
found p first row_at marks middles half from a s u j low v e w h hs f el g =
    let turned : half * u + v ≡ u * half + v = omega arith in
    let within = f.within in
    let hu : u < half = omega (arith, within, w.first_long) in
    let rl : length (row_at j) ≡ half = subst (λ (k : ℕ). length (row_at k) ≡ half) f.exit_is (w.row_long u hu) in
    let gw = g.within in
    let hv : v < half = omega (arith, gw, rl) in
    let up = up_to p first row_at marks middles half from a s u j w h hs f in
    let low_reached = g.reached in
    let reached : from ≤ u * half + v = omega (arith, up.0, low_reached, el) in
    let long = w.long in
    let sq = in_square half u v hu hv in
    let before : LacksMarked p marks from (u * half + low) = subst (λ (k : ℕ). LacksMarked p marks from (u * half + k)) (sym el) up.1 in
    subst (λ (k : ℕ). IsNext p marks from k e) (sym turned)
    (record {
      reached = reached;
      within = omega (arith, sq, long);
      exit_is = w.read u v hu hv ∙ ap (λ (k : ℕ). get_or (row_at k) v 0) f.exit_is ∙ g.exit_is;
      marked = g.marked;
      none_before = lacks_joined p marks from (u * half + low) (u * half + v) before (row_lacks p first row_at marks middles half w u j low v hu f.exit_is (omega (arith, hv)) g.none_before);
    })

-- where the row has none, the search goes on at the next first half
pub passed : (p first : List ℕ) (row_at : ℕ → List ℕ) (marks middles : List Bool) (half from a s u j low : ℕ) → InRows p first row_at marks middles half → HasCome p marks from half a s → s ≤ half → IsNext first middles a u j → low ≡ second_from u a s
    → LacksMarked (row_at j) marks low half → HasCome p marks from half (u + 1) 0
passed p first row_at marks middles half from a s u j low w h hs f el g =
    let within = f.within in
    let hu : u < half = omega (arith, within, w.first_long) in
    let up = up_to p first row_at marks middles half from a s u j w h hs f in
    let before : LacksMarked p marks from (u * half + low) = subst (λ (k : ℕ). LacksMarked p marks from (u * half + k)) (sym el) up.1 in
    let here = row_lacks p first row_at marks middles half w u j low half hu f.exit_is (omega arith) g in
    let next : (u + 1) * half + 0 ≡ u * half + half = omega arith in
    let small : second_from u a s ≤ half = second_small half u a s hs in
    record {
      reached = omega (arith, up.0, next, small);
      none_before = subst (λ (k : ℕ). LacksMarked p marks from k) (sym next) (lacks_joined p marks from (u * half + low) (u * half + half) before here);
    }
