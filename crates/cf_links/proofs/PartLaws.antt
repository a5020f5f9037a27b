-- The first of the gates and calls in order of their lines.
use Rattle.std.proofs.Common.{ℕ, suc, ◌≡◌, ◌≢◌, ◌<◌, ◌≤◌, Bool, true, false, cond, List, [], ◌∷◌, length, get_or, map, refl, ap, sym, subst, ◌∙◌, arith}
use Rattle.std.specs.Prelude.{nat_lt}
use Rattle.std.proofs.lemmas.Bool.{lt-ltb, le-ltb}
use Rattle.cf_circuits.specs.declared.gates.Gate.{Gate}
use Rattle.cf_circuits.specs.declared.pins.Call.{Call}
use Rattle.cf_circuits.specs.Parts.{Part, AGate, ACall, line_of, put, merged}
use Rattle.cf_links.specs.Signals.{InOrder}

behind-gate : (g : Gate) (gates : List Gate) (calls : List Call) → InOrder (g ∷ gates) calls → InOrder gates calls
behind-gate g gates calls o = record {
  gates_in_order = λ i j d lt within. o.gates_in_order (suc i) (suc j) d (omega arith) (omega arith);
  calls_in_order = o.calls_in_order;
  apart = λ i d within. o.apart (suc i) d (omega arith);
}

behind-call : (gates : List Gate) (c : Call) (calls : List Call) → InOrder gates (c ∷ calls) → InOrder gates calls
behind-call gates c calls o = record {
  gates_in_order = o.gates_in_order;
  calls_in_order = λ i j d lt within. o.calls_in_order (suc i) (suc j) d (omega arith) (omega arith);
  apart = λ i d within k e inside. o.apart i d within (suc k) e (omega arith);
}

-- parts whose first is of a line behind n
abbrev Behind : ℕ → List Part → Type 0
Behind n [] = Unit {0}
Behind n (part ∷ later) = n < line_of part

put-behind : (n : ℕ) (c : Call) (left : List Part) → n < c.line → Behind n left → Behind n (put c left)
put-behind n c [] lt h = lt
put-behind n c (part ∷ left) lt h = at (nat_lt (line_of part) c.line)
  where
    at : (b : Bool) → Behind n (cond b (part ∷ put c left) (ACall c ∷ part ∷ left))
    at true = h
    at false = lt

put-first : (c : Call) (left : List Part) → Behind c.line left → put c left ≡ ACall c ∷ left
put-first c [] h = refl
put-first c (part ∷ left) h = ap (λ b. cond b (part ∷ put c left) (ACall c ∷ part ∷ left)) (later (line_of part) c.line h)
  where
    later : (m n : ℕ) → n < m → nat_lt m n ≡ false
    later m n lt = le-ltb m n (omega arith)

put-later : (c : Call) (part : Part) (left : List Part) → line_of part < c.line → put c (part ∷ left) ≡ part ∷ put c left
put-later c part left h = ap (λ b. cond b (part ∷ put c left) (ACall c ∷ part ∷ left)) (earlier (line_of part) c.line h)
  where
    earlier : (m n : ℕ) → m < n → nat_lt m n ≡ true
    earlier m n lt = lt-ltb m n lt

-- calls that are all of lines behind n
abbrev Above : ℕ → List Call → Type 0
Above n [] = Unit {0}
Above n (c ∷ calls) = (n < c.line) × Above n calls

above : (n : ℕ) (calls : List Call) → ((j : ℕ) (d : Call) → j < length calls → n < (get_or calls j d).line) → Above n calls
above n [] h = tt
above n (c ∷ calls) h = (h 0 c (omega arith), above n calls (λ j d lt. h (suc j) d (omega arith)))

-- the calls behind the first one are of lines behind n, if the first one is
above-later : (n : ℕ) (gates : List Gate) (c : Call) (calls : List Call) → InOrder gates (c ∷ calls) → n ≤ c.line → Above n calls
above-later n gates c calls o le = above n calls (λ j d lt.
    let e : c.line < (get_or calls j d).line = o.calls_in_order 0 (suc j) d (omega arith) (omega arith) in omega arith)

merged-behind : (n : ℕ) (gates : List Gate) (calls : List Call) → Behind n (map AGate gates) → Above n calls → Behind n (merged gates calls)
merged-behind n gates [] h above = h
merged-behind n gates (c ∷ calls) h above = put-behind n c (merged gates calls) above.0 (merged-behind n gates calls h above.1)

gate-first : (g : Gate) (gates : List Gate) (calls : List Call) → Above g.line calls → merged (g ∷ gates) calls ≡ AGate g ∷ merged gates calls
gate-first g gates [] above = refl
gate-first g gates (c ∷ calls) above =
    ap (put c) (gate-first g gates calls above.1) ∙ put-later c (AGate g) (merged gates calls) above.0

-- The first part, and the gates and calls that are left behind it.
pub record First (all_gates : List Gate) (all_calls : List Call) (part : Part) (gates : List Gate) (calls : List Call) : Type 0 where
  pub first : merged all_gates all_calls ≡ part ∷ merged gates calls
  pub order : InOrder gates calls

-- a gate of a line before the first call's
pub first-gate : (all_gates gates : List Gate) (all_calls calls : List Call) (g : Gate) (c : Call) → InOrder all_gates all_calls
    → all_gates ≡ g ∷ gates → all_calls ≡ c ∷ calls → g.line < c.line → First all_gates all_calls (AGate g) gates all_calls
first-gate all_gates gates all_calls calls g c order is_gates is_calls lt =
    subst (λ gs. First gs all_calls (AGate g) gates all_calls) (sym is_gates)
    (subst (λ cs. First (g ∷ gates) cs (AGate g) gates cs) (sym is_calls)
    (let o = subst (λ cs. InOrder (g ∷ gates) cs) is_calls (subst (λ gs. InOrder gs all_calls) is_gates order) in
    record {
      first = gate-first g gates (c ∷ calls) (lt, above-later g.line (g ∷ gates) c calls o (omega arith));
      order = behind-gate g gates (c ∷ calls) o;
    }))

-- else the first call
pub first-call : (all_gates gates : List Gate) (all_calls calls : List Call) (g : Gate) (c : Call) → InOrder all_gates all_calls
    → all_gates ≡ g ∷ gates → all_calls ≡ c ∷ calls → c.line ≤ g.line → First all_gates all_calls (ACall c) all_gates calls
first-call all_gates gates all_calls calls g c order is_gates is_calls le =
    subst (λ gs. First gs all_calls (ACall c) gs calls) (sym is_gates)
    (subst (λ cs. First (g ∷ gates) cs (ACall c) (g ∷ gates) calls) (sym is_calls)
    (let o = subst (λ cs. InOrder (g ∷ gates) cs) is_calls (subst (λ gs. InOrder gs all_calls) is_gates order) in
    let differ : g.line ≢ c.line = o.apart 0 g (omega arith) 0 c (omega arith) in
    record {
      first = put-first c (merged (g ∷ gates) calls)
          (merged-behind c.line (g ∷ gates) calls (omega arith) (above-later c.line (g ∷ gates) c calls o (omega arith)));
      order = behind-call (g ∷ gates) c calls o;
    }))

nothing : {A : Type 0} (xs : List A) → length xs ≡ 0 → xs ≡ []
nothing [] none = refl
nothing (x ∷ xs) none = absurd (omega arith)

-- a gate, where no call is left
pub only-gate : (all_gates gates : List Gate) (all_calls : List Call) (g : Gate) → InOrder all_gates all_calls
    → all_gates ≡ g ∷ gates → length all_calls ≡ 0 → First all_gates all_calls (AGate g) gates all_calls
only-gate all_gates gates all_calls g order is_gates none =
    let is_calls = nothing all_calls none in
    subst (λ gs. First gs all_calls (AGate g) gates all_calls) (sym is_gates)
    (subst (λ cs. First (g ∷ gates) cs (AGate g) gates cs) (sym is_calls)
    (let o = subst (λ cs. InOrder (g ∷ gates) cs) is_calls (subst (λ gs. InOrder gs all_calls) is_gates order) in
    record { first = refl; order = behind-gate g gates [] o }))

-- a call, where no gate is left
pub only-call : (all_gates : List Gate) (all_calls calls : List Call) (c : Call) → InOrder all_gates all_calls
    → length all_gates ≡ 0 → all_calls ≡ c ∷ calls → First all_gates all_calls (ACall c) all_gates calls
only-call all_gates all_calls calls c order none is_calls =
    let is_gates = nothing all_gates none in
    subst (λ gs. First gs all_calls (ACall c) gs calls) (sym is_gates)
    (subst (λ cs. First [] cs (ACall c) [] calls) (sym is_calls)
    (let o = subst (λ cs. InOrder [] cs) is_calls (subst (λ gs. InOrder gs all_calls) is_gates order) in
    record {
      first = put-first c (merged [] calls) (merged-behind c.line [] calls tt (above-later c.line [] c calls o (omega arith)));
      order = behind-call [] c calls o;
    }))
