use Rattle.std.proofs.Common.{◌≡◌, ℕ, ◌<◌, List, [], ◌∷◌, length, get_or, take, refl, sym, ap, ◌∙◌, subst, inl, inr, arith, length-take}
use Rattle.std.proofs.lemmas.Bool.{cases_lt}
use Rattle.std.proofs.lemmas.List.{get_or_default, get_or_past, get_or-take}
use Rattle.std.specs.List.{Contains}
use Rattle.cf_order.specs.Orders.{row, Needs, Chain, IsRing, IsOrder, HasNoRing}

-- what needs something is one of the signals
needs_within : (rows : List (List ℕ)) (s t : ℕ) → Needs rows s t → s < length rows
needs_within rows s t n = elim (cases_lt s (length rows)) [
  | inl l ↦ l
  | inr g ↦ let e = ap length (get_or_past rows s [] g) in absurd
      (omega (arith, n.1, e))
]

-- what a signal at a place of the order needs, stands at a lower place
need_falls : (rows : List (List ℕ)) (order : List ℕ) → IsOrder rows order → (i a b : ℕ)
    → i < length order → get_or order i 0 ≡ a → Needs rows a b
    → (j : ℕ) × (j < i) × (get_or order j 0 ≡ b)
need_falls rows order is i a b h e n =
    let c = is.after i h b (subst (λ s. Needs rows s b) (sym e) n) in
    let l : c.0 < i = omega (arith, length-take i order, c.1) in (
      c.0,
      l,
      get_or_default order c.0 0 b (omega (arith, h, l)) ∙ sym (get_or-take i order c.0 b l)
          ∙ c.2,
    )

-- and so does the end of a chain
chain_falls : (rows : List (List ℕ)) (order : List ℕ) → IsOrder rows order
    → (i a : ℕ) (rest : List ℕ) (b : ℕ) → i < length order → get_or order i 0 ≡ a
    → Chain rows a rest b
    → (j : ℕ) × (j < i) × (get_or order j 0 ≡ b)
chain_falls rows order is i a [] b h e n = need_falls rows order is i a b h e n
chain_falls rows order is i a (d ∷ rest) b h e (n, more) =
    let step = need_falls rows order is i a d h e n in
    let down = chain_falls rows order is step.0 d rest b (omega (arith, h, step.1)) step.2 more in
    (down.0, omega (arith, down.1, step.1), down.2)

chain_needs : (rows : List (List ℕ)) (a : ℕ) (rest : List ℕ) (b : ℕ) → Chain rows a rest b
    → a < length rows
chain_needs rows a [] b n = needs_within rows a b n
chain_needs rows a (c ∷ cs) b n = needs_within rows a c n.0

-- where there is an order, there is no ring
pub order_has_no_ring : (rows : List (List ℕ)) (order : List ℕ) → IsOrder rows order
    → HasNoRing rows
order_has_no_ring rows order is [] ring = ring
order_has_no_ring rows order is (a ∷ rest) ring =
    let at = is.every a (chain_needs rows a rest a ring) in
    let e = get_or_default order at.0 0 a at.1 ∙ at.2 in
    let low = chain_falls rows order is at.0 a rest a at.1 e ring in
    let same = is.once low.0 at.0 (omega (arith, low.1, at.1)) at.1 (low.2 ∙ sym e) in
    omega (arith, same, low.1)
