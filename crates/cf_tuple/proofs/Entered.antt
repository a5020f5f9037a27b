use Rattle.std.proofs.Common.{◌≡◌, ℕ, zero, suc, List, [], ◌∷◌, ◌++◌, Bool, true, false, cond, ◌||◌, Some, nat_eq, length, refl, sym, ◌∙◌, ap, subst, inl, inr, arith}
use Rattle.std.specs.List.{slice_get, list_any}
use Rattle.std.proofs.lemmas.Bool.{false≢true, cases_lt}
use Rattle.std.proofs.lemmas.Option.{same_Some}
use Rattle.std.proofs.lemmas.Bool.Decides.{nat_tests}
use Rattle.cf_model.specs.Renumbering.{IsNew, IsCanon, note, distinct, distinct_on}
use Rattle.cf_model.proofs.CanonLaws.{canon_known, canon_new, get_left, at_end}
use Rattle.cf_model.proofs.RenumberingLaws.{nat_decides}

neither : (a b : Bool) → (a || b) ≡ false → (a ≡ false) × (b ≡ false)
neither true b h = cc
neither false b h = (refl, h)

-- a label that no key is equal to
unknown : (x : ℕ) (keys : List ℕ) → list_any (nat_eq x) keys ≡ false → IsNew keys x
unknown x [] h i e = cc
unknown x (key ∷ keys) h zero e = false≢true (sym (neither (nat_eq x key) (list_any (nat_eq x) keys) h).0 ∙ (nat_decides x key).1 (sym (same_Some key x e)))
unknown x (key ∷ keys) h (suc i) e = unknown x keys (neither (nat_eq x key) (list_any (nat_eq x) keys) h).1 i e

-- a new key is the last one
last : (x : ℕ) (keys : List ℕ) (at : ℕ) → IsNew keys x → slice_get (keys ++ x ∷ []) at ≡ Some x → at ≡ length keys
last x keys at new h = elim (cases_lt at (length keys)) [
  | inl l ↦ absurd (new at (sym (get_left keys x at l) ∙ h))
  | inr g ↦ at_end keys x at x g h
]

by_test : (all ranks keys now : List ℕ) (x at : ℕ) (b : Bool) → list_any (nat_eq x) keys ≡ b → IsCanon all ranks keys → now ≡ cond b keys (keys ++ x ∷ []) → slice_get now at ≡ Some x → IsCanon (all ++ x ∷ []) (ranks ++ at ∷ []) now
by_test all ranks keys now x at true e c q s =
    subst (λ (v : List ℕ). IsCanon (all ++ x ∷ []) (ranks ++ at ∷ []) v) (sym q) (canon_known all ranks keys x at c (subst (λ (v : List ℕ). slice_get v at ≡ Some x) q s))
by_test all ranks keys now x at false e c q s =
    let new = unknown x keys e in
    let at_is = last x keys at new (subst (λ (v : List ℕ). slice_get v at ≡ Some x) q s) in
    subst (λ (v : List ℕ). IsCanon (all ++ x ∷ []) (ranks ++ at ∷ []) v) (sym q)
    (subst (λ (k : ℕ). IsCanon (all ++ x ∷ []) (ranks ++ k ∷ []) (keys ++ x ∷ [])) (sym at_is) (canon_new all ranks keys x c new))

-- one more label, entered among the keys
pub canon_entered : (all ranks keys now : List ℕ) (x at : ℕ) → IsCanon all ranks keys → now ≡ cond (list_any (nat_eq x) keys) keys (keys ++ x ∷ []) → (key : ℕ) × (slice_get now at ≡ Some key) × (nat_eq x key ≡ true)
    → IsCanon (all ++ x ∷ []) (ranks ++ at ∷ []) now
canon_entered all ranks keys now x at c q s =
    by_test all ranks keys now x at (list_any (nat_eq x) keys) refl c q (s.1 ∙ ap Some (sym ((nat_decides x s.0).0 s.2)))

nat_eq-sym : (x y : ℕ) → nat_eq x y ≡ nat_eq y x
nat_eq-sym x y = grind (arith, nat_tests)

any-sym : (x : ℕ) (keys : List ℕ) → list_any (nat_eq x) keys ≡ list_any (λ y. nat_eq y x) keys
any-sym x [] = refl
any-sym x (key ∷ keys) = ap (λ (b : Bool). b || list_any (nat_eq x) keys) (nat_eq-sym x key) ∙ ap (λ (b : Bool). nat_eq key x || b) (any-sym x keys)

distinct_on-push : (seen xs : List ℕ) (x : ℕ) → distinct_on nat_eq seen (xs ++ x ∷ []) ≡ note nat_eq (distinct_on nat_eq seen xs) x
distinct_on-push seen [] x = refl
distinct_on-push seen (y ∷ xs) x = distinct_on-push (note nat_eq seen y) xs x

-- one more entry, entered among the different ones
pub distinct_entered : (all keys now : List ℕ) (x : ℕ) → keys ≡ distinct nat_eq all → now ≡ cond (list_any (nat_eq x) keys) keys (keys ++ x ∷ []) → now ≡ distinct nat_eq (all ++ x ∷ [])
distinct_entered all keys now x e q =
    q ∙ ap (λ (b : Bool). cond b keys (keys ++ x ∷ [])) (any-sym x keys) ∙ ap (λ (ks : List ℕ). note nat_eq ks x) e ∙ sym (distinct_on-push [] all x)

-- what an equal test finds, as the hashed search answers it
pub found_so : (keys : List ℕ) (x at : ℕ) → slice_get keys at ≡ Some x → (key : ℕ) × (slice_get keys at ≡ Some key) × (nat_eq x key ≡ true)
found_so keys x at h = (x, h, (nat_decides x x).1 refl)

-- an entry that stands in the list is not added, and one that doesn't is
pub known_key : (x : ℕ) (keys : List ℕ) (at : ℕ) → slice_get keys at ≡ Some x → keys ≡ cond (list_any (nat_eq x) keys) keys (keys ++ x ∷ [])
known_key x keys at h = by (list_any (nat_eq x) keys) refl
  where
    by : (b : Bool) → list_any (nat_eq x) keys ≡ b → keys ≡ cond b keys (keys ++ x ∷ [])
    by true e = refl
    by false e = absurd (unknown x keys e at h)

any_new : (x : ℕ) (keys : List ℕ) → IsNew keys x → list_any (nat_eq x) keys ≡ false
any_new x [] new = refl
any_new x (key ∷ keys) new = by (nat_eq x key) refl (any_new x keys (λ i h. new (suc i) h))
  where
    by : (b : Bool) → nat_eq x key ≡ b → list_any (nat_eq x) keys ≡ false → (b || list_any (nat_eq x) keys) ≡ false
    by true e rest = absurd (new 0 (ap Some (sym ((nat_decides x key).0 e))))
    by false e rest = rest

pub new_key : (x : ℕ) (keys : List ℕ) → IsNew keys x → keys ++ x ∷ [] ≡ cond (list_any (nat_eq x) keys) keys (keys ++ x ∷ [])
new_key x keys new = ap (λ (b : Bool). cond b keys (keys ++ x ∷ [])) (sym (any_new x keys new))
