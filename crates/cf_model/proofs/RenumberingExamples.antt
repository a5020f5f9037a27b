use Rattle.std.proofs.Common.{◌≡◌, ℕ, zero, suc, ◌+◌, ◌*◌, Bool, true, false, List, [], ◌∷◌, get_or, Option, None, nat_eq, refl, ap, arith}
use Rattle.std.proofs.lemmas.Option.{same_Some}
use Rattle.cf_model.specs.Renumbering.{width, Grows, IsApart, Agree, AllDiffer, IsNew, place, note, rgs_on, distinct_on, rgs, distinct, canon, IsCanon, SamePlaces}

width_of_0010 : width 0 (0 ∷ 0 ∷ 1 ∷ 0 ∷ []) ≡ 2
width_of_0010 = refl

-- numbers that were given out before count
width_after_three : width 3 (1 ∷ 0 ∷ []) ≡ 3
width_after_three = refl

grows_0010 : Grows 0 (0 ∷ 0 ∷ 1 ∷ 0 ∷ [])
grows_0010 = (omega arith, (omega arith, (omega arith, (omega arith, tt))))

grows_from_two : Grows 2 (1 ∷ 2 ∷ [])
grows_from_two = (omega arith, (omega arith, tt))

-- 02 leaves out 1, and 10 begins with 1
no_growth_02 : Grows 0 (0 ∷ 2 ∷ []) → ⊥
no_growth_02 g = omega (arith, g.1.0)

no_growth_10 : Grows 0 (1 ∷ 0 ∷ []) → ⊥
no_growth_10 g = omega (arith, g.0)

apart_doubles : IsApart (λ i. i + i) 5
apart_doubles i j hi hj e = omega (arith, e)

not_apart_constant : IsApart (λ (i : ℕ). zero) 2 → ⊥
not_apart_constant h = omega (arith, h 0 1 (omega arith) (omega arith) refl)

agree_below_two : Agree (λ i. i) (λ i. i * i) 2
agree_below_two zero h = refl
agree_below_two (suc zero) h = refl
agree_below_two (suc (suc i)) h = absurd (omega (arith, h))

disagree_at_two : Agree (λ i. i) (λ i. i * i) 3 → ⊥
disagree_at_two h = omega (arith, h 2 (omega arith))

differ_7_5 : AllDiffer {A = ℕ} (7 ∷ 5 ∷ [])
differ_7_5 zero zero x hi hj = refl
differ_7_5 zero (suc zero) x hi hj = absurd (omega (arith, same_Some 7 x hi, same_Some 5 x hj))
differ_7_5 zero (suc (suc j)) x hi hj = cc
differ_7_5 (suc zero) zero x hi hj = absurd (omega (arith, same_Some 5 x hi, same_Some 7 x hj))
differ_7_5 (suc zero) (suc zero) x hi hj = refl
differ_7_5 (suc zero) (suc (suc j)) x hi hj = cc
differ_7_5 (suc (suc i)) j x hi hj = cc

not_differ_5_5 : AllDiffer {A = ℕ} (5 ∷ 5 ∷ []) → ⊥
not_differ_5_5 d = omega (arith, d 0 1 5 refl refl)

-- neighbours differ, and the list doesn't
not_differ_5_7_5 : AllDiffer {A = ℕ} (5 ∷ 7 ∷ 5 ∷ []) → ⊥
not_differ_5_7_5 d = omega (arith, d 0 2 5 refl refl)

new_6 : IsNew {A = ℕ} (7 ∷ 5 ∷ []) 6
new_6 zero h = omega (arith, same_Some 7 6 h)
new_6 (suc zero) h = omega (arith, same_Some 5 6 h)
new_6 (suc (suc k)) h = cc

not_new_5 : IsNew {A = ℕ} (7 ∷ 5 ∷ []) 5 → ⊥
not_new_5 h = h 1 refl

place_of_5 : place nat_eq (7 ∷ 5 ∷ 5 ∷ []) 5 ≡ 1
place_of_5 = refl

-- a label that isn't there has the length as its place
place_of_6 : place nat_eq (7 ∷ 5 ∷ 5 ∷ []) 6 ≡ 3
place_of_6 = refl

note_old : note nat_eq (7 ∷ 5 ∷ []) 5 ≡ 7 ∷ 5 ∷ []
note_old = refl

note_new : note nat_eq (7 ∷ 5 ∷ []) 6 ≡ 7 ∷ 5 ∷ 6 ∷ []
note_new = refl

rgs_on_seen : rgs_on nat_eq (7 ∷ []) (5 ∷ 7 ∷ []) ≡ 1 ∷ 0 ∷ []
rgs_on_seen = refl

rgs_on_seen_none : rgs_on nat_eq (7 ∷ 5 ∷ []) [] ≡ []
rgs_on_seen_none = refl

-- what was seen comes first, read or not
distinct_on_unread : distinct_on nat_eq (7 ∷ 5 ∷ []) [] ≡ 7 ∷ 5 ∷ []
distinct_on_unread = refl

distinct_on_seen : distinct_on nat_eq (7 ∷ []) (5 ∷ 7 ∷ []) ≡ 7 ∷ 5 ∷ []
distinct_on_seen = refl

-- ranks go by first appearance, and not by size
rgs_5575 : rgs nat_eq (5 ∷ 5 ∷ 7 ∷ 5 ∷ []) ≡ 0 ∷ 0 ∷ 1 ∷ 0 ∷ []
rgs_5575 = refl

rgs_9_4 : rgs nat_eq (9 ∷ 4 ∷ []) ≡ 0 ∷ 1 ∷ []
rgs_9_4 = refl

-- order of first appearance, and not sorted
distinct_9_4_9 : distinct nat_eq (9 ∷ 4 ∷ 9 ∷ []) ≡ 9 ∷ 4 ∷ []
distinct_9_4_9 = refl

distinct_of_none : distinct nat_eq [] ≡ []
distinct_of_none = refl

canon_5575 : canon nat_eq (5 ∷ 5 ∷ 7 ∷ 5 ∷ []) ≡ (0 ∷ 0 ∷ 1 ∷ 0 ∷ [], 5 ∷ 7 ∷ [])
canon_5575 = refl

canon_7_7 : canon nat_eq (7 ∷ 7 ∷ []) ≡ (0 ∷ 0 ∷ [], 7 ∷ [])
canon_7_7 = refl

is_canon_7_5_7 : IsCanon {A = ℕ} (7 ∷ 5 ∷ 7 ∷ []) (0 ∷ 1 ∷ 0 ∷ []) (7 ∷ 5 ∷ [])
is_canon_7_5_7 = record { spells = refl; grows = (omega arith, (omega arith, (omega arith, tt))); reached = refl; differ = differ_7_5 }

-- labels in another order are no canon, though they spell the list
no_canon_5_7 : IsCanon {A = ℕ} (7 ∷ 5 ∷ 7 ∷ []) (1 ∷ 0 ∷ 1 ∷ []) (5 ∷ 7 ∷ []) → ⊥
no_canon_5_7 c = omega (arith, c.grows.0)

-- ranks that lead to other labels
no_canon_of_another : IsCanon {A = ℕ} (5 ∷ 7 ∷ []) (0 ∷ 1 ∷ []) (7 ∷ 5 ∷ []) → ⊥
no_canon_of_another c = omega (arith, same_Some 7 5 (ap (λ (labels : List (Option ℕ)). get_or labels 0 None) c.spells))

-- a label that is listed twice
no_canon_twice : IsCanon {A = ℕ} (7 ∷ 7 ∷ []) (0 ∷ 1 ∷ []) (7 ∷ 7 ∷ []) → ⊥
no_canon_twice c = omega (arith, c.differ 0 1 7 refl refl)

-- a label too many isn't reached
no_canon_unreached : IsCanon {A = ℕ} (7 ∷ []) (0 ∷ []) (7 ∷ 5 ∷ []) → ⊥
no_canon_unreached c = omega (arith, c.reached)

same_places_pair : SamePlaces {A = ℕ} {B = Bool} (5 ∷ 7 ∷ []) (true ∷ false ∷ [])
same_places_pair zero zero hi hj = (λ e. refl, λ e. refl)
same_places_pair zero (suc zero) hi hj = (λ e. absurd (omega (arith, same_Some 5 7 e)), λ e. cc)
same_places_pair zero (suc (suc j)) hi hj = absurd (omega (arith, hj))
same_places_pair (suc zero) zero hi hj = (λ e. absurd (omega (arith, same_Some 7 5 e)), λ e. cc)
same_places_pair (suc zero) (suc zero) hi hj = (λ e. refl, λ e. refl)
same_places_pair (suc zero) (suc (suc j)) hi hj = absurd (omega (arith, hj))
same_places_pair (suc (suc i)) j hi hj = absurd (omega (arith, hi))

other_places : SamePlaces {A = ℕ} {B = ℕ} (5 ∷ 7 ∷ []) (3 ∷ 3 ∷ []) → ⊥
other_places s = omega (arith, same_Some 5 7 ((s 0 1 (omega arith) (omega arith)).1 refl))
