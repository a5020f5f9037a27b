use Rattle.std.proofs.Common.{◌≡◌, ℕ, ◌<◌, ◌≤◌, ◌+◌, ◌^◌, Bool, true, false, List, [], ◌∷◌, ◌++◌, map, length, take, filter, get_or, refl, sym, ◌∙◌, ap, subst, arith, length-append, inl, inr}
use Rattle.std.proofs.lemmas.Bool.{cases_lt}
use Rattle.std.proofs.lemmas.List.{map-append}
use Rattle.std.proofs.Math.Nat.{pow-le-pow_right}
use Rattle.cf_model.specs.Assignments.{Assignment, bits, bits_of, all_bits}
use Rattle.cf_model.proofs.AssignmentLaws.{number_of-bits_of, all_bits-order, length-all_bits}
use Rattle.cf_witness.specs.Nexts.{is_marked, leads, LacksMarked, IsNext}
use Rattle.cf_witness.proofs.Lists.{NonePass, listed_one_more, listed_enough, listed_all}

-- The assignments below `from` that lead to a marked exit were listed, and they are no more than `max`.
pub record HasListed (p : List ℕ) (marks : List Bool) (k : ℕ) (listed : List (List Bool)) (from max : ℕ) : Type 0 where
  pub begun : from ≤ 2 ^ k
  pub listed_are : listed ≡ filter (leads p marks) (take from (all_bits k))
  pub few : length listed ≤ max

-- the assignment at a place of the list of all
pub place_is : (p : List ℕ) (marks : List Bool) (k n : ℕ) → n < 2 ^ k → leads p marks (get_or (all_bits k) n []) ≡ is_marked marks (get_or p n 0)
place_is p marks k n h =
    ap (leads p marks) (all_bits-order k n h) ∙ ap (λ (m : ℕ). is_marked marks (get_or p m 0)) (number_of-bits_of k n h)

not_true : (b : Bool) → (b ≡ true → ⊥) → b ≡ false
not_true true h = absurd (h refl)
not_true false h = refl

none_pass : (p : List ℕ) (marks : List Bool) (k low high : ℕ) → high ≤ 2 ^ k → LacksMarked p marks low high → NonePass (leads p marks) (all_bits k) [] low high
none_pass p marks k low high h lacks i ge lt = place_is p marks k i (omega (arith, lt, h)) ∙ not_true (is_marked marks (get_or p i 0)) (lacks i ge lt)

pub nothing_listed : (p : List ℕ) (marks : List Bool) (k max : ℕ) → HasListed p marks k [] 0 max
nothing_listed p marks k max = record { begun = omega arith; listed_are = refl; few = omega arith }

-- one more
pub one_listed : (p : List ℕ) (marks : List Bool) (k : ℕ) (listed : List (List Bool)) (from max n exit : ℕ) → HasListed p marks k listed from max → length p ≡ 2 ^ k → length listed < max → IsNext p marks from n exit → HasListed p marks k (listed ++ bits_of k n ∷ []) (n + 1) max
one_listed p marks k listed from max n exit h long room is =
    let within = is.within in
    let small : n < 2 ^ k = omega (arith, within, long) in
    let marked : leads p marks (get_or (all_bits k) n []) ≡ true = place_is p marks k n small ∙ ap (is_marked marks) is.exit_is ∙ is.marked in
    let step = listed_one_more (leads p marks) (all_bits k) listed [] from n h.listed_are is.reached (omega (arith, small, length-all_bits k)) (none_pass p marks k from n (omega (arith, small)) is.none_before) marked in
    record {
      begun = omega (arith, small);
      listed_are = ap (λ (a : List Bool). listed ++ a ∷ []) (sym (all_bits-order k n small)) ∙ step;
      few = omega (arith, length-append listed (bits_of k n ∷ []), room);
    }

-- where no more come, or none is wanted any more, the list is the one that was asked for
pub all_listed : (p : List ℕ) (marks : List Bool) (k : ℕ) (listed : List (List Bool)) (from max : ℕ) → HasListed p marks k listed from max → LacksMarked p marks from (2 ^ k) → listed ≡ take max (filter (leads p marks) (all_bits k))
all_listed p marks k listed from max h lacks =
    let long = length-all_bits k in
    listed_all (leads p marks) (all_bits k) listed [] from max h.listed_are (omega (arith, long, h.begun)) (subst (λ (n : ℕ). NonePass (leads p marks) (all_bits k) [] from n) (sym long) (none_pass p marks k from (2 ^ k) (omega arith) lacks)) h.few

pub enough_listed : (p : List ℕ) (marks : List Bool) (k : ℕ) (listed : List (List Bool)) (from max : ℕ) → HasListed p marks k listed from max → max ≤ length listed → listed ≡ take max (filter (leads p marks) (all_bits k))
enough_listed p marks k listed from max h full = listed_enough (leads p marks) (all_bits k) listed from max h.listed_are (omega (arith, full, h.few))

-- the last assignment of 128 bits is the last one of all
pub last_listed : (p : List ℕ) (marks : List Bool) (k : ℕ) (listed : List (List Bool)) (from max : ℕ) → HasListed p marks k listed from max → k ≤ 128 → 2 ^ 128 ≤ from → listed ≡ take max (filter (leads p marks) (all_bits k))
last_listed p marks k listed from max h small past =
    let most : 2 ^ k ≤ 2 ^ 128 = pow-le-pow_right {n = 2} (omega arith) small in
    all_listed p marks k listed from max h (λ i ge lt e. omega (arith, ge, lt, past, most))

-- one more `Bits` at the end of a list
pub pushed : (before after : List Assignment) (b : Assignment) (k n : ℕ) → after ≡ before ++ b ∷ [] → bits b ≡ bits_of k n → map bits after ≡ map bits before ++ bits_of k n ∷ []
pushed before after b k n e is = ap (map bits) e ∙ map-append bits before (b ∷ []) ∙ ap (λ (a : List Bool). map bits before ++ a ∷ []) is

pub bits_most : (l : ℕ) → l ≤ 7 → 2 ^ l ≤ 128
bits_most l h = pow-le-pow_right {n = 2} (omega arith) h

pub not_below : (a b : ℕ) → (a < b → ⊥) → b ≤ a
not_below a b h = elim (cases_lt a b) [ inl l ↦ absurd (h l) | inr r ↦ r ]
