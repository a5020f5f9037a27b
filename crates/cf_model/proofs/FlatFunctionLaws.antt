use Rattle.std.proofs.Common.{◌≡◌, ℕ, zero, suc, ◌<◌, ◌≤◌, ◌+◌, ◌*◌, ◌^◌, ℤ, pos, Bool, true, false, cond, List, [], ◌∷◌, length, get_or, Option, Some, None, option_map, refl, sym, ◌∙◌, ap, subst, arith, rules, pow-suc, inl, inr}
use Rattle.std.specs.Prelude.{slice_get, position, not, nat_lt}
use Rattle.std.specs.List.{position_or_len, prefix_len}
use Rattle.std.specs.Bool.{Decides}
use Rattle.std.proofs.lemmas.Bool.{false≢true, cases_lt}
use Rattle.std.proofs.lemmas.Bool.Decides.{nat_tests}
use Rattle.std.proofs.lemmas.List.{length-map}
use Rattle.std.proofs.lemmas.List.Quantifiers.{position-Some}
use Rattle.std.proofs.lemmas.Nat.{pow-add}
use Rattle.std.proofs.lemmas.Option.{slice_get-get_or, slice_get_within, same_Some, slice_get-map, none-some}
use Rattle.cf_model.specs.Assignments.{number_of, bits_of, all_bits}
use Rattle.cf_model.specs.Values.{Fits, fits}
use Rattle.cf_model.specs.FlatFunctions.{points, IsAssignment, FlatFunction, IsFlatFunction, value_at, tabulated, IsLeast, first_passing}
use Rattle.cf_model.proofs.AssignmentLaws.{number_of-below, number_of-bits_of, bits_of-number_of, length-bits_of, same_from_number, length-all_bits, all_bits-order}
use Rattle.cf_model.proofs.CanonLaws.{same_lists}

-- the test of the range
pub fits_decides : (z : ℤ) → Decides (fits z) (Fits z)
fits_decides z = search rules

-- a level has 2 ^ (2 ^ level) assignments
pub points-is : (l : ℕ) → points l ≡ 2 ^ (2 ^ l)
points-is zero = refl
points-is (suc l) =
    let e : 2 ^ suc l ≡ 2 ^ l + 2 ^ l = omega (arith, pow-suc 2 l) in
    ap (λ (n : ℕ). n * n) (points-is l) ∙ sym (pow-add 2 (2 ^ l) (2 ^ l)) ∙ ap (λ (k : ℕ). 2 ^ k) (sym e)

-- the number of an assignment is a place of a flat function's values
pub number_in : (l : ℕ) (bits : List Bool) → IsAssignment l bits → number_of bits < points l
number_in l bits h = subst (λ (n : ℕ). number_of bits < n) (ap (λ (k : ℕ). 2 ^ k) h ∙ sym (points-is l)) (number_of-below bits)

-- each place below the points is an assignment's
pub place_assigns : (l n : ℕ) → n < points l → IsAssignment l (bits_of (2 ^ l) n) × (number_of (bits_of (2 ^ l) n) ≡ n)
place_assigns l n h = (length-bits_of (2 ^ l) n, number_of-bits_of (2 ^ l) n (subst (λ (k : ℕ). n < k) (points-is l) h))

-- two flat functions of one level that agree on every assignment are equal
pub values_agree : (f g : FlatFunction) → IsFlatFunction f → IsFlatFunction g → f.level ≡ g.level → ((bits : List Bool) → IsAssignment f.level bits → value_at f bits ≡ value_at g bits) → f.values ≡ g.values
values_agree f g hf hg e same =
    let len : length f.values ≡ length g.values = hf.full ∙ ap points e ∙ sym hg.full in
    same_lists f.values g.values len (λ i h.
    (let p = place_assigns f.level i (omega (arith, h, hf.full)) in
    ap (slice_get f.values) (sym p.1) ∙ same (bits_of (2 ^ f.level) i) p.0 ∙ ap (slice_get g.values) p.1))

-- a tabulated function has at each assignment the value that it was made from
pub tabulated-value : (l : ℕ) (value : List Bool → ℤ) (bits : List Bool) → IsAssignment l bits → value_at (tabulated l value) bits ≡ Some (value bits)
tabulated-value l value bits h =
    let k = 2 ^ l in
    let below : number_of bits < 2 ^ k = subst (λ (n : ℕ). number_of bits < 2 ^ n) h (number_of-below bits) in
    let inside : number_of bits < length (all_bits k) = omega (arith, below, length-all_bits k) in
    let same : get_or (all_bits k) (number_of bits) [] ≡ bits = all_bits-order k (number_of bits) below ∙ ap (λ (n : ℕ). bits_of n (number_of bits)) (sym h) ∙ bits_of-number_of bits in
    slice_get-map value (all_bits k) (number_of bits) ∙ ap (option_map value) (slice_get-get_or (all_bits k) (number_of bits) [] inside ∙ ap Some same)

pub tabulated-full : (l : ℕ) (value : List Bool → ℤ) → length (tabulated l value).values ≡ points l
tabulated-full l value = length-map (all_bits (2 ^ l)) value ∙ length-all_bits (2 ^ l) ∙ sym (points-is l)

-- there is one least assignment
pub least_unique : (l : ℕ) (P : List Bool → Type 0) (a b : List Bool) → IsLeast l P a → IsLeast l P b → a ≡ b
least_unique l P a b x y = elim (cases_lt (number_of a) (number_of b)) [
  | inl h ↦ absurd (y.none_below a x.assigns h x.has)
  | inr h ↦ elim (cases_lt (number_of b) (number_of a)) [
    | inl k ↦ absurd (x.none_below b y.assigns k y.has)
    | inr k ↦ same_from_number a b (x.assigns ∙ sym y.assigns) (omega (arith, h, k))
  ]
]

-- the value at the assignment passes the test
abbrev pub Passes : (ℤ → Bool) → FlatFunction → List Bool → Type 0
Passes test f bits = (z : ℤ) × (value_at f bits ≡ Some z) × (test z ≡ true)

all_pass : {A : Type 0} (q : A → Bool) (xs : List A) → length xs ≤ prefix_len q xs → (k : ℕ) (x : A) → slice_get xs k ≡ Some x → q x ≡ true
all_pass q [] h k x e = absurd (let n : None ≡ Some x = e in none-some x n)
all_pass q (y ∷ ys) h k x e = by (q y) refl h (all_pass q ys) k e
  where
    by : (b : Bool) → q y ≡ b → suc (length ys) ≤ cond b (1 + prefix_len q ys) 0 → (length ys ≤ prefix_len q ys → (k : ℕ) (x : _) → slice_get ys k ≡ Some x → q x ≡ true) → (k : ℕ) → slice_get (y ∷ ys) k ≡ Some x → q x ≡ true
    by true t h rest zero e = sym (ap q (same_Some y x e)) ∙ t
    by true t h rest (suc k) e = rest (omega (arith, h)) k x e
    by false t h rest k e = absurd (omega (arith, h))

position_is_some : {A : Type 0} (test : A → Bool) (xs : List A) (g : ℕ → List Bool) (bits : List Bool) → option_map g (position test xs) ≡ Some bits → (i : ℕ) × (position test xs ≡ Some i) × (g i ≡ bits)
position_is_some test xs g bits e = by (position test xs) refl e
  where
    by : (o : Option ℕ) → position test xs ≡ o → option_map g o ≡ Some bits → (i : ℕ) × (position test xs ≡ Some i) × (g i ≡ bits)
    by None p e = absurd (let n : None ≡ Some bits = e in none-some bits n)
    by (Some i) p e = (i, p, same_Some (g i) bits e)

-- the first assignment that passes is the least that passes
pub first_passing-some : (test : ℤ → Bool) (f : FlatFunction) → IsFlatFunction f → (bits : List Bool) → first_passing test f ≡ Some bits → IsLeast f.level (Passes test f) bits
first_passing-some test f hf bits e =
    let r = position_is_some test f.values (bits_of (2 ^ f.level)) bits e in
    let i = r.0 in
    let p = position-Some test f.values i (pos 0) r.1 in
    let a = place_assigns f.level i (omega (arith, p.0, hf.full)) in
    let num : number_of bits ≡ i = ap number_of (sym r.2) ∙ a.1 in
    record {
      assigns = ap length (sym r.2) ∙ a.0;
      has = (get_or f.values i (pos 0), ap (slice_get f.values) num ∙ slice_get-get_or f.values i (pos 0) p.0, p.1);
      none_below = λ other ho below w.
          (let read : slice_get f.values (number_of other) ≡ Some (get_or f.values (number_of other) (pos 0)) = slice_get-get_or f.values (number_of other) (pos 0) (omega (arith, slice_get_within f.values (number_of other) w.0 w.1)) in
          let same : get_or f.values (number_of other) (pos 0) ≡ w.0 = same_Some _ _ (sym read ∙ w.1) in
          false≢true (sym (p.2 (number_of other) (omega (arith, below, num))) ∙ ap test same ∙ w.2));
    }

negated : (b : Bool) → not b ≡ true → b ≡ true → ⊥
negated true h k = cc
negated false h k = cc

no_position : {A : Type 0} (test : A → Bool) (xs : List A) (g : ℕ → List Bool) → option_map g (position test xs) ≡ None → length xs ≤ position_or_len test xs
no_position test xs g e = elim (cases_lt (position_or_len test xs) (length xs)) [
  | inl l ↦ absurd (by (nat_lt (position_or_len test xs) (length xs)) (nat_lt_true (position_or_len test xs) (length xs) l) e)
  | inr h ↦ h
]
  where
    nat_lt_true : (m n : ℕ) → m < n → nat_lt m n ≡ true
    nat_lt_true m n l = grind (arith, nat_tests)

    by : (b : Bool) → b ≡ true → option_map g (cond b (Some (position_or_len test xs)) None) ≡ None → ⊥
    by true t e = none-some (g (position_or_len test xs)) (sym e)
    by false t e = false≢true t

-- where there is none, no assignment passes
pub first_passing-none : (test : ℤ → Bool) (f : FlatFunction) → first_passing test f ≡ None → (bits : List Bool) → Passes test f bits → ⊥
first_passing-none test f e bits w = negated (test w.0) (all_pass (λ z. not (test z)) f.values (no_position test f.values (bits_of (2 ^ f.level)) e) (number_of bits) w.0 w.1) w.2
