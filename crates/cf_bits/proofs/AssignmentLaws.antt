use Rattle.std.proofs.Common.{◌≡◌, ℕ, zero, suc, ◌+◌, ◌*◌, ◌-◌, ◌/◌, ◌%◌, ◌^◌, ◌==◌, ◌<◌, ◌≤◌, Bool, true, false, List, [], ◌∷◌, ◌++◌, Some, slice_get, length, take, set, refl, sym, ap, ◌∙◌, arith, IsTrue, ◌↔◌, nat_lt}
use Rattle.std.proofs.Math.Pow.{pow_mono}
use Rattle.std.proofs.Math.Seq.{take-length}
use Rattle.std.proofs.lemmas.Nat.{div-mul-add, mod-mul-add}
use Rattle.std.proofs.lemmas.List.{length-set, length-take-le, take_more}
use Rattle.std.proofs.lemmas.Option.{slice_get_within, get_or_from_slice_get}
use Rattle.std.proofs.lemmas.List.Sums.{fold-append}
use Rattle.std.proofs.lemmas.Bool.Decides.{Decides-ltb}
use Rattle.cf_bits.specs.Numbers.{with_digit}
use Rattle.cf_model.specs.Assignments.{Assignment, bits, bits_of, number_of, first_half, second_half, weave, row_of, column_of, IsLexBefore}
use Rattle.cf_model.proofs.AssignmentLaws.{bit_value, bits_of-number_of, number_of-below, number_of-cons, number_of-halves, length-first_half, length-second_half, length-bits_of, number_of-bits_of, length-weave, number_order}

-- each bit is the one of the number's binary form
pub get-bits_of : (k n i : ℕ) → i < k → slice_get (bits_of k n) i ≡ Some ((n / 2 ^ (k - 1 - i)) % 2 == 1)
get-bits_of zero n i h = absurd (omega arith)
get-bits_of (suc k) n zero h = let e : suc k - 1 - 0 ≡ k = omega arith in ap (λ j. Some ((n / 2 ^ j) % 2 == 1)) (sym e)
get-bits_of (suc k) n (suc i) h =
    let e : suc k - 1 - suc i ≡ k - 1 - i = omega arith in
    get-bits_of k n i (omega arith) ∙ ap (λ j. Some ((n / 2 ^ j) % 2 == 1)) (sym e)

-- bits of which only their number is kept, and their count in another form
pub bits_of-number_at : (k : ℕ) (bs : List Bool) → k ≡ length bs → bits_of k (number_of bs) ≡ bs
bits_of-number_at k bs e = ap (λ k. bits_of k (number_of bs)) e ∙ bits_of-number_of bs

-- a number of at most k bits is below 2 ^ k
pub number_below : (bs : List Bool) (k : ℕ) → length bs ≤ k → number_of bs < 2 ^ k
number_below bs k h = let most : 2 ^ length bs ≤ 2 ^ k = pow_mono {i = length bs} {j = k} h in omega (arith, number_of-below bs)

-- the number of bits with one more behind them
pub number_of-push : (bs : List Bool) (b : Bool) → number_of (bs ++ b ∷ []) ≡ with_digit (number_of bs) b
number_of-push bs b = fold-append (λ n bit. with_digit n bit) 0 bs (b ∷ [])

swapped : (x y a b p q n m : ℕ) → m + a * p ≡ n + b * p → (x * q + m) + a * p ≡ (x * q + n) + b * p
swapped x y a b p q n m e = omega (arith, e)

-- setting one bit changes the number by the value of its place
pub number_of-set : (bs : List Bool) (i : ℕ) (a b : Bool) → slice_get bs i ≡ Some a
    → number_of (set bs i b) + bit_value a * 2 ^ (length bs - 1 - i) ≡ number_of bs + bit_value b * 2 ^ (length bs - 1 - i)
number_of-set [] i a b h = absurd (omega (arith, slice_get_within [] i a h))
number_of-set (x ∷ bs) zero a b h =
    let e : suc (length bs) - 1 - 0 ≡ length bs = omega arith in
    let same : x ≡ a = cc in
    rw e (omega (arith, number_of-cons b bs, number_of-cons x bs, ap (λ (v : Bool). bit_value v * 2 ^ length bs) same))
number_of-set (x ∷ bs) (suc i) a b h =
    let e : suc (length bs) - 1 - suc i ≡ length bs - 1 - i = omega arith in
    rw e (
    ap (λ (n : ℕ). n + bit_value a * 2 ^ (length bs - 1 - i)) (number_of-cons x (set bs i b) ∙ ap (λ (k : ℕ). bit_value x * 2 ^ k + number_of (set bs i b)) (length-set bs i b))
    ∙ omega (arith, number_of-set bs i a b h, number_of-cons x bs))

-- the halves of k bits have the quotient and the remainder of their number as numbers
pub quotient-first_half : (k h n : ℕ) → k ≡ 2 * h → n < 2 ^ k → n / 2 ^ h ≡ number_of (first_half (bits_of k n))
quotient-first_half k h n e l =
    let bs = bits_of k n in
    let len : length (second_half bs) ≡ h = length-second_half h bs (length-bits_of k n ∙ e) in
    ap (λ (m : ℕ). m / 2 ^ h) (sym (number_of-bits_of k n l) ∙ number_of-halves bs ∙ ap (λ (j : ℕ). number_of (first_half bs) * 2 ^ j + number_of (second_half bs)) len)
    ∙ div-mul-add (number_of (first_half bs)) (2 ^ h) (number_of (second_half bs)) (number_below (second_half bs) h (omega arith))

pub remainder-second_half : (k h n : ℕ) → k ≡ 2 * h → n < 2 ^ k → n % 2 ^ h ≡ number_of (second_half (bits_of k n))
remainder-second_half k h n e l =
    let bs = bits_of k n in
    let len : length (second_half bs) ≡ h = length-second_half h bs (length-bits_of k n ∙ e) in
    ap (λ (m : ℕ). m % 2 ^ h) (sym (number_of-bits_of k n l) ∙ number_of-halves bs ∙ ap (λ (j : ℕ). number_of (first_half bs) * 2 ^ j + number_of (second_half bs)) len)
    ∙ mod-mul-add (number_of (first_half bs)) (2 ^ h) (number_of (second_half bs)) (number_below (second_half bs) h (omega arith))

-- one more pair of a woven assignment
pub weave_more : (i : ℕ) (rs cs : List Bool) (r c : Bool) → slice_get rs i ≡ Some r → slice_get cs i ≡ Some c
    → weave (take (suc i) rs) (take (suc i) cs) ≡ (weave (take i rs) (take i cs) ++ r ∷ []) ++ c ∷ []
weave_more i [] cs r c h k = cc
weave_more i (x ∷ rs) [] r c h k = cc
weave_more zero (x ∷ rs) (y ∷ cs) r c h k = cc
weave_more (suc i) (x ∷ rs) (y ∷ cs) r c h k = ap (λ v. x ∷ y ∷ v) (weave_more i rs cs r c h k)

pub length-weave_take : (i : ℕ) (rs cs : List Bool) → i ≤ length rs → i ≤ length cs → length (weave (take i rs) (take i cs)) ≡ 2 * i
length-weave_take i rs cs h k =
    let a : length (take i rs) ≡ i = length-take-le i rs h in
    let b : length (take i cs) ≡ i = length-take-le i cs k in
    length-weave (take i rs) (take i cs) (a ∙ sym b) ∙ omega arith

-- the bits of an unwoven assignment: every other one
pub get-row_of : (i : ℕ) (bs : List Bool) (b : Bool) → slice_get bs (2 * i) ≡ Some b → slice_get (row_of bs) i ≡ Some b
get-row_of i [] b h = h
get-row_of zero (x ∷ []) b h = h
get-row_of (suc i) (x ∷ []) b h = absurd (omega (arith, slice_get_within (x ∷ []) (2 * suc i) b h))
get-row_of zero (x ∷ y ∷ bs) b h = h
get-row_of (suc i) (x ∷ y ∷ bs) b h = let e : 2 * suc i ≡ suc (suc (2 * i)) = omega arith in get-row_of i bs b (rw e at h)

pub get-column_of : (i : ℕ) (bs : List Bool) (b : Bool) → slice_get bs (2 * i + 1) ≡ Some b → slice_get (column_of bs) i ≡ Some b
get-column_of i [] b h = h
get-column_of i (x ∷ []) b h = absurd (omega (arith, slice_get_within (x ∷ []) (2 * i + 1) b h))
get-column_of zero (x ∷ y ∷ bs) b h = h
get-column_of (suc i) (x ∷ y ∷ bs) b h = let e : 2 * suc i + 1 ≡ suc (suc (2 * i + 1)) = omega arith in get-column_of i bs b (rw e at h)

-- one more bit read
pub number_of-take_more : (bs : List Bool) (i : ℕ) (b : Bool) → slice_get bs i ≡ Some b → number_of (take (i + 1) bs) ≡ with_digit (number_of (take i bs)) b
number_of-take_more bs i b h =
    ap number_of (take_more bs i b (slice_get_within bs i b h) ∙ ap (λ c. take i bs ++ c ∷ []) (get_or_from_slice_get bs i b b h)) ∙ number_of-push (take i bs) b

-- the order of numbers is the lexicographic order of bits
pub less-order : (xs ys : List Bool) (m n : ℕ) → length xs ≡ length ys → m ≡ number_of xs → n ≡ number_of ys → IsTrue (nat_lt m n) ↔ IsLexBefore xs ys
less-order xs ys m n l e f =
    let o = number_order xs ys l in
    let d = Decides-ltb m n in
    (λ h. o.0 (omega (arith, d.0 h)), λ h. d.1 (omega (arith, o.1 h)))

-- the upper half of a number of 2 h bits has h bits
pub quotient_below : (k h n : ℕ) → k ≡ 2 * h → n < 2 ^ k → n / 2 ^ h < 2 ^ h
quotient_below k h n e l =
    let len : length (first_half (bits_of k n)) ≡ h = length-first_half h (bits_of k n) (length-bits_of k n ∙ e) in
    rw (quotient-first_half k h n e l) (number_below (first_half (bits_of k n)) h (omega arith))

pub first_half-bits_of : (k h n : ℕ) → k ≡ 2 * h → n < 2 ^ k → bits_of h (n / 2 ^ h) ≡ first_half (bits_of k n)
first_half-bits_of k h n e l =
    ap (bits_of h) (quotient-first_half k h n e l)
    ∙ bits_of-number_at h (first_half (bits_of k n)) (sym (length-first_half h (bits_of k n) (length-bits_of k n ∙ e)))

pub second_half-bits_of : (k h n : ℕ) → k ≡ 2 * h → n < 2 ^ k → bits_of h (n % 2 ^ h) ≡ second_half (bits_of k n)
second_half-bits_of k h n e l =
    ap (bits_of h) (remainder-second_half k h n e l)
    ∙ bits_of-number_at h (second_half (bits_of k n)) (sym (length-second_half h (bits_of k n) (length-bits_of k n ∙ e)))

-- setting a bit that isn't set adds the value of its place
pub number_of-set_true : (bs : List Bool) (i n p : ℕ) (a : Bool) → slice_get bs i ≡ Some a → a ≡ false → n ≡ number_of bs → p ≡ 2 ^ (length bs - 1 - i) → n + p ≡ number_of (set bs i true)
number_of-set_true bs i n p a h f e q = omega (arith, number_of-set bs i false true (h ∙ ap Some f), e, q)

-- clearing a bit that is set takes it away
pub number_of-set_false : (bs : List Bool) (i n p : ℕ) (a : Bool) → slice_get bs i ≡ Some a → a ≡ true → n ≡ number_of bs → p ≡ 2 ^ (length bs - 1 - i) → n ≡ number_of (set bs i false) + p
number_of-set_false bs i n p a h f e q = omega (arith, number_of-set bs i true false (h ∙ ap Some f), e, q)

-- a bit set to what it is
pub set-same_bit : (bs : List Bool) (i : ℕ) (a b : Bool) → slice_get bs i ≡ Some a → a ≡ b → set bs i b ≡ bs
set-same_bit [] i a b h e = refl
set-same_bit (x ∷ bs) zero a b h e = cc
set-same_bit (x ∷ bs) (suc i) a b h e = ap (λ v. x ∷ v) (set-same_bit bs i a b h e)

-- bits that are made of the number and the length of a list are that list
pub record IsMadeOf (a : Assignment) (bs : List Bool) : Type 0 where
  pub listed : bits a ≡ bs
  pub len : a.len ≡ length bs
  pub number : a.number ≡ number_of (bits a)

pub made_of : (a : Assignment) (k n : ℕ) (bs : List Bool) → a ≡ record { len = k; number = n } → k ≡ length bs → n ≡ number_of bs → IsMadeOf a bs
made_of a k n bs e l m =
    let listed : bits a ≡ bs = ap bits e ∙ ap (bits_of k) m ∙ bits_of-number_at k bs l in
    record { listed = listed; len = ap (λ (a : Assignment). a.len) e ∙ l; number = ap (λ (a : Assignment). a.number) e ∙ m ∙ ap number_of (sym listed) }

-- so many bits as there are
pub take_whole : (bs : List Bool) (n : ℕ) → n ≡ length bs → take n bs ≡ bs
take_whole bs n e = ap (λ k. take k bs) e ∙ take-length bs

-- one more digit behind a number of at most 126
pub digit_below : (n : ℕ) (b : Bool) (m : ℕ) → n < 2 ^ 126 → m ≡ with_digit n b → m < 2 ^ 127
digit_below n true m h e = omega arith
digit_below n false m h e = omega arith
