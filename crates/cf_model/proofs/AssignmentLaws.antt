use Rattle.std.proofs.Common.{◌≡◌, ℕ, zero, suc, ◌<◌, ◌≤◌, ◌+◌, ◌*◌, ◌/◌, ◌%◌, ◌^◌, ◌-◌, ◌⊎◌, inl, inr, Bool, true, false, List, [], ◌∷◌, ◌++◌, map, length, get_or, refl, sym, ◌∙◌, ap, subst, arith, length-append, pow-suc}
use Rattle.std.specs.Prelude.{fold, if◌then◌else◌, ◌==◌}
use Rattle.std.proofs.lemmas.Nat.{mod-pow-add, same_from_place}
use Rattle.std.proofs.lemmas.List.{take_at, drop_at, take-append-drop, length-take-le, length-drop, length-map, get_or_append_left, get_or-append_right, get_or-map}
use Rattle.std.proofs.lemmas.List.Sums.{fold-append}
use Rattle.std.proofs.lemmas.Bool.{cases_lt}
use Rattle.std.proofs.Math.Nat.{mod-eq_of_lt}
use Rattle.cf_model.specs.Assignments.{number_of, bits_of, first_half, second_half, weave, row_of, column_of, IsLexBefore, all_bits}

abbrev pub bit_value : Bool → ℕ
bit_value bit = if bit then 1 else 0

bit_small : (b : Bool) → bit_value b < 2
bit_small true = omega arith
bit_small false = omega arith

shifted : (n b p q s : ℕ) → q ≡ p * 2 → (2 * n + b) * p + s ≡ n * q + ((2 * 0 + b) * p + s)
shifted n b p q s e = rw e omega arith

-- reading on from a number shifts it
read_on : (n : ℕ) (bits : List Bool) → fold (λ n bit. 2 * n + (if bit then 1 else 0)) n bits ≡ n * 2 ^ length bits + number_of bits
read_on n [] = omega arith
read_on n (b ∷ bits) =
    let h = read_on (2 * n + bit_value b) bits in
    let h0 = read_on (2 * 0 + bit_value b) bits in
    h ∙ shifted n (bit_value b) (2 ^ length bits) (2 ^ suc (length bits)) (number_of bits) (pow-suc 2 (length bits)) ∙ ap (λ (k : ℕ). n * 2 ^ suc (length bits) + k) (sym h0)

-- the first bit is the highest
pub number_of-cons : (b : Bool) (bits : List Bool) → number_of (b ∷ bits) ≡ bit_value b * 2 ^ length bits + number_of bits
number_of-cons b bits = read_on (2 * 0 + bit_value b) bits ∙ (let e : 2 * 0 + bit_value b ≡ bit_value b = omega arith in ap (λ (k : ℕ). k * 2 ^ length bits + number_of bits) e)

-- the number of two lists, one after the other
pub number_of-append : (xs ys : List Bool) → number_of (xs ++ ys) ≡ number_of xs * 2 ^ length ys + number_of ys
number_of-append xs ys = fold-append (λ n bit. 2 * n + (if bit then 1 else 0)) 0 xs ys ∙ read_on (number_of xs) ys

below_step : (b p q n m : ℕ) → q ≡ p * 2 → b < 2 → n < p → m ≡ b * p + n → m < q
below_step zero p q n m e l h k = omega (arith, e, h, k)
below_step (suc zero) p q n m e l h k = omega (arith, e, h, k)
below_step (suc (suc b)) p q n m e l h k = absurd (omega (arith, l))

-- k bits have a number below 2 ^ k
pub number_of-below : (bits : List Bool) → number_of bits < 2 ^ length bits
number_of-below [] = omega arith
number_of-below (b ∷ bits) = below_step (bit_value b) (2 ^ length bits) (2 ^ suc (length bits)) (number_of bits) (number_of (b ∷ bits)) (pow-suc 2 (length bits)) (bit_small b) (number_of-below bits) (number_of-cons b bits)

same_bit : (a b : Bool) → bit_value a ≡ bit_value b → a ≡ b
same_bit true true e = refl
same_bit true false e = absurd (omega (arith, e))
same_bit false true e = absurd (omega (arith, e))
same_bit false false e = refl

-- lists of one length with one number are equal
pub same_from_number : (xs ys : List Bool) → length xs ≡ length ys → number_of xs ≡ number_of ys → xs ≡ ys
same_from_number [] [] l e = refl
same_from_number [] (y ∷ ys) l e = absurd (omega (arith, l))
same_from_number (x ∷ xs) [] l e = absurd (omega (arith, l))
same_from_number (x ∷ xs) (y ∷ ys) l e =
    let len : length xs ≡ length ys = omega (arith, l) in
    let q : bit_value x * 2 ^ length xs + number_of xs ≡ bit_value y * 2 ^ length xs + number_of ys = sym (number_of-cons x xs) ∙ e ∙ number_of-cons y ys ∙ ap (λ (k : ℕ). bit_value y * 2 ^ k + number_of ys) (sym len) in
    let r = same_from_place (bit_value x) (number_of xs) (bit_value y) (number_of ys) (2 ^ length xs) (number_of-below xs) (subst (λ (k : ℕ). number_of ys < 2 ^ k) (sym len) (number_of-below ys)) q in
    let top : x ≡ y = same_bit x y r.0 in
    let rest : xs ≡ ys = same_from_number xs ys len r.1 in
    cc

pub length-bits_of : (k n : ℕ) → length (bits_of k n) ≡ k
length-bits_of zero n = refl
length-bits_of (suc k) n = ap suc (length-bits_of k n)

odd_bit : (m : ℕ) → m < 2 → bit_value (m == 1) ≡ m
odd_bit zero h = refl
odd_bit (suc zero) h = refl
odd_bit (suc (suc m)) h = absurd (omega (arith, h))

one_more : (n k : ℕ) → n % 2 ^ suc k ≡ ((n / 2 ^ k) % 2) * 2 ^ k + n % 2 ^ k
one_more n k = ap (λ (j : ℕ). n % 2 ^ j) (let e : suc k ≡ 1 + k = omega arith in e) ∙ mod-pow-add n 1 k

-- the k bits of a number have its k lowest binary digits
pub number_of-bits_of-mod : (k n : ℕ) → number_of (bits_of k n) ≡ n % 2 ^ k
number_of-bits_of-mod zero n = omega arith
number_of-bits_of-mod (suc k) n =
    number_of-cons ((n / 2 ^ k) % 2 == 1) (bits_of k n)
    ∙ ap (λ (j : ℕ). bit_value ((n / 2 ^ k) % 2 == 1) * 2 ^ j + number_of (bits_of k n)) (length-bits_of k n)
    ∙ ap (λ (j : ℕ). j * 2 ^ k + number_of (bits_of k n)) (odd_bit ((n / 2 ^ k) % 2) (omega arith))
    ∙ ap (λ (j : ℕ). ((n / 2 ^ k) % 2) * 2 ^ k + j) (number_of-bits_of-mod k n)
    ∙ sym (one_more n k)

-- number and bits: there and back
pub number_of-bits_of : (k n : ℕ) → n < 2 ^ k → number_of (bits_of k n) ≡ n
number_of-bits_of k n h = number_of-bits_of-mod k n ∙ mod-eq_of_lt h

pub bits_of-number_of : (bits : List Bool) → bits_of (length bits) (number_of bits) ≡ bits
bits_of-number_of bits = same_from_number (bits_of (length bits) (number_of bits)) bits (length-bits_of (length bits) (number_of bits)) (number_of-bits_of (length bits) (number_of bits) (number_of-below bits))

lex_step : (x y : Bool) (p n m s t : ℕ) (L : Type 0) → n < p → m < p → s ≡ bit_value x * p + n → t ≡ bit_value y * p + m → (n < m → L) × (L → n < m)
    → (s < t → ((x ≡ false) × (y ≡ true)) ⊎ ((x ≡ y) × L)) × (((x ≡ false) × (y ≡ true)) ⊎ ((x ≡ y) × L) → s < t)
lex_step true true p n m s t L hn hm es et h = (λ l. inr (refl, h.0 (omega (arith, l, es, et))), λ o. elim o [ inl w ↦ absurd (let e : true ≡ false = w.0 in cc) | inr w ↦ omega (arith, h.1 w.1, es, et) ])
lex_step true false p n m s t L hn hm es et h = (λ l. absurd (omega (arith, l, es, et, hn, hm)), λ o. elim o [ inl w ↦ absurd (let e : true ≡ false = w.0 in cc) | inr w ↦ absurd (let e : true ≡ false = w.0 in cc) ])
lex_step false true p n m s t L hn hm es et h = (λ l. inl (refl, refl), λ o. omega (arith, es, et, hn, hm))
lex_step false false p n m s t L hn hm es et h = (λ l. inr (refl, h.0 (omega (arith, l, es, et))), λ o. elim o [ inl w ↦ absurd (let e : false ≡ true = w.1 in cc) | inr w ↦ omega (arith, h.1 w.1, es, et) ])

-- the order of numbers is the lexicographic order of bits
pub number_order : (xs ys : List Bool) → length xs ≡ length ys → (number_of xs < number_of ys → IsLexBefore xs ys) × (IsLexBefore xs ys → number_of xs < number_of ys)
number_order [] [] l = (λ h. absurd (omega (arith, h)), λ h. absurd h)
number_order [] (y ∷ ys) l = absurd (omega (arith, l))
number_order (x ∷ xs) [] l = absurd (omega (arith, l))
number_order (x ∷ xs) (y ∷ ys) l =
    let len : length xs ≡ length ys = omega (arith, l) in
    lex_step x y (2 ^ length xs) (number_of xs) (number_of ys) (number_of (x ∷ xs)) (number_of (y ∷ ys)) (IsLexBefore xs ys)
    (number_of-below xs) (subst (λ (k : ℕ). number_of ys < 2 ^ k) (sym len) (number_of-below ys)) (number_of-cons x xs)
    (number_of-cons y ys ∙ ap (λ (k : ℕ). bit_value y * 2 ^ k + number_of ys) (sym len)) (number_order xs ys len)

-- the halves are the list
pub halves_whole : (bits : List Bool) → first_half bits ++ second_half bits ≡ bits
halves_whole bits = take-append-drop (length bits / 2) bits

pub length-first_half : (h : ℕ) (bits : List Bool) → length bits ≡ 2 * h → length (first_half bits) ≡ h
length-first_half h bits e = length-take-le (length bits / 2) bits (omega (arith, e)) ∙ omega (arith, e)

pub length-second_half : (h : ℕ) (bits : List Bool) → length bits ≡ 2 * h → length (second_half bits) ≡ h
length-second_half h bits e = length-drop (length bits / 2) bits ∙ omega (arith, e)

-- an assignment of level k + 1 has halves of level k
pub half_level : (k : ℕ) (bits : List Bool) → length bits ≡ 2 ^ suc k → (length (first_half bits) ≡ 2 ^ k) × (length (second_half bits) ≡ 2 ^ k)
half_level k bits e =
    let d : length bits ≡ 2 * 2 ^ k = e ∙ pow-suc 2 k ∙ omega arith in
    (length-first_half (2 ^ k) bits d, length-second_half (2 ^ k) bits d)

half_place : (xs ys : List Bool) → length xs ≡ length ys → length xs ≡ length (xs ++ ys) / 2
half_place xs ys e = omega (arith, e, length-append xs ys)

-- two lists of one length are the halves of the two together
pub first_half-append : (xs ys : List Bool) → length xs ≡ length ys → first_half (xs ++ ys) ≡ xs
first_half-append xs ys e = take_at xs ys (length (xs ++ ys) / 2) (half_place xs ys e)

pub second_half-append : (xs ys : List Bool) → length xs ≡ length ys → second_half (xs ++ ys) ≡ ys
second_half-append xs ys e = drop_at xs ys (length (xs ++ ys) / 2) (half_place xs ys e)

-- the number of an assignment and those of its halves
pub number_of-halves : (bits : List Bool) → number_of bits ≡ number_of (first_half bits) * 2 ^ length (second_half bits) + number_of (second_half bits)
number_of-halves bits = ap number_of (sym (halves_whole bits)) ∙ number_of-append (first_half bits) (second_half bits)

pub length-weave : (row col : List Bool) → length row ≡ length col → length (weave row col) ≡ 2 * length row
length-weave [] col e = refl
length-weave (r ∷ row) [] e = absurd (omega (arith, e))
length-weave (r ∷ row) (c ∷ col) e = omega (arith, length-weave row col (let l : length row ≡ length col = omega (arith, e) in l))

-- unweave of weave
pub row_of-weave : (row col : List Bool) → length row ≡ length col → row_of (weave row col) ≡ row
row_of-weave [] col e = refl
row_of-weave (r ∷ row) [] e = absurd (omega (arith, e))
row_of-weave (r ∷ row) (c ∷ col) e = ap (λ (xs : List Bool). r ∷ xs) (row_of-weave row col (omega (arith, e)))

pub column_of-weave : (row col : List Bool) → length row ≡ length col → column_of (weave row col) ≡ col
column_of-weave [] [] e = refl
column_of-weave [] (c ∷ col) e = absurd (omega (arith, e))
column_of-weave (r ∷ row) [] e = absurd (omega (arith, e))
column_of-weave (r ∷ row) (c ∷ col) e = ap (λ (xs : List Bool). c ∷ xs) (column_of-weave row col (omega (arith, e)))

-- weave of unweave
pub weave-unweave : (h : ℕ) (bits : List Bool) → length bits ≡ 2 * h → weave (row_of bits) (column_of bits) ≡ bits
weave-unweave h [] e = refl
weave-unweave h (r ∷ []) e = absurd (omega (arith, e))
weave-unweave zero (r ∷ c ∷ more) e = absurd (omega (arith, e))
weave-unweave (suc h) (r ∷ c ∷ more) e = ap (λ (xs : List Bool). r ∷ c ∷ xs) (weave-unweave h more (omega (arith, e)))

pub length-unweave : (h : ℕ) (bits : List Bool) → length bits ≡ 2 * h → (length (row_of bits) ≡ h) × (length (column_of bits) ≡ h)
length-unweave h [] e = (omega (arith, e), omega (arith, e))
length-unweave h (r ∷ []) e = absurd (omega (arith, e))
length-unweave zero (r ∷ c ∷ more) e = absurd (omega (arith, e))
length-unweave (suc h) (r ∷ c ∷ more) e =
    let i = length-unweave h more (omega (arith, e)) in
    (ap suc i.0, ap suc i.1)

-- the halves of a woven assignment are the woven halves
pub weave-append : (a b c d : List Bool) → length a ≡ length c → weave (a ++ b) (c ++ d) ≡ weave a c ++ weave b d
weave-append [] b [] d e = refl
weave-append [] b (y ∷ c) d e = absurd (omega (arith, e))
weave-append (x ∷ a) b [] d e = absurd (omega (arith, e))
weave-append (x ∷ a) b (y ∷ c) d e = ap (λ (xs : List Bool). x ∷ y ∷ xs) (weave-append a b c d (omega (arith, e)))

-- the equations of `all_bits`, which stays closed
pub all_bits-none : all_bits 0 ≡ [] ∷ []
unfolding all_bits
all_bits-none = refl

pub all_bits-more : (k : ℕ) → all_bits (suc k) ≡ map (λ bits. false ∷ bits) (all_bits k) ++ map (λ bits. true ∷ bits) (all_bits k)
unfolding all_bits
all_bits-more k = refl

-- there are 2 ^ k lists of k bits
pub length-all_bits : (k : ℕ) → length (all_bits k) ≡ 2 ^ k
unfolding all_bits
length-all_bits zero = refl
length-all_bits (suc k) =
    length-append (map (λ bits. false ∷ bits) (all_bits k)) (map (λ bits. true ∷ bits) (all_bits k))
    ∙ omega (arith, length-map (all_bits k) (λ bits. false ∷ bits), length-map (all_bits k) (λ bits. true ∷ bits), length-all_bits k, pow-suc 2 k)

read_left : (b : Bool) (k n : ℕ) (rest : List (List Bool)) → n < 2 ^ k → get_or (map (λ bits. b ∷ bits) (all_bits k) ++ rest) n [] ≡ b ∷ get_or (all_bits k) n []
read_left b k n rest h =
    let l : n < length (all_bits k) = omega (arith, h, length-all_bits k) in
    get_or_append_left (map (λ bits. b ∷ bits) (all_bits k)) rest [] n (omega (arith, l, length-map (all_bits k) (λ bits. b ∷ bits)))
    ∙ get_or-map (λ bits. b ∷ bits) (all_bits k) n [] [] l

read_right : (b c : Bool) (k n : ℕ) → 2 ^ k ≤ n → n < 2 ^ suc k → get_or (map (λ bits. b ∷ bits) (all_bits k) ++ map (λ bits. c ∷ bits) (all_bits k)) n [] ≡ c ∷ get_or (all_bits k) (n - 2 ^ k) []
read_right b c k n h h' =
    get_or-append_right (map (λ bits. b ∷ bits) (all_bits k)) (map (λ bits. c ∷ bits) (all_bits k)) (2 ^ k) n [] (length-map (all_bits k) (λ bits. b ∷ bits) ∙ length-all_bits k) h
    ∙ get_or-map (λ bits. c ∷ bits) (all_bits k) (n - 2 ^ k) [] [] (omega (arith, h, h', length-all_bits k, pow-suc 2 k))

-- the n-th of all lists of k bits has k bits and the number n
pub all_bits-place : (k n : ℕ) → n < 2 ^ k → (length (get_or (all_bits k) n []) ≡ k) × (number_of (get_or (all_bits k) n []) ≡ n)
unfolding all_bits
all_bits-place zero zero h = (refl, refl)
all_bits-place zero (suc n) h = absurd (omega (arith, h))
all_bits-place (suc k) n h = elim (cases_lt n (2 ^ k)) [
  | inl l ↦
      (let i = all_bits-place k n l in
      let bits = get_or (all_bits k) n [] in
      let e = read_left false k n (map (λ bits. true ∷ bits) (all_bits k)) l in (
        ap length e ∙ ap suc i.0,
        ap number_of e ∙ number_of-cons false bits ∙ omega (arith, i.1),
      ))
  | inr g ↦
      (let m = n - 2 ^ k in
      let i = all_bits-place k m (omega (arith, g, h, pow-suc 2 k)) in
      let bits = get_or (all_bits k) m [] in
      let e = read_right false true k n g h in (
        ap length e ∙ ap suc i.0,
        ap number_of e ∙ number_of-cons true bits ∙ ap (λ (j : ℕ). 1 * 2 ^ j + number_of bits) i.0 ∙ omega (arith, i.1, g),
      ))
]

-- all lists of k bits stand in the order of their numbers
pub all_bits-order : (k n : ℕ) → n < 2 ^ k → get_or (all_bits k) n [] ≡ bits_of k n
all_bits-order k n h =
    let p = all_bits-place k n h in
    same_from_number (get_or (all_bits k) n []) (bits_of k n) (p.0 ∙ sym (length-bits_of k n)) (p.1 ∙ sym (number_of-bits_of k n h))
