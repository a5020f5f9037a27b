use Rattle.std.proofs.Common.{◌≡◌, ℕ, zero, suc, ◌<◌, ◌≤◌, ◌+◌, ◌-◌, ◌^◌, max, Bool, true, false, List, [], ◌∷◌, map, length, get_or, refl, sym, ◌∙◌, ap, arith, pow-suc}
use Rattle.std.specs.Prelude.{if◌then◌else◌}
use Rattle.std.proofs.lemmas.List.{length-map, get_or-map}
use Rattle.std.proofs.lemmas.Nat.{pow_pos}
use Rattle.cf_model.specs.Assignments.{number_of, all_bits, bit_at}
use Rattle.cf_model.specs.Renumbering.{width, Grows}
use Rattle.cf_model.proofs.AssignmentLaws.{number_of-cons, number_of-below, length-all_bits, all_bits-place}
use Rattle.cf_model.proofs.Growth.{Under, Under-width}
use Rattle.cf_build.proofs.Loops.{Under-at}
use Rattle.cf_pkg.specs.Basics.{bit_exit}

under_map : {X : Type 0} (k : ℕ) (f : X → ℕ) (xs : List X) → ((x : X) → f x < k) → Under k (map f xs)
under_map k f [] h = tt
under_map k f (x ∷ xs) h = (h x, under_map k f xs h)

more : (n : ℕ) (xs : List ℕ) → 1 ≤ n → Under 2 xs → Grows n xs
more n [] h u = tt
more n (x ∷ xs) h u = (omega (arith, h, u.0), more (max n (suc x)) xs (omega (arith, h)) u.1)

-- zeros and ones, a zero first, number by first reach
grown : (xs : List ℕ) → Under 2 xs → get_or xs 0 0 ≡ 0 → Grows 0 xs
grown [] u e = tt
grown (x ∷ xs) u e = (let z : x ≡ 0 = e in omega (arith, z), more (max 0 (suc x)) xs (omega arith) u.1)

width_within : (n m : ℕ) (xs : List ℕ) → n ≤ m → Under m xs → width n xs ≤ m
width_within n m [] h u = h
width_within n m (x ∷ xs) h u = width_within (max n (suc x)) m xs (omega (arith, h, u.0)) u.1

none_set : (bits : List Bool) (i : ℕ) → number_of bits ≡ 0 → bit_at bits i ≡ false
none_set [] i e = refl
none_set (false ∷ bits) zero e = refl
none_set (true ∷ bits) zero e = absurd (omega (arith, number_of-cons true bits, e, pow_pos (length bits)))
none_set (b ∷ bits) (suc i) e = none_set bits i (omega (arith, number_of-cons b bits, e))

all_set : (bits : List Bool) (i : ℕ) → number_of bits + 1 ≡ 2 ^ length bits → i < length bits → bit_at bits i ≡ true
all_set [] i e h = absurd (omega (arith, h))
all_set (false ∷ bits) i e h =
    let q : number_of (false ∷ bits) + 1 ≡ 2 ^ suc (length bits) = e in
    absurd (omega (arith, number_of-cons false bits, q, number_of-below bits, pow-suc 2 (length bits)))
all_set (true ∷ bits) zero e h = refl
all_set (true ∷ bits) (suc i) e h =
    let q : number_of (true ∷ bits) + 1 ≡ 2 ^ suc (length bits) = e in
    all_set bits i (omega (arith, number_of-cons true bits, q, pow-suc 2 (length bits))) (omega (arith, h))

abbrev digit : Bool → ℕ
digit b = if b then 1 else 0

small : (b : Bool) → digit b < 2
small true = omega arith
small false = omega arith

-- the exit that stands at a place of a variable's pattern
exit_at_place : (k i n : ℕ) → n < 2 ^ k → get_or (map (bit_exit i) (all_bits k)) n 0 ≡ bit_exit i (get_or (all_bits k) n [])
exit_at_place k i n h = get_or-map (bit_exit i) (all_bits k) n [] 0 (omega (arith, h, length-all_bits k))

under_bits : (k i : ℕ) → Under 2 (map (bit_exit i) (all_bits k))
under_bits k i = under_map 2 (bit_exit i) (all_bits k) (λ bits. small (bit_at bits i))

-- a variable's pattern numbers by first reach, and gives out two exits
pub variable_grows : (k i : ℕ) → Grows 0 (map (bit_exit i) (all_bits k))
variable_grows k i =
    let place = all_bits-place k 0 (pow_pos k) in
    grown (map (bit_exit i) (all_bits k)) (under_bits k i) (exit_at_place k i 0 (pow_pos k) ∙ ap digit (none_set (get_or (all_bits k) 0 []) i place.1))

pub variable_width : (k i : ℕ) → i < k → width 0 (map (bit_exit i) (all_bits k)) ≡ 2
variable_width k i h =
    let xs = map (bit_exit i) (all_bits k) in
    let last = 2 ^ k - 1 in
    let lt : last < 2 ^ k = omega (arith, pow_pos k) in
    let place = all_bits-place k last lt in
    let bits = get_or (all_bits k) last [] in
    let top : number_of bits + 1 ≡ 2 ^ length bits = (let a : number_of bits + 1 ≡ 2 ^ k = omega (arith, place.1, pow_pos k) in a) ∙ ap (λ (j : ℕ). 2 ^ j) (sym place.0) in
    let one : get_or xs last 0 ≡ 1 = exit_at_place k i last lt ∙ ap digit (all_set bits i top (omega (arith, h, place.0))) in
    let inside : last < length xs = omega (arith, lt, length-map (all_bits k) (bit_exit i), length-all_bits k) in
    let least : get_or xs last 0 < width 0 xs = Under-at (width 0 xs) xs (Under-width 0 (width 0 xs) xs (omega arith)) last 0 inside in
    omega (arith, one, least, width_within 0 2 xs (omega arith) (under_bits k i))

first_zero : {X : Type 0} (xs : List X) → ◌≡◌ {A = ℕ} (get_or (map (λ x. 0) xs) 0 0) 0
first_zero [] = refl
first_zero (x ∷ xs) = refl

abbrev zero_at : List Bool → ℕ
zero_at bits = 0

-- a constant's pattern numbers by first reach, and gives out one exit
pub constant_grows : {X : Type 0} (xs : List X) → Grows 0 (map (λ x. 0) xs)
constant_grows xs = grown (map (λ x. 0) xs) (under_map 2 (λ x. 0) xs (λ x. omega arith)) (first_zero xs)

pub constant_width : (k : ℕ) → width 0 (map (λ bits. 0) (all_bits k)) ≡ 1
constant_width k =
    let xs : List ℕ = map zero_at (all_bits k) in
    let inside : 0 < length xs = omega (arith, pow_pos k, length-map (all_bits k) zero_at, length-all_bits k) in
    let least : get_or xs 0 0 < width 0 xs = Under-at (width 0 xs) xs (Under-width 0 (width 0 xs) xs (omega arith)) 0 0 inside in
    omega (arith, least, width_within 0 1 xs (omega arith) (under_map 1 zero_at (all_bits k) (λ bits. omega arith)))
