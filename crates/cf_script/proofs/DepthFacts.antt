-- Blocks of a text, and how many parentheses are open in each.
use Rattle.std.proofs.Common.{ℕ, zero, suc, ◌≡◌, ◌≤◌, ◌+◌, ◌==◌, Bool, cond, List, [], ◌∷◌, take, drop, length, ap, sym, subst, ◌∙◌, arith}
use Rattle.std.specs.List.{count_by}
use Rattle.std.proofs.lemmas.List.Sums.{sum_by-cons}
use Rattle.cf_reference.specs.LineRefusals.{IsDeep}

abbrev pub opens : List ℕ → ℕ
opens text = count_by (λ b. b == 40) text

abbrev pub closes : List ℕ → ℕ
closes text = count_by (λ b. b == 41) text

-- behind so many parentheses some front is too deep
abbrev pub IsDeepBehind : ℕ → ℕ → List ℕ → Type 0
IsDeepBehind opened closed text = (n : ℕ) × (closed + closes (take n text) + 65 ≤ opened + opens (take n text))

abbrev one_if : Bool → ℕ
one_if t = cond t 1 0

block_step : (text : List ℕ) (m k o c : ℕ) → c + closes (take k text) + 65 ≤ o + opens (take k text) → o + opens (take m text) ≤ 64 + c
    → IsDeepBehind (o + opens (take m text)) (c + closes (take m text)) (drop m text)
block_step text m zero o c deep few = absurd (omega (arith, deep, few))
block_step text zero (suc k) o c deep few = (suc k, omega (arith, deep))
block_step [] (suc m) (suc k) o c deep few = absurd (omega (arith, deep, few))
block_step (b ∷ rest) (suc m) (suc k) o c deep few =
    let open_k = sum_by-cons (λ x. cond (x == 40) 1 0) b (take k rest) in
    let open_m = sum_by-cons (λ x. cond (x == 40) 1 0) b (take m rest) in
    let close_k = sum_by-cons (λ x. cond (x == 41) 1 0) b (take k rest) in
    let close_m = sum_by-cons (λ x. cond (x == 41) 1 0) b (take m rest) in
    let later = block_step rest m k (o + one_if (b == 40)) (c + one_if (b == 41)) (omega (arith, deep, open_k, close_k)) (omega (arith, few, open_m)) in
    (later.0, omega (arith, later.1, open_m, close_m))

-- before any block
pub deep-begin : (text : List ℕ) → IsDeep text → IsDeepBehind 0 0 text
deep-begin text deep = (deep.0, omega (arith, deep.1))

-- a block that isn't too deep, whatever it closes
pub deep-step : (text : List ℕ) (m o c : ℕ) → o + opens (take m text) ≤ 64 + c → IsDeepBehind o c text → IsDeepBehind (o + opens (take m text)) (c + closes (take m text)) (drop m text)
deep-step text m o c few deep = block_step text m deep.0 o c deep.1 few

-- behind all blocks
pub deep-end : (o c : ℕ) → o ≤ 64 + c → IsDeepBehind o c [] → ⊥
deep-end o c few deep = at deep.0 deep.1
  where
    at : (n : ℕ) → c + closes (take n []) + 65 ≤ o + opens (take n []) → ⊥
    at zero h = omega (arith, h, few)
    at (suc n) h = omega (arith, h, few)

split_lengths : (m : ℕ) (l : List ℕ) → length (take m l) + length (drop m l) ≡ length l
split_lengths zero l = omega arith
split_lengths (suc m) [] = omega arith
split_lengths (suc m) (b ∷ l) = omega (arith, split_lengths m l)

-- one block more
pub block-more : (rest block more : List ℕ) (m o c n k : ℕ) → block ≡ take m rest → more ≡ drop m rest → n ≡ opens block → k ≡ closes block → o + n ≤ 64 + c → IsDeepBehind o c rest
    → IsDeepBehind (o + n) (c + k) more
block-more rest block more m o c n k front back opened closed few deep =
    let n_is : n ≡ opens (take m rest) = opened ∙ ap opens front in
    let k_is : k ≡ closes (take m rest) = closed ∙ ap closes front in
    let s = deep-step rest m o c (omega (arith, few, n_is)) deep in
    subst (λ (l : List ℕ). IsDeepBehind (o + n) (c + k) l) (sym back) (s.0, omega (arith, s.1, n_is, k_is))

pub block-room : (rest block more : List ℕ) (m x n most : ℕ) → block ≡ take m rest → more ≡ drop m rest → n ≤ length block → x + length rest ≤ most → x + n + length more ≤ most
block-room rest block more m x n most front back few room = omega (arith, few, room, split_lengths m rest, ap length front, ap length back)
