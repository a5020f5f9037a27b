use Rattle.std.proofs.Common.{◌≡◌, ℕ, ◌+◌, ◌<◌, ◌≤◌, List, [], ◌∷◌, ◌++◌, Option, Some, None, length, get_or, reverse, min, refl, sym, ap, ◌∙◌, subst, inl, inr, arith}
use Rattle.std.specs.List.{slice_get, All}
use Rattle.std.specs.Option.{option_map, option_and_then}
use Rattle.std.proofs.lemmas.Bool.{cases_lt}
use Rattle.std.proofs.lemmas.List.{get_or-map, get_or_past, reverse-append, reverse-reverse, length-reverse, length-map}
use Rattle.std.proofs.lemmas.Option.{slice_get_within, slice_get_past, get_or_from_slice_get, slice_get-get_or, slice_get-map}
use Rattle.cf_order.specs.Orders.{row}
use Rattle.cf_order.specs.Chains.{end_of, IsLongest, total}
use Rattle.cf_hierarchy.specs.declared.blocks.Call.{Call}
use Rattle.cf_hierarchy.specs.declared.blocks.Block.{Block}
use Rattle.cf_hierarchy.specs.Hierarchy.{block_at, IsBlock}
use Rattle.cf_hierarchy.specs.Spreads.{IsAtMostDeep, no_block}
use Rattle.cf_hierarchy.specs.Links.{called, calls, IsTooDeep, expanded}

then_assoc : {A B C : Type 0} (f : A → Option B) (g : B → Option C) (o : Option A)
    → option_and_then g (option_and_then f o) ≡ option_and_then (λ a. option_and_then g (f a)) o
then_assoc f g None = refl
then_assoc f g (Some a) = refl

then_agree : {A B : Type 0} (f g : A → Option B) → ((a : A) → f a ≡ g a) → (o : Option A)
    → option_and_then f o ≡ option_and_then g o
then_agree f g h None = refl
then_agree f g h (Some a) = h a

-- a call at the end of a chain
end_of-push : (rows : List (List ℕ)) (m : ℕ) (is : List ℕ) (j : ℕ)
    → end_of rows m (is ++ j ∷ []) ≡ option_and_then (λ c. slice_get (row rows c) j)
    (end_of rows m is)
end_of-push rows m [] j = last (slice_get (row rows m) j) where
  last : (o : Option ℕ) → option_and_then (λ c. Some c) o ≡ o
  last None = refl
  last (Some c) = refl
end_of-push rows m (i ∷ is) j =
    then_agree (λ c. end_of rows c (is ++ j ∷ []))
    (λ c. option_and_then (λ c. slice_get (row rows c) j) (end_of rows c is))
    (λ c. end_of-push rows c is j) (slice_get (row rows m) i)
    ∙ sym (then_assoc (λ c. end_of rows c is) (λ c. slice_get (row rows c) j)
    (slice_get (row rows m) i))

map_then : (blocks : List Block) (o : Option Call)
    → option_and_then (slice_get blocks) (option_map (λ (c : Call). c.block) o) ≡ option_and_then
    (λ (c : Call). slice_get blocks c.block) o
map_then blocks None = refl
map_then blocks (Some c) = refl

-- one call, by blocks and by numbers
step : (blocks : List Block) (j e : ℕ) → option_and_then (λ (b : Block). option_and_then
    (λ (c : Call). slice_get blocks c.block) (slice_get b.calls j)) (slice_get blocks e)
    ≡ option_and_then (slice_get blocks) (slice_get (row (calls blocks) e) j)
step blocks j e = elim (cases_lt e (length blocks)) [
  | inl l ↦
      let b = get_or blocks e no_block in
      let r : row (calls blocks) e ≡ called b.calls = get_or-map (λ (b : Block). called b.calls)
      blocks e no_block [] l in
      ap (option_and_then (λ (b : Block). option_and_then (λ (c : Call). slice_get blocks c.block)
      (slice_get b.calls j))) (slice_get-get_or blocks e no_block l)
      ∙ sym (map_then blocks (slice_get b.calls j))
      ∙ ap (option_and_then (slice_get blocks))
      (sym (slice_get-map (λ (c : Call). c.block) b.calls j))
      ∙ ap (λ cs. option_and_then (slice_get blocks) (slice_get cs j)) (sym r)
  | inr g ↦
      let r : row (calls blocks) e ≡ [] = get_or_past (calls blocks) e []
      (omega (arith, g, length-map blocks (λ (b : Block). called b.calls))) in
      ap (option_and_then (λ (b : Block). option_and_then (λ (c : Call). slice_get blocks c.block)
      (slice_get b.calls j))) (slice_get_past blocks e g)
      ∙ ap (λ cs. option_and_then (slice_get blocks) (slice_get cs j)) (sym r)
]

-- a path with its last call first, and the chain with its first call first
pub block_end : (blocks : List Block) (p : List ℕ)
    → block_at blocks p ≡ option_and_then (slice_get blocks) (end_of (calls blocks) 0 (reverse p))
block_end blocks [] = refl
block_end blocks (j ∷ p) =
    ap (option_and_then (λ (b : Block). option_and_then (λ (c : Call). slice_get blocks c.block)
    (slice_get b.calls j))) (block_end blocks p)
    ∙ then_assoc (slice_get blocks) (λ (b : Block). option_and_then
    (λ (c : Call). slice_get blocks c.block) (slice_get b.calls j))
    (end_of (calls blocks) 0 (reverse p))
    ∙ then_agree (λ e. option_and_then (λ (b : Block). option_and_then
    (λ (c : Call). slice_get blocks c.block) (slice_get b.calls j)) (slice_get blocks e))
    (λ e. option_and_then (slice_get blocks) (slice_get (row (calls blocks) e) j))
    (step blocks j) (end_of (calls blocks) 0 (reverse p))
    ∙ sym (then_assoc (λ e. slice_get (row (calls blocks) e) j) (slice_get blocks)
    (end_of (calls blocks) 0 (reverse p)))
    ∙ ap (option_and_then (slice_get blocks)) (sym (end_of-push (calls blocks) 0 (reverse p) j))
    ∙ ap (λ is. option_and_then (slice_get blocks) (end_of (calls blocks) 0 is))
    (sym (reverse-append (j ∷ []) p))

then_cases : {A B : Type 0} (f : A → Option B) (o : Option A) (b : B) → option_and_then f o ≡ Some b
    → (a : A) × (o ≡ Some a) × (f a ≡ Some b)
then_cases f None b h = absurd (cc)
then_cases f (Some a) b h = (a, refl, h)

-- no path is longer than the longest chain
pub deep_of : (blocks : List Block) (h : ℕ) → IsLongest (calls blocks) 0 h → h ≤ 64
    → IsAtMostDeep blocks 64
deep_of blocks h longest low p b e =
    let c = then_cases (slice_get blocks) (end_of (calls blocks) 0 (reverse p)) b
    (sym (block_end blocks p) ∙ e) in
    omega (arith, longest.most (reverse p) (c.0, c.1), length-reverse p)

-- the end of a chain is a block
pub end_within : (blocks : List Block) → All (IsBlock blocks) blocks → (m : ℕ) → m < length blocks
    → (is : List ℕ) (e : ℕ) → end_of (calls blocks) m is ≡ Some e → e < length blocks
end_within blocks ok m h [] e at = let z : m ≡ e = cc (at) in omega (arith, z, h)
end_within blocks ok m h (i ∷ is) e at =
    let c = then_cases (λ c. end_of (calls blocks) c is) (slice_get (row (calls blocks) m) i) e at
    in
    let b = get_or blocks m no_block in
    let r : row (calls blocks) m ≡ called b.calls = get_or-map (λ (b : Block). called b.calls)
    blocks m no_block [] h in
    let l = slice_get_within (row (calls blocks) m) i c.0 c.1 in
    let k : i < length b.calls = omega (
      arith,
      l,
      ap length r,
      length-map b.calls
          (λ (c : Call). c.block),
    ) in
    let blank : Call = record { block = 0; actuals = [] } in
    let w = ((ok m no_block h).calls i blank k).there in
    let v = get_or_from_slice_get (row (calls blocks) m) i c.0 0 c.1 in
    let u = ap (λ xs. get_or xs i 0) r in
    let t = get_or-map (λ (c : Call). c.block) b.calls i blank 0 k in
    end_within blocks ok c.0 (omega (arith, w, v, u, t)) is e c.2

pub too_deep : (blocks : List Block) (h : ℕ) → All (IsBlock blocks) blocks → 0 < length blocks
    → IsLongest (calls blocks) 0 h → 64 < h → IsTooDeep blocks
too_deep blocks h ok some longest low =
    let r = longest.reached in
    let e = r.1.0 in
    let w = end_within blocks ok 0 some r.0 e r.1.1 in
    record {
      path = reverse r.0;
      block = get_or blocks e no_block;
      there = block_end blocks (reverse r.0) ∙ ap
          (λ is. option_and_then (slice_get blocks) (end_of (calls blocks) 0 is))
          (reverse-reverse r.0) ∙ ap (option_and_then (slice_get blocks)) r.1.1 ∙ slice_get-get_or
          blocks e no_block w;
      long = omega (arith, low, r.2, length-reverse r.0);
    }

pub calls_below : (blocks : List Block) → All (IsBlock blocks) blocks
    → All (All (λ t. t < length (calls blocks))) (calls blocks)
calls_below blocks ok k d h i e l =
    let w : k < length blocks = omega (arith, h, length-map blocks (λ (b : Block). called b.calls))
    in
    let b = get_or blocks k no_block in
    let r : get_or (calls blocks) k d ≡ called b.calls = get_or-map (λ (b : Block). called b.calls)
    blocks k no_block d w in
    let n : i < length b.calls = omega (
      arith,
      l,
      ap length r,
      length-map b.calls
          (λ (c : Call). c.block),
    ) in
    let blank : Call = record { block = 0; actuals = [] } in
    let t = ((ok k no_block w).calls i blank n).there in
    let u = ap (λ xs. get_or xs i e) r in
    let v = get_or-map (λ (c : Call). c.block) b.calls i blank e n in
    omega (arith, t, u, v, length-map blocks (λ (b : Block). called b.calls))

-- what is measured of the first block
pub record Measured (blocks : List Block) (weights : List ℕ) (height count : ℕ) : Type 0 where
  pub longest : IsLongest (calls blocks) 0 height
  pub counted : (k : ℕ) → height ≤ k → count ≡ min (1000000 + 1) (total (calls blocks) weights k 0)

pub measured : (blocks : List Block) (weights : List ℕ) (rows : List (List ℕ))
    (heights counts hs cs : List ℕ) → rows ≡ calls blocks → 0 < length blocks
    → ((m : ℕ) → m < length rows → IsLongest rows m (get_or heights m 0))
    → ((m k : ℕ) → m < length rows → get_or heights m 0 ≤ k
    → get_or counts m 0 ≡ min (1000000 + 1) (total rows weights k m))
    → hs ≡ heights → cs ≡ counts → Measured blocks weights (get_or hs 0 0) (get_or cs 0 0)
measured blocks weights rows heights counts hs cs e some tall much eh ec =
    let l : 0 < length rows = omega (
      arith,
      some,
      ap length e,
      length-map blocks
          (λ (b : Block). called b.calls),
    ) in
    let h : get_or hs 0 0 ≡ get_or heights 0 0 = ap (λ xs. get_or xs 0 0) eh in
    let c : get_or cs 0 0 ≡ get_or counts 0 0 = ap (λ xs. get_or xs 0 0) ec in
    record {
      longest = subst (λ rows. IsLongest rows 0 (get_or hs 0 0)) e
          (subst (IsLongest rows 0) (sym h) (tall 0 l));
      counted = λ k q. c ∙ much 0 k l (omega (arith, q, h)) ∙ ap
          (λ rows. min (1000000 + 1) (total rows weights k 0)) e;
    }

pub too_large : (blocks : List Block) (weights : List ℕ) (h n : ℕ) → Measured blocks weights h n
    → h ≤ 64 → 1000000 < n → IsAtMostDeep blocks 64 × (1000000 < expanded blocks weights)
too_large blocks weights h n m low much =
    (deep_of blocks h m.longest low, omega (arith, m.counted 64 low))

pub not_large : (blocks : List Block) (weights : List ℕ) (h n : ℕ) → Measured blocks weights h n
    → h ≤ 64 → n ≤ 1000000 → expanded blocks weights ≤ 1000000
not_large blocks weights h n m low much = omega (arith, m.counted 64 low)
