-- The nodes of all copies are at most as many as the signals of all chains of calls.
use Rattle.std.proofs.Common.{◌≡◌, zero, suc, ℕ, ◌+◌, ◌<◌, ◌≤◌, List, [], ◌∷◌, ◌++◌, Some, length, map, reverse, refl, sym, ap, ◌∙◌, subst, arith, length-append}
use Rattle.std.specs.List.{slice_get, sum_by, All}
use Rattle.std.specs.Prelude.{slice_index}
use Rattle.std.specs.Option.{option_map, option_map_or}
use Rattle.std.proofs.lemmas.List.{reverse-reverse, length-reverse}
use Rattle.std.proofs.lemmas.List.Sums.{sum_by-cons}
use Rattle.std.proofs.lemmas.Option.{same_Some, slice_get-map, slice_get-get_or, get_or_from_slice_get}
use Rattle.cf_order.specs.Chains.{end_of, chains, weight_at, total}
use Rattle.cf_order.proofs.ChainLaws.{each_listed}
use Rattle.cf_hierarchy.specs.declared.blocks.Block.{Block}
use Rattle.cf_hierarchy.specs.declared.instances.Instance.{Instance}
use Rattle.cf_hierarchy.specs.Hierarchy.{IsBlock}
use Rattle.cf_hierarchy.specs.Spreads.{instance_at, copy_at, nodes_from, IsAtMostDeep, Grown}
use Rattle.cf_hierarchy.specs.Flattening.{Signal}
use Rattle.cf_hierarchy.specs.Links.{calls, signals_within}
use Rattle.cf_hierarchy.proofs.SpreadLaws.{then_cases}
use Rattle.cf_hierarchy.proofs.PathLaws.{block_end}
use Rattle.cf_hierarchy.proofs.Signals.{Valid, signal_of}

-- the number stands in the list
abbrev pub Has : List ℕ → ℕ → Type 0
Has xs n = (i : ℕ) × (slice_get xs i ≡ Some n)

-- the list without the item at a place
abbrev pub without : ℕ → List ℕ → List ℕ
without k [] = []
without zero (x ∷ xs) = xs
without (suc k) (x ∷ xs) = x ∷ without k xs

pub length-without : (k : ℕ) (xs : List ℕ) (n : ℕ) → slice_get xs k ≡ Some n → suc (length (without k xs)) ≡ length xs
length-without k [] n h = absurd (cc)
length-without zero (x ∷ xs) n h = refl
length-without (suc k) (x ∷ xs) n h = ap suc (length-without k xs n h)

pub has-without : (k : ℕ) (xs : List ℕ) (n m : ℕ) → slice_get xs k ≡ Some n → (m ≡ n → ⊥) → Has xs m → Has (without k xs) m
has-without k [] n m h other (i, e) = absurd (cc)
has-without zero (x ∷ xs) n m h other (zero, e) = absurd (other (sym (same_Some x m e) ∙ same_Some x n h))
has-without zero (x ∷ xs) n m h other (suc i, e) = (i, e)
has-without (suc k) (x ∷ xs) n m h other (zero, e) = (0, e)
has-without (suc k) (x ∷ xs) n m h other (suc i, e) =
    let later = has-without k xs n m h other (i, e) in (suc later.0, later.1)

-- a list that has each number below n is at least so long
covering : (n : ℕ) (xs : List ℕ) → ((m : ℕ) → m < n → Has xs m) → n ≤ length xs
covering zero xs h = omega arith
covering (suc n) xs h =
    let last = h n (omega arith) in
    let rest = covering n (without last.0 xs)
    (λ m l. has-without last.0 xs n m last.1 (λ e. omega (arith, e, l)) (h m (omega (arith, l)))) in
    let long = length-without last.0 xs n last.1 in
    omega (arith, rest, long)

-- n numbers from b on
abbrev pub range : ℕ → ℕ → List ℕ
range b zero = []
range b (suc n) = b ∷ range (suc b) n

pub length-range : (b n : ℕ) → length (range b n) ≡ n
length-range b zero = refl
length-range b (suc n) = ap suc (length-range (suc b) n)

pub range-get : (b n s : ℕ) → s < n → slice_get (range b n) s ≡ Some (b + s)
range-get b zero s l = absurd (omega (arith, l))
range-get b (suc n) zero l = let z : b ≡ b + 0 = omega arith in ap Some z
range-get b (suc n) (suc s) l =
    let z : suc b + s ≡ b + suc s = omega arith in range-get (suc b) n s (omega (arith, l)) ∙ ap Some z

-- for each of the lists so many numbers from a base on
abbrev ranges : (List ℕ → ℕ) → (List ℕ → ℕ) → List (List ℕ) → List ℕ
ranges base size [] = []
ranges base size (is ∷ later) = range (base is) (size is) ++ ranges base size later

length-ranges : (base size : List ℕ → ℕ) (all : List (List ℕ)) → length (ranges base size all) ≡ sum_by size all
length-ranges base size [] = refl
length-ranges base size (is ∷ later) =
    omega (
      arith,
      sum_by-cons size is later,
      length-append (range (base is) (size is)) (ranges base size later),
      length-range (base is) (size is),
      length-ranges base size later,
    )

has-left : (xs ys : List ℕ) (n : ℕ) → Has xs n → Has (xs ++ ys) n
has-left [] ys n (i, e) = absurd (cc)
has-left (x ∷ xs) ys n (zero, e) = (0, e)
has-left (x ∷ xs) ys n (suc i, e) = let later = has-left xs ys n (i, e) in (suc later.0, later.1)

has-right : (xs ys : List ℕ) (n : ℕ) → Has ys n → Has (xs ++ ys) n
has-right [] ys n h = h
has-right (x ∷ xs) ys n h = let later = has-right xs ys n h in (suc later.0, later.1)

ranges-get : (base size : List ℕ → ℕ) (all : List (List ℕ)) (k s : ℕ) (is : List ℕ) → slice_get all k ≡ Some is → s < size is
    → Has (ranges base size all) (base is + s)
ranges-get base size [] k s is h l = absurd (cc)
ranges-get base size (js ∷ later) zero s is h l =
    subst (λ js. Has (range (base js) (size js) ++ ranges base size later) (base is + s)) (sym (same_Some js is h))
    (has-left (range (base is) (size is)) (ranges base size later) (base is + s) (s, range-get (base is) (size is) s l))
ranges-get base size (js ∷ later) (suc k) s is h l =
    has-right (range (base js) (size js)) (ranges base size later) (base is + s) (ranges-get base size later k s is h l)

module _ (blocks : List Block) (copies : List Instance) (firsts : List ℕ) (end levels : ℕ)
    (ok : All (IsBlock blocks) blocks) (grown : Grown blocks copies firsts end)
    (all : length copies ≤ length firsts) (deep : IsAtMostDeep blocks levels) where
  abbrev sizes : List ℕ
  sizes = map (λ (b : Block). length b.drivers) blocks

  abbrev base : List ℕ → ℕ
  base is = (instance_at copies (copy_at firsts (reverse is))).base

  numbered : (x : Signal) → Valid blocks x
      → Has (ranges base (weight_at (calls blocks) sizes 0) (chains (calls blocks) levels 0))
      ((instance_at copies (copy_at firsts x.path)).base + x.at)
  numbered x (b, there, below) =
      let is = reverse x.path in
      let at = then_cases (slice_get blocks) (end_of (calls blocks) 0 is) b (sym (block_end blocks x.path) ∙ there) in
      let short = deep x.path b there in
      let listed = each_listed (calls blocks) levels 0 is (at.0, at.1) (omega (arith, short, length-reverse x.path)) in
      let stands : slice_get (chains (calls blocks) levels 0) listed.0 ≡ Some is =
      slice_get-get_or (chains (calls blocks) levels 0) listed.0 is listed.1 ∙ ap Some listed.2 in
      let size : weight_at (calls blocks) sizes 0 is ≡ length b.drivers =
      ap (λ o. option_map_or (slice_index sizes) o 0) at.1
      ∙ get_or_from_slice_get sizes at.0 (length b.drivers) 0
      (slice_get-map (λ (b : Block). length b.drivers) blocks at.0 ∙ ap (option_map (λ (b : Block). length b.drivers)) at.2) in
      subst (λ p. Has (ranges base (weight_at (calls blocks) sizes 0) (chains (calls blocks) levels 0))
      ((instance_at copies (copy_at firsts p)).base + x.at)) (reverse-reverse x.path)
      (ranges-get base (weight_at (calls blocks) sizes 0) (chains (calls blocks) levels 0) listed.0 x.at is stands
      (omega (arith, below, size)))

  -- there are no more nodes
  pub few_nodes : length (nodes_from blocks copies firsts 0 copies) ≤ signals_within blocks levels
  unfolding total
  few_nodes =
      let weight = weight_at (calls blocks) sizes 0 in
      let list = chains (calls blocks) levels 0 in
      let covered = covering (length (nodes_from blocks copies firsts 0 copies)) (ranges base weight list)
      (λ n l.
      let x = signal_of blocks copies firsts end ok grown all n l in
      subst (Has (ranges base weight list)) x.2 (numbered x.0 x.1)) in
      let long = length-ranges base weight list in
      omega (arith, covered, long)
