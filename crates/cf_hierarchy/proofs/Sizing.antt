use Rattle.std.proofs.Common.{◌≡◌, ◌≢◌, suc, ℕ, ◌+◌, ◌<◌, ◌≤◌, List, [], ◌∷◌, Some, length, get_or, set, min, refl, sym, ap, ◌∙◌, subst, inl, inr, arith, length-take, length-set}
use Rattle.std.specs.List.{slice_get, All, sum_by}
use Rattle.std.specs.Prelude.{slice_index}
use Rattle.std.proofs.lemmas.Bool.{cases_eq}
use Rattle.std.proofs.lemmas.List.{get_or_default, get_or_read, get_or-take, get_or-set_same, get_or-set_other}
use Rattle.std.proofs.lemmas.Option.{slice_get-get_or, slice_get_within, get_or_from_slice_get}
use Rattle.cf_order.specs.Orders.{row, IsOrder}
use Rattle.cf_order.specs.Chains.{IsLongest, tallest, total}
use Rattle.cf_order.proofs.ChainLaws.{size, total_is, longest_of, size_of}

-- the first models of the order have their heights and counts
pub record Sized (calls : List (List ℕ)) (weights order : List ℕ) (limit : ℕ)
    (heights counts : List ℕ) (k : ℕ) : Type 0 where
  pub tall : length heights ≡ length calls
  pub full : length counts ≡ length calls
  pub low : (i : ℕ) → i < k → slice_index heights (slice_index order i) ≤ i
  pub longest : (i : ℕ) → i < k → IsLongest calls (slice_index order i)
      (slice_index heights (slice_index order i))
  pub counted : (i b : ℕ) → i < k → slice_index heights (slice_index order i) ≤ b
      → slice_index counts (slice_index order i) ≡ min (limit + 1)
      (size calls weights b (slice_index order i))

-- what the next model calls is among those before it
pub called_before : (calls : List (List ℕ)) (order : List ℕ) → IsOrder calls order → (k : ℕ)
    → k < length order → (i c : ℕ) → slice_get (row calls (slice_index order k)) i ≡ Some c
    → (j : ℕ) × (j < k) × (slice_index order j ≡ c)
called_before calls order is k h i c e =
    let r = row calls (slice_index order k) in
    let at = is.after k h c (i, slice_get_within r i c e, get_or_from_slice_get r i c c e) in
    let l : at.0 < k = omega (arith, length-take k order, at.1) in (
      at.0,
      l,
      get_or_default order at.0 0 c (omega (arith, h, l)) ∙ sym
          (get_or-take k order at.0 c l) ∙ at.2,
    )

tallest_low : (heights : List ℕ) (b : ℕ) (cs : List ℕ)
    → ((i c : ℕ) → slice_get cs i ≡ Some c → slice_index heights c + 1 ≤ b) → tallest heights cs ≤ b
tallest_low heights b [] h = omega arith
tallest_low heights b (c ∷ cs) h = omega
    (arith, h 0 c refl, tallest_low heights b cs (λ i d e. h (suc i) d e))

module _ (calls : List (List ℕ)) (weights order : List ℕ) (is : IsOrder calls order) (limit : ℕ)
    (heights counts : List ℕ) (k : ℕ)
    (sized : Sized calls weights order limit heights counts k) (h : k < length order) where
  pub called_is : (P : ℕ → Type 0) → ((i : ℕ) → i < k → P (slice_index order i)) → (i c : ℕ)
      → slice_get (row calls (slice_index order k)) i ≡ Some c → P c
  called_is P all i c e = let b = called_before calls order is k h i c e in subst P b.2
      (all b.0 b.1)

  height_low : tallest heights (row calls (slice_index order k)) ≤ k
  height_low = tallest_low heights k (row calls (slice_index order k))
      (λ i c e. let b = called_before calls order is k h i c e in
      let l = sized.low b.0 b.1 in let f = ap (slice_index heights) b.2 in omega (arith, l, f, b.1))

  pub called_within : All (λ c. c < length calls) (row calls (slice_index order k))
  called_within i d l =
      let c = get_or (row calls (slice_index order k)) i d in
      let b = called_before calls order is k h i c
      (slice_get-get_or (row calls (slice_index order k)) i d l) in
      omega (arith, is.within b.0 (omega (arith, b.1, h)), b.2)

  pub called_low : All (λ c. slice_index heights c < k) (row calls (slice_index order k))
  called_low i d l =
      let c = get_or (row calls (slice_index order k)) i d in
      let b = called_before calls order is k h i c
      (slice_get-get_or (row calls (slice_index order k)) i d l) in
      let s = sized.low b.0 b.1 in let f = ap (slice_index heights) b.2 in omega (arith, s, f, b.1)

  pub called_few : All (λ c. slice_index counts c ≤ limit + 1) (row calls (slice_index order k))
  called_few i d l =
      let c = get_or (row calls (slice_index order k)) i d in
      let b = called_before calls order is k h i c
      (slice_get-get_or (row calls (slice_index order k)) i d l) in
      let s = sized.counted b.0 (slice_index heights (slice_index order b.0)) b.1 (omega arith) in
      let f = ap (slice_index counts) b.2 in omega (arith, s, f)

  module _ (height count : ℕ) (tall : height ≡ tallest heights (row calls (slice_index order k)))
      (much : count ≡ min (limit + 1) (slice_index weights (slice_index order k) + sum_by
      (slice_index counts) (row calls (slice_index order k)))) where
    pub sized_more : Sized calls weights order limit (set heights (slice_index order k) height)
        (set counts (slice_index order k) count) (k + 1)
    sized_more =
        let m = slice_index order k in
        let hs = set heights m height in let cs = set counts m count in
        let here : slice_index hs m ≡ height = get_or-set_same heights m height 0
        (omega (arith, is.within k h, sized.tall)) in
        let much_here : slice_index cs m ≡ count = get_or-set_same counts m count 0
        (omega (arith, is.within k h, sized.full)) in
        let ne : (i : ℕ) → i < k → slice_index order i ≢ m = λ i l same. let z = is.once i k
        (omega (arith, l, h)) h same in omega (arith, z, l) in
        let old : (i : ℕ) → i < k → slice_index hs (slice_index order i) ≡ slice_index heights
        (slice_index order i) = λ i l. get_or-set_other heights m (slice_index order i) height 0
        (ne i l) in
        let much_old : (i : ℕ) → i < k → slice_index cs (slice_index order i) ≡ slice_index counts
        (slice_index order i) = λ i l. get_or-set_other counts m (slice_index order i) count 0
        (ne i l) in
        record {
          tall = length-set heights m height ∙ sized.tall;
          full = length-set counts m count ∙ sized.full;
          low = λ i l. elim (cases_eq i k) [
            | inl z ↦ subst (λ j. slice_index hs (slice_index order j) ≤ j) (sym z)
                (omega (arith, here, tall, height_low))
            | inr n ↦ let l' : i < k = omega arith in omega (arith, old i l', sized.low i l')
          ];
          longest = λ i l. elim (cases_eq i k) [
            | inl z ↦ subst (λ j. IsLongest calls (slice_index order j)
                (slice_index hs (slice_index order j))) (sym z)
                (subst (IsLongest calls m) (sym (here ∙ tall))
                (longest_of calls m heights (λ i c e. called_is
                (λ c. IsLongest calls c (slice_index heights c)) sized.longest i c e)))
            | inr n ↦ let l' : i < k = omega arith in subst (IsLongest calls (slice_index order i))
                (sym (old i l')) (sized.longest i l')
          ];
          counted = λ i b l. elim (cases_eq i k) [
            | inl z ↦ subst (λ j. slice_index hs (slice_index order j) ≤ b
                → slice_index cs (slice_index order j) ≡ min (limit + 1)
                (size calls weights b (slice_index order j))) (sym z)
                (λ q. much_here ∙ much ∙ size_of calls weights heights counts (limit + 1) m
                (λ i c b e r. called_is (λ c. (b : ℕ) → slice_index heights c ≤ b → slice_index
                counts c ≡ min (limit + 1) (size calls weights b c))
                (λ i l b r. sized.counted i b l r) i c e b r)
                b (omega (arith, q, here, tall)))
            | inr n ↦ let l' : i < k = omega arith in λ q. much_old i l' ∙ sized.counted i b l'
                (omega (arith, q, old i l'))
          ];
        }

-- at the end
module _ (calls : List (List ℕ)) (weights order : List ℕ) (is : IsOrder calls order) (limit : ℕ)
    (heights counts : List ℕ) (k : ℕ)
    (sized : Sized calls weights order limit heights counts k) (all : length order ≤ k) (m : ℕ)
    (h : m < length calls) where
  place : (i : ℕ) × (i < k) × (slice_index order i ≡ m)
  place = let at = is.every m h in (
    at.0,
    omega (arith, at.1, all),
    get_or_default order at.0 0 m
        at.1 ∙ at.2,
  )

  pub all_longest : IsLongest calls m (slice_index heights m)
  all_longest = subst (λ m. IsLongest calls m (slice_index heights m)) place.2
      (sized.longest place.0 place.1)

  pub all_counted : (b : ℕ) → slice_index heights m ≤ b
      → slice_index counts m ≡ min (limit + 1) (total calls weights b m)
  all_counted b q =
      subst (λ m. slice_index heights m ≤ b → slice_index counts m ≡ min (limit + 1) (size calls
      weights b m)) place.2 (λ r. sized.counted place.0 b place.1 r) q
      ∙ ap (min (limit + 1)) (sym (total_is calls weights b m))

-- what the program reads of a model that is called
pub called_row : (calls : List (List ℕ)) (order : List ℕ) → IsOrder calls order → (k : ℕ)
    → k < length order → (x y : List ℕ) → x ≡ get_or calls (slice_index order k) x → y ≡ x
    → y ≡ row calls (slice_index order k)
called_row calls order is k h x y e f = f ∙ get_or_read calls (slice_index order k) x
    (is.within k h) e []
