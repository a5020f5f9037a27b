use Rattle.std.specs.Prelude.{◌≡◌, ◌↔◌, ℕ, zero, suc, ◌+◌, ◌<◌, ◌≤◌, min, max, List, [], ◌∷◌, ◌++◌, Option, Some, None, IsSome, map, length, slice_index, slice_index_or, Contains}
use Rattle.std.specs.List.{slice_get, sum_by}
use Rattle.std.specs.Option.{option_and_then, option_map_or}
use Rattle.cf_order.specs.Orders.{row}

-- A chain of calls from a model lists the place of each call in its model. This is the model at its
-- end, where it is a chain.
abbrev pub end_of : List (List ℕ) → ℕ → List ℕ → Option ℕ
end_of calls m [] = Some m
end_of calls m (i ∷ is) = option_and_then (λ c. end_of calls c is) (slice_get (row calls m) i)

abbrev pub IsChain : List (List ℕ) → ℕ → List ℕ → Type 0
IsChain calls m is = (e : ℕ) × (end_of calls m is ≡ Some e)

-- no chain of calls from the model has more than h calls, and one has h
pub record IsLongest (calls : List (List ℕ)) (m h : ℕ) : Type 0 where
  pub most : (is : List ℕ) → IsChain calls m is → length is ≤ h
  pub reached : (is : List ℕ) × IsChain calls m is × (length is ≡ h)

-- chains that begin with a call of the row, whose places count from j
abbrev pub branches : (ℕ → List (List ℕ)) → ℕ → List ℕ → List (List ℕ)
branches sub j [] = []
branches sub j (c ∷ cs) = map (λ is. j ∷ is) (sub c) ++ branches sub (suc j) cs

-- the chains of at most k calls from a model
unfoldable pub chains : List (List ℕ) → ℕ → ℕ → List (List ℕ)
chains calls zero m = [] ∷ []
chains calls (suc k) m = [] ∷ branches (chains calls k) 0 (row calls m)

-- each chain of at most k calls stands in the list, and nothing else
pub record ListsChains (calls : List (List ℕ)) (k m : ℕ) : Type 0 where
  pub each : (is : List ℕ) → IsChain calls m is → length is ≤ k → Contains (chains calls k m) is
  pub only : (is : List ℕ) → Contains (chains calls k m) is → IsChain calls m is × (length is ≤ k)
  pub once : (i j : ℕ) (is : List ℕ) → slice_get (chains calls k m) i ≡ Some is
      → slice_get (chains calls k m) j ≡ Some is → i ≡ j

-- the weight of the model at the end of a chain
abbrev pub weight_at : List (List ℕ) → List ℕ → ℕ → List ℕ → ℕ
weight_at calls weights m is = option_map_or (slice_index weights) (end_of calls m is) 0

-- the weights at the ends of all chains of at most k calls from a model, added
unfoldable pub total : List (List ℕ) → List ℕ → ℕ → ℕ → ℕ
total calls weights k m = sum_by (weight_at calls weights m) (chains calls k m)

-- one more than the greatest height of those that are called, or 0
abbrev pub tallest : List ℕ → List ℕ → ℕ
tallest heights [] = 0
tallest heights (c ∷ cs) = max (slice_index heights c + 1) (tallest heights cs)

-- Of each model the height is the number of calls of its longest chain.
abbrev pub AreHeights : List (List ℕ) → List ℕ → Type 0
AreHeights calls heights = (m : ℕ) → m < length calls → IsLongest calls m (slice_index heights m)

-- Of each model the count is what all its chains of at most k calls weigh, or one more than the limit where that is more,
-- for each k that its height doesn't exceed.
abbrev pub AreCounts : List (List ℕ) → List ℕ → ℕ → List ℕ → List ℕ → Type 0
AreCounts calls weights limit heights counts =
    (m k : ℕ) → m < length calls → slice_index heights m ≤ k
    → slice_index counts m ≡ min (limit + 1) (total calls weights k m)
