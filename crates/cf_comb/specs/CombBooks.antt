use Rattle.std.specs.Prelude.{◌≡◌, ℕ, ◌<◌, ◌^◌, List, [], ◌∷◌, length, All, IfOk, slice_index_or as get_or}
use Rattle.std.specs.declared.result.Result.{Result}
use Rattle.std.proofs.Common.{ap}
use Rattle.cf_model.specs.Renumbering.{AllDiffer}
use Rattle.cf_model.specs.PairSums.{PairSum, IsPairSum}
use Rattle.cf_tuple.specs.Books.{IsInterned}
use Rattle.cf_comb.specs.declared.CombId.{CombId}

-- A book has no sum twice, and each is a sum of exit pairs.
pub record IsBook (sums : List PairSum) : Type 0 where
  pub once : AllDiffer sums
  pub each : All IsPairSum sums

-- The book has the id.
abbrev pub OwnsSum : List PairSum → CombId → Type 0
OwnsSum book c = c.at < length book

-- the sum of an id
abbrev pub sum_of : List PairSum → CombId → PairSum
sum_of book c = get_or book c.at []

-- Where the answer is an id, it is that of the sum: the book has it once, and has gained at most this sum.
abbrev pub Interns : {E : Type 0} → (before now : List PairSum) → Result CombId E → PairSum → Type 0
Interns before now result sum = IfOk result (λ c. IsInterned before now sum c.at)

-- The exits of each pair of the sum are below e and f.
abbrev pub PairsBelow : ℕ → ℕ → PairSum → Type 0
PairsBelow e f sum = All (λ t. (t.0.0 < e) × (t.0.1 < f)) sum

-- An id whose number fits a word.
abbrev pub IsId : CombId → Type 0
IsId c = c.at < 2 ^ 64

-- the key of an id: its number, then two zeros
abbrev pub id_key : CombId → List ℕ
id_key c = c.at ∷ 0 ∷ 0 ∷ []

abbrev id_from : List ℕ → CombId
id_from k = record { at = get_or k 0 0 }

-- Two ids with one key are equal.
pub id_keys_differ : (x y : CombId) → IsId x → IsId y → id_key x ≡ id_key y → x ≡ y
id_keys_differ x y hx hy e = ap id_from e
