use Rattle.std.specs.Prelude.{◌≡◌, ℕ, ◌<◌, ◌+◌, List, length, slice_index_or as get_or}
use Rattle.cf_model.specs.PairSums.{PairTerm, PairSum, IsPairBefore}
use Rattle.cf_comb.specs.declared.merging.Next.{Next}
use Rattle.cf_comb.specs.declared.merging.Next.TheVariants.{First, Second, Both}

-- the term whose numbers are 0, which never comes
abbrev pub no_term : PairTerm
no_term = ((0, 0), 0)

-- Where the first sum has been read up to i and the second one up to j, the term of the first comes next, since its pair
-- comes before the other one or there is no other one; or that of the second; or both, since their pairs are equal.
abbrev pub IsNext : (a b : PairSum) → (i j : ℕ) → Next → Type 0
IsNext a b i j First = (i < length a) × (j < length b → IsPairBefore (get_or a i no_term).0 (get_or b j no_term).0)
IsNext a b i j Second = (j < length b) × (i < length a → IsPairBefore (get_or b j no_term).0 (get_or a i no_term).0)
IsNext a b i j Both = (i < length a) × (j < length b) × ((get_or a i no_term).0 ≡ (get_or b j no_term).0)

-- No term has a pair that comes before that of the term just before it. Equal pairs may follow each other.
abbrev pub IsInOrder : List PairTerm → Type 0
IsInOrder terms = (k : ℕ) → k + 1 < length terms → IsPairBefore (get_or terms (k + 1) no_term).0 (get_or terms k no_term).0 → ⊥
