use Rattle.std.specs.Prelude.{◌≡◌, ◌<◌, ◌-◌, ℕ, List, Some}
use Rattle.std.specs.List.{slice_get}
use Rattle.std.specs.declared.vec.Vec.{Vec}
use Rattle.cf_model.specs.PairSums.{PairSum}
use Rattle.cf_model.specs.Diagrams.{Levels, count, pattern}
use Rattle.cf_table.specs.declared.Gid.{Gid}
use Rattle.cf_table.specs.Kept.{Each}
use Rattle.cf_build.specs.Assembling.{listed}
use Rattle.cf_comb.specs.declared.CombId.{CombId}
use Rattle.cf_matmul.specs.declared.memo.Factors.{Factors}
use Rattle.cf_matmul.specs.declared.memo.Summed.{Summed}
use Rattle.cf_matmul.specs.Symbolic.{exit_sums, HasSums}

-- a grouping with its sums, as a pair
abbrev pub summed_pair : Summed → Gid × List CombId
summed_pair s = (s.head, s.sums.items)

-- The pair has the sums of two groupings g and h of an earlier table.
abbrev pub IsProduct : (before now : Levels) → List PairSum → Gid → Gid → Gid × List CombId → Type 0
IsProduct before now book g h r =
    HasSums now book g.level (exit_sums (g.level - 1) (pattern before g.level g.at) (pattern before h.level h.at)) r

-- An entry of a memo has the sums of its factors, in one table and one book.
pub record KeepsProduct (t : Levels) (book : List PairSum) (e : Factors × Summed) : Type 0 where
  pub left_owned : e.0.left.at < count t e.0.left.level
  pub right_owned : e.0.right.at < count t e.0.right.level
  pub is_it : IsProduct t t book e.0.left e.0.right (summed_pair e.1)

-- All entries of a memo have the sums of their factors.
abbrev pub AreProducts : Levels → List PairSum → List (Factors × Summed) → Type 0
AreProducts t book entries = Each (KeepsProduct t book) entries

-- The entry at a place has the factors.
pub record HasKey (entries : List (Factors × Summed)) (factors : Factors) (place : ℕ) : Type 0 where
  pub entry : Factors × Summed
  pub there : slice_get entries place ≡ Some entry
  pub is_it : entry.0 ≡ factors

-- The entry at a place has the value.
pub record HasValue (entries : List (Factors × Summed)) (value : Summed) (place : ℕ) : Type 0 where
  pub entry : Factors × Summed
  pub there : slice_get entries place ≡ Some entry
  pub is_it : entry.1 ≡ value

-- The entry at a place has the grouping and the ids.
pub record HasCopy {Z : Type 0} (entries : List (Factors × Summed)) (copy : Gid × Vec CombId Z) (place : ℕ) : Type 0 where
  pub entry : Factors × Summed
  pub there : slice_get entries place ≡ Some entry
  pub is_it : summed_pair entry.1 ≡ listed copy

-- The entry at a place has the sums of groupings g and h of an earlier table.
pub record IsProductAt (before now : Levels) (book : List PairSum) (entries : List (Factors × Summed)) (g h : Gid) (place : ℕ) : Type 0 where
  pub entry : Factors × Summed
  pub there : slice_get entries place ≡ Some entry
  pub is_it : IsProduct before now book g h (summed_pair entry.1)
