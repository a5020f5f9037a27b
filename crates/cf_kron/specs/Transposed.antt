use Rattle.std.specs.Prelude.{◌≡◌, ◌<◌, ◌^◌, ℕ, ℤ, pos, Bool, List, map, Some, slice_index_or as get_or}
use Rattle.std.specs.List.{slice_get}
use Rattle.cf_model.specs.Assignments.{number_of, weave, row_of, column_of, all_bits}
use Rattle.cf_model.specs.Diagrams.{Levels, count, pattern, IsGood, Extends}
use Rattle.cf_tuple.specs.Books.{Lengthens}
use Rattle.cf_table.specs.declared.Gid.{Gid}
use Rattle.cf_table.specs.Groupings.{Groupings}
use Rattle.cf_table.specs.Kept.{Each}
use Rattle.cf_build.specs.Assembling.{HasCanon}
use Rattle.cf_pair.specs.Products.{ListEach}
use Rattle.cf_kron.specs.declared.memo.Transposed.{Transposed}

-- an assignment with its row and its column exchanged
abbrev pub turned : List Bool → List Bool
turned bits = weave (column_of bits) (row_of bits)

-- the exit of a pattern at an assignment
abbrev pub exit_in : List ℕ → List Bool → ℕ
exit_in ranks bits = get_or ranks (number_of bits) 0

-- the exits of a pattern with rows and columns exchanged, one assignment after another
abbrev pub turned_exits : ℕ → List ℕ → List ℕ
turned_exits level ranks = map (λ bits. exit_in ranks (turned bits)) (all_bits (2 ^ level))

-- the outer exits to which exits return, by a return tuple
abbrev pub returned_exits : List ℕ → List ℕ → List ℕ
returned_exits returns exits = map (λ exit. get_or returns exit 0) exits

-- the values of exits, by the list of all exits' values
abbrev pub values_at : List ℤ → List ℕ → List ℤ
values_at values exits = map (λ exit. get_or values exit (pos 0)) exits

-- The head and the exits are the canon of the exits that grouping g of an earlier table has with rows and columns
-- exchanged.
abbrev pub IsTransposed : (before now : Levels) → Gid → Gid → List ℕ → Type 0
IsTransposed before now g head exits = HasCanon now head g.level (turned_exits g.level (pattern before g.level g.at)) exits

-- An entry of a memo is what its grouping comes to, in one table.
pub record KeepsTransposition (t : Levels) (e : Gid × Transposed) : Type 0 where
  pub owned : e.0.at < count t e.0.level
  pub is_it : IsTransposed t t e.0 e.1.head e.1.exits.items

-- All entries of a memo are what their groupings come to.
abbrev pub AreTranspositions : Levels → List (Gid × Transposed) → Type 0
AreTranspositions t entries = Each (KeepsTransposition t) entries

-- The entry at a place has the grouping as its key.
pub record HasKey (entries : List (Gid × Transposed)) (g : Gid) (place : ℕ) : Type 0 where
  pub entry : Gid × Transposed
  pub there : slice_get entries place ≡ Some entry
  pub is_it : entry.0 ≡ g

-- The entry at a place has the value.
pub record HasValue (entries : List (Gid × Transposed)) (value : Transposed) (place : ℕ) : Type 0 where
  pub entry : Gid × Transposed
  pub there : slice_get entries place ≡ Some entry
  pub is_it : entry.1 ≡ value

-- The entry at a place is what grouping g of an earlier table comes to.
pub record IsTransposedAt (before now : Levels) (entries : List (Gid × Transposed)) (g : Gid) (place : ℕ) : Type 0 where
  pub entry : Gid × Transposed
  pub there : slice_get entries place ≡ Some entry
  pub is_it : IsTransposed before now g entry.1.head entry.1.exits.items

-- The table has grown, and the first `done` rows list what is wanted.
pub record HasRows (before now : Groupings) (l : ℕ) (wanted : ℕ → List ℕ) (done : ℕ) (rows : List (Gid × List ℕ)) : Type 0 where
  pub good : IsGood now.levels
  pub extends : Extends before.levels now.levels
  pub longer : Lengthens before.tuples now.tuples
  pub listed : ListEach now.levels l wanted done rows
