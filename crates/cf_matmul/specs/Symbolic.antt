use Rattle.std.specs.Prelude.{◌≡◌, ℕ, suc, ◌<◌, ◌+◌, ◌^◌, ◌-◌, Bool, true, false, List, [], ◌∷◌, map, length, All, slice_index_or as get_or}
use Rattle.std.specs.List.{zip}
use Rattle.cf_model.specs.Assignments.{number_of, row_of as row_index, column_of as column_index, all_bits}
use Rattle.cf_model.specs.Renumbering.{IsCanon}
use Rattle.cf_model.specs.PairSums.{PairTerm, PairSum, IsPairSum, total, added, scaled, relabelled}
use Rattle.cf_model.specs.Diagrams.{Levels, Connection, connection_at, count, pattern, IsGood, Extends}
use Rattle.cf_tuple.specs.Books.{Lengthens}
use Rattle.cf_table.specs.declared.Gid.{Gid}
use Rattle.cf_table.specs.Groupings.{Groupings, node_of}
use Rattle.cf_build.specs.Assembling.{IsRow, row_labels}
use Rattle.cf_comb.specs.ExitSums.{exit_sum, composed, inner_sum}
use Rattle.cf_comb.specs.declared.CombId.{CombId}
use Rattle.cf_comb.specs.CombBooks.{OwnsSum, sum_of}

-- the exit that a pattern has at an assignment
abbrev pub exit_in : List ℕ → List Bool → ℕ
exit_in ranks bits = get_or ranks (number_of bits) 0

-- For two functions from assignments of level m + 1 to exits, the sums of exit pairs at all rows and columns, in order of
-- the assignments that these weave.
abbrev pub sum_list : ℕ → (List Bool → ℕ) → (List Bool → ℕ) → List PairSum
sum_list m g h = map (λ bits. exit_sum (2 ^ m) g h (row_index bits) (column_index bits)) (all_bits (2 ^ suc m))

-- the same for two patterns of level m + 1
abbrev pub exit_sums : ℕ → List ℕ → List ℕ → List PairSum
exit_sums m p q = sum_list m (exit_in p) (exit_in q)

-- the sums at all second halves, where the first half has the sum of pairs of middle vertices
abbrev pub half_sums : ℕ → (ℕ → List Bool → ℕ) → (ℕ → List Bool → ℕ) → (ℕ → List ℕ) → (ℕ → List ℕ) → PairSum → List PairSum
half_sums m gb hb gr hr middles = map (λ y. composed (inner_sum (2 ^ m) gb hb gr hr (row_index y) (column_index y)) middles) (all_bits (2 ^ suc m))

-- what one pair of middle vertices adds to them
abbrev pub term_sums : ℕ → (ℕ → List Bool → ℕ) → (ℕ → List Bool → ℕ) → (ℕ → List ℕ) → (ℕ → List ℕ) → PairTerm → List PairSum
term_sums m gb hb gr hr t = map (λ y. scaled t.1 (inner_sum (2 ^ m) gb hb gr hr (row_index y) (column_index y) t.0)) (all_bits (2 ^ suc m))

-- the exits of the callee at a middle vertex, and its return tuple
abbrev pub callee_exit : (ℕ → List ℕ) → List Connection → ℕ → List Bool → ℕ
callee_exit patterns bs j = exit_in (patterns (connection_at bs j).callee)

abbrev pub returns_at : List Connection → ℕ → List ℕ
returns_at bs j = (connection_at bs j).returns

-- the same two words for connections
abbrev pub node_sums : ℕ → (ℕ → List ℕ) → List Connection → List Connection → PairSum → List PairSum
node_sums m patterns bs cs middles = half_sums m (callee_exit patterns bs) (callee_exit patterns cs) (returns_at bs) (returns_at cs) middles

-- the sums of ids
abbrev pub sums_of : List PairSum → List CombId → List PairSum
sums_of book ids = map (sum_of book) ids

-- The grouping is in the table, at level l, the ids are the book's, and pattern and sums are the canon of a list of sums.
pub record HasSums (t : Levels) (book : List PairSum) (l : ℕ) (all : List PairSum) (r : Gid × List CombId) : Type 0 where
  pub level : r.0.level ≡ l
  pub there : r.0.at < count t r.0.level
  pub owned : All (OwnsSum book) r.1
  pub canon : IsCanon all (pattern t r.0.level r.0.at) (sums_of book r.1)

-- A row over level l: a grouping with ids of the book, whose sums over the assignments are these, each of this total.
pub record HasSumRow (t : Levels) (book : List PairSum) (l : ℕ) (all : List PairSum) (each : ℕ) (r : Gid × List CombId) : Type 0 where
  pub is_row : IsRow t l r
  pub owned : All (OwnsSum book) r.1
  pub spells : row_labels (pattern t l) (r.0.at, sums_of book r.1) ≡ all
  pub totals : All (λ s. total s ≡ each) (sums_of book r.1)

-- A sum of pairs of exits of two groupings with so many exits, of a total.
pub record IsSumIn (e f n : ℕ) (sum : PairSum) : Type 0 where
  pub is_sum : IsPairSum sum
  pub within : All (λ t. (t.0.0 < e) × (t.0.1 < f)) sum
  pub total_is : total sum ≡ n

-- the sums at all second halves that one pair of B-connections adds, so often
abbrev pub connection_sums : ℕ → (ℕ → List ℕ) → Connection → Connection → ℕ → List PairSum
connection_sums m patterns b c n = map (λ y. scaled n (relabelled b.returns c.returns (exit_sum (2 ^ m) (exit_in (patterns b.callee)) (exit_in (patterns c.callee)) (row_index y) (column_index y)))) (all_bits (2 ^ suc m))

-- a sum relabelled, and then scaled
abbrev pub carried : ℕ → List ℕ → List ℕ → PairSum → PairSum
carried n ps qs sum = scaled n (relabelled ps qs sum)

-- the sum of two sums, each at a place of a list
abbrev pub added_at : List PairSum → List PairSum → ℕ × ℕ → PairSum
added_at xs ys p = added (get_or xs p.0 []) (get_or ys p.1 [])

-- There are `count` rows, and each has the sums that are wanted at its place.
pub record HaveSumRows (t : Levels) (book : List PairSum) (l : ℕ) (wanted : ℕ → List PairSum) (each count : ℕ) (rows : List (Gid × List CombId)) : Type 0 where
  pub long : length rows ≡ count
  pub rows_are : (i : ℕ) (d : Gid × List CombId) → i < count → HasSumRow t book l (wanted i) each (get_or rows i d)

-- table and book have only grown
pub record HasGrown (before now : Groupings) (sums_before sums_now : List PairSum) : Type 0 where
  pub good : IsGood now.levels
  pub extends : Extends before.levels now.levels
  pub longer : Lengthens before.tuples now.tuples
  pub book : Lengthens sums_before sums_now

-- the sum of a pair of sums
abbrev pub sum2 : PairSum × PairSum → PairSum
sum2 p = added p.0 p.1

-- The row r is the sum of the rows x and y: whatever sums they have, it has theirs added.
abbrev pub JoinsRows : Levels → List PairSum → Levels → List PairSum → Gid × List CombId → Gid × List CombId → Gid × List CombId → Type 0
JoinsRows t book u now x y r =
    (l each more : ℕ) (all other : List PairSum) → HasSumRow t book l all each x → HasSumRow t book l other more y
    → HasSumRow u now l (map sum2 (zip all other)) (each + more) r

-- the row of a pair of middle vertices of g and h that comes so often
abbrev pub term_row_sums : Groupings → Gid → Gid → PairTerm → List PairSum
term_row_sums t g h term =
    connection_sums (g.level - 2) (pattern t.levels (suc (g.level - 2))) (connection_at (node_of t g).connections term.0.0) (connection_at (node_of t h).connections term.0.1) term.1

-- the row of a sum of pairs of middle vertices of g and h
abbrev pub row_sums : Groupings → Gid → Gid → PairSum → List PairSum
row_sums t g h middles = node_sums (g.level - 2) (pattern t.levels (suc (g.level - 2))) (node_of t g).connections (node_of t h).connections middles

-- What a loop has made so far: ids of the book, which has only grown, with these sums.
pub record HasMade (before now : List PairSum) (ids : List CombId) (sums : List PairSum) : Type 0 where
  pub kept : Lengthens before now
  pub owned : All (OwnsSum now) ids
  pub sums_are : sums_of now ids ≡ sums

-- at level 1 the two sums of a row
abbrev pub two_sums : List ℕ → List ℕ → Bool → List PairSum
two_sums p q row = exit_sum 1 (exit_in p) (exit_in q) (row ∷ []) (false ∷ []) ∷ exit_sum 1 (exit_in p) (exit_in q) (row ∷ []) (true ∷ []) ∷ []
