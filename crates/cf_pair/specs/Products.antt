use Rattle.std.specs.Prelude.{◌≡◌, ℕ, ◌≤◌, ◌<◌, List, [], ◌∷◌, ◌++◌, map, length, slice_get, Contains, slice_index_or as get_or}
use Rattle.std.specs.List.{zip, range_with_len}
use Rattle.std.specs.Option.{option_map_or}
use Rattle.cf_model.specs.Renumbering.{AllDiffer, distinct}
use Rattle.cf_model.specs.PairSums.{same_pair}
use Rattle.cf_model.specs.Patterns.{Pattern, sub}
use Rattle.cf_model.specs.Diagrams.{Levels, Connection, count, connection_at, pattern, row, IsGood, Extends}
use Rattle.cf_tuple.specs.Books.{Lengthens}
use Rattle.cf_table.specs.declared.Gid.{Gid}
use Rattle.cf_table.specs.declared.BConn.{BConn}
use Rattle.cf_table.specs.Groupings.{Groupings, connection_of, pattern_of}
use Rattle.cf_table.specs.Triples.{zip3}
use Rattle.cf_build.specs.Assembling.{Rowed, ended, IsRow, HasCanon, AddsOnly, row_of, row_labels}
use Rattle.cf_pair.specs.declared.middles.Middles.{Middles}
use Rattle.cf_pair.specs.declared.middles.Middles.TheVariants.{Formula, Kept}
use Rattle.cf_pair.specs.declared.plain.Meeting.{Meeting}
use Rattle.cf_pair.specs.declared.plain.Meeting.TheVariants.{Equal, AfterZero, BeforeZero}
use Rattle.cf_pair.specs.declared.plain.Plain.{Plain}

-- an exit beside exit 0, which comes first
abbrev pub after_zero : ℕ → ℕ × ℕ
after_zero e = (0, e)

-- an exit beside exit 0, which comes second
abbrev pub before_zero : ℕ → ℕ × ℕ
before_zero e = (e, 0)

-- an exit beside itself
abbrev pub twice : ℕ → ℕ × ℕ
twice e = (e, e)

-- the exits that meet at an exit of a product that is one of its two groupings
abbrev pub met : Meeting → ℕ → ℕ × ℕ
met Equal e = twice e
met AfterZero e = after_zero e
met BeforeZero e = before_zero e

-- the pairs of such a product
abbrev pub plain_pairs : Plain → List (ℕ × ℕ)
plain_pairs p = map (met p.meeting) (range_with_len 0 p.exits)

-- the pairs of the product of two patterns: the different pairs of their numbers, in order of first appearance
abbrev pub pattern_pairs : Pattern × Pattern → List (ℕ × ℕ)
pattern_pairs k = distinct same_pair (zip k.0.ranks k.1.ranks)

-- the pairs of a product, where they stand; `products` are the pairs of patterns whose products are kept
abbrev pub pairs_at : List (Pattern × Pattern) → Middles → List (ℕ × ℕ)
pairs_at products (Formula plain) = plain_pairs plain
pairs_at products (Kept place) = option_map_or pattern_pairs (slice_get products place) []

-- The place is one where a product is kept.
abbrev pub IsPlace : List (Pattern × Pattern) → Middles → Type 0
IsPlace products (Formula plain) = Unit {0}
IsPlace products (Kept place) = place < length products

-- the outer exits to which a pair of exits returns, by two return tuples
abbrev pub returned2 : List ℕ → List ℕ → ℕ × ℕ → ℕ × ℕ
returned2 xs ys p = (get_or xs p.0 0, get_or ys p.1 0)

-- the outer exits to which three exits return, by three return tuples
abbrev pub returned3 : List ℕ → List ℕ → List ℕ → ℕ × ℕ × ℕ → ℕ × ℕ × ℕ
returned3 xs ys zs t = (get_or xs t.0 0, get_or ys t.1 0, get_or zs t.2 0)

-- the exits that a B-connection over level l leads to, over the assignments of the second half
abbrev pub connection_row : Groupings → ℕ → BConn → List ℕ
connection_row t l b = row (pattern t.levels l) (connection_of t.tuples b)

-- the pairs of exits that two B-connections lead to, over those assignments
abbrev pub row_pairs : Groupings → BConn → BConn → List (ℕ × ℕ)
row_pairs t b c = zip (connection_row t b.«to».level b) (connection_row t b.«to».level c)

-- A grouping of the table `now` and a list are the product of two groupings of the table `before`.
abbrev pub IsPairsOf : (before now : Groupings) → Gid → Gid → Gid → List (ℕ × ℕ) → Type 0
IsPairsOf before now g h head pairs = HasCanon now.levels head g.level (zip (pattern_of before g) (pattern_of before h)) pairs

-- The same where the pairs stand at a place.
pub record IsPairedAt (before now : Groupings) (g h head : Gid) (middles : Middles) : Type 0 where
  pub there : IsPlace now.products middles
  pub pairs : IsPairsOf before now g h head (pairs_at now.products middles)

-- The table has gained only what the grouping is made of.
abbrev pub AddsPartsOf : (before now : Groupings) → Gid → Type 0
AddsPartsOf before now g = AddsOnly before.levels now.levels (sub g.level (pattern_of now g))

-- the pairs of exits at a pair of middle vertices, over the assignments of the second half
abbrev pub pair_word : (ℕ → List ℕ) → List Connection → List Connection → ℕ × ℕ → List (ℕ × ℕ)
pair_word patterns bs cs m = zip (row patterns (connection_at bs m.0)) (row patterns (connection_at cs m.1))

-- the triples of exits at three middle vertices, over the assignments of the second half
abbrev pub triple_word : (ℕ → List ℕ) → List Connection → List Connection → List Connection → ℕ × ℕ × ℕ → List (ℕ × ℕ × ℕ)
triple_word patterns bs cs ds m = zip3 (row patterns (connection_at bs m.0)) (row patterns (connection_at cs m.1)) (row patterns (connection_at ds m.2))

-- A row over level l has these labels over the assignments of the second half, and no label twice.
pub record Lists {A : Type 0} (t : Levels) (l : ℕ) (all : List A) (r : Gid × List A) : Type 0 where
  pub is_row : IsRow t l r
  pub labels : row_labels (pattern t l) (row_of r) ≡ all
  pub differ : AllDiffer r.1

-- One more row came, which has what is asked of it.
pub record GainsRow {A : Type 0} (before now : Rowed A) (IsAsked : Gid × List A → Type 0) : Type 0 where
  pub row : Gid × List A
  pub is_last : now ≡ ended (before.rows ++ row ∷ [])
  pub is_asked : IsAsked row

-- The row is one of the grouping and lists the labels.
pub record IsReturned {A : Type 0} (t : Levels) («to» : Gid) (l : ℕ) (all : List A) (r : Gid × List A) : Type 0 where
  pub head : r.0 ≡ «to»
  pub lists : Lists t l all r

-- The row lists the labels, and the table has gained only what its grouping is made of.
pub record IsAdded {A : Type 0} (before now : Levels) (l : ℕ) (all : List A) (r : Gid × List A) : Type 0 where
  pub lists : Lists now l all r
  pub added : AddsOnly before now (sub l (pattern now l r.0.at))

-- There are `count` rows, and each has the labels that are wanted at its place.
pub record ListEach {A : Type 0} (t : Levels) (l : ℕ) (wanted : ℕ → List A) (count : ℕ) (rows : List (Gid × List A)) : Type 0 where
  pub long : length rows ≡ count
  pub each : (i : ℕ) (d : Gid × List A) → i < count → Lists t l (wanted i) (get_or rows i d)

-- Each grouping that the table has now and hadn't before has a pattern that one of the rows' groupings is made of.
abbrev pub AddsOnlyIn : {A : Type 0} → Levels → Levels → ℕ → List (Gid × List A) → Type 0
AddsOnlyIn before now l rows =
    (k j : ℕ) → count before k ≤ j → j < count now k
    → (m : ℕ) × (m < length rows) × Contains (sub l (pattern now l (get_or (map row_of rows) m (0, [])).0)) (record { level = k; ranks = pattern now k j })

-- The first `done` rows list what is wanted, and the table has gained only what they are made of.
pub record HasListed {A : Type 0} (before now : Groupings) (l : ℕ) (wanted : ℕ → List A) (done : ℕ) (rows : List (Gid × List A)) : Type 0 where
  pub good : IsGood now.levels
  pub extends : Extends before.levels now.levels
  pub longer : Lengthens before.tuples now.tuples
  pub listed : ListEach now.levels l wanted done rows
  pub added : AddsOnlyIn before.levels now.levels l rows
