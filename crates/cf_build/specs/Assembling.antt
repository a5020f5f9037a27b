use Rattle.std.specs.Prelude.{◌≡◌, ℕ, ◌≤◌, ◌<◌, List, [], map, length, slice_get, flat_map, Contains, slice_index_or as get_or}
use Rattle.std.specs.Option.{option_to_list}
use Rattle.std.specs.declared.vec.Vec.{Vec}
use Rattle.cf_model.specs.Renumbering.{IsCanon}
use Rattle.cf_model.specs.Patterns.{Pattern}
use Rattle.cf_model.specs.Diagrams.{Levels, count, exits, pattern}
use Rattle.cf_table.specs.declared.Gid.{Gid}

-- A row over level l of a table: a grouping of that level, and a label for each of its exits.
pub record IsRow {A : Type 0} (t : Levels) (l : ℕ) (r : Gid × List A) : Type 0 where
  pub level : r.0.level ≡ l
  pub owned : r.0.at < count t l
  pub labelled : length r.1 ≡ exits t l r.0.at

-- a row as its grouping's place and its labels
abbrev pub row_of : {A : Type 0} → Gid × List A → ℕ × List A
row_of r = (r.0.at, r.1)

-- a row with the list that a vector holds
abbrev pub listed : {A Z : Type 0} → Gid × Vec A Z → Gid × List A
listed r = (r.0, r.1.items)

-- Rows to be assembled, and the labels of the row that isn't ended yet.
pub record Rowed (A : Type 0) : Type 0 where
  pub rows : List (Gid × List A)
  pub begun : List A

-- rows that are all ended
abbrev pub ended : {A : Type 0} → List (Gid × List A) → Rowed A
ended rows = record { rows = rows; begun = [] }

-- the label of exit i, as a list of one
abbrev pub label_at : {A : Type 0} → List A → ℕ → List A
label_at labels i = option_to_list (slice_get labels i)

-- The labels of a row over the assignments of the second half: at each the label of the exit that its grouping has
-- there. `patterns` has the patterns of the row's level.
abbrev pub row_labels : {A : Type 0} → (ℕ → List ℕ) → ℕ × List A → List A
row_labels patterns r = flat_map (label_at r.1) (patterns r.0)

-- The labels over all assignments of the level above: where grouping `a` has exit j at the first half, those of row j
-- over the second half.
abbrev pub labels_over : {A : Type 0} → (ℕ → List ℕ) → ℕ → List (ℕ × List A) → List A
labels_over patterns a rows = flat_map (λ j. row_labels patterns (get_or rows j (0, []))) (patterns a)

-- each exit of a list replaced by its class
abbrev pub classed : List ℕ → List ℕ → List ℕ
classed classes exits = map (λ exit. get_or classes exit 0) exits

-- The grouping is in the table, at level l, and has the pattern.
pub record Stands (t : Levels) (g : Gid) (l : ℕ) (ranks : List ℕ) : Type 0 where
  pub level : g.level ≡ l
  pub there : g.at < count t g.level
  pub is_it : pattern t g.level g.at ≡ ranks

-- The grouping is in the table, at level l, and its pattern and the labels are the canon of the list `all`.
pub record HasCanon {A : Type 0} (t : Levels) (g : Gid) (l : ℕ) (all labels : List A) : Type 0 where
  pub level : g.level ≡ l
  pub there : g.at < count t g.level
  pub canon : IsCanon all (pattern t g.level g.at) labels

-- Each grouping that the table has now and hadn't before has a pattern of the list.
abbrev pub AddsOnly : Levels → Levels → List Pattern → Type 0
AddsOnly before now patterns = (l i : ℕ) → count before l ≤ i → i < count now l → Contains patterns (record { level = l; ranks = pattern now l i })
