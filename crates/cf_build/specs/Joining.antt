use Rattle.std.specs.Prelude.{◌≡◌, ℕ, ◌<◌, ◌≤◌, ◌-◌, List, [], ◌∷◌, map, length, take, drop, flat_map, slice_index_or as get_or}
use Rattle.cf_model.specs.Renumbering.{width, Grows, IsCanon}
use Rattle.cf_model.specs.Diagrams.{Node, Connection, connection_at, count, exits, pattern, row, all_returns, IsGoodConnection}
use Rattle.cf_table.specs.declared.Gid.{Gid}
use Rattle.cf_table.specs.declared.BConn.{BConn}
use Rattle.cf_table.specs.Groupings.{Groupings, connection_of}
use Rattle.cf_build.specs.declared.rows.Row.{Row}
use Rattle.cf_build.specs.Assembling.{classed, Rowed}

-- A B-connection that need not be good, since an entry may stand twice in its return tuple.
pub record IsLooseConnection (c : ℕ) (e : ℕ → ℕ) (b : Connection) : Type 0 where
  pub callee_exists : b.callee < c
  pub entries : length b.returns ≡ e b.callee

-- A node that need not be good, since its return tuples may have entries twice and its B-connections may be equal. It
-- spells a list all the same.
pub record IsLooseNode (c : ℕ) (e : ℕ → ℕ) (n : Node) : Type 0 where
  pub callee_exists : n.a_callee < c
  pub middles : length n.connections ≡ e n.a_callee
  pub loose_connections : (j : ℕ) → j < length n.connections → IsLooseConnection c e (connection_at n.connections j)
  pub first_reach : Grows 0 (all_returns n.connections)

-- a callee with what its exits return to
abbrev pub returning : ℕ → List ℕ → Connection
returning callee exits = record { callee = callee; returns = exits }

-- the row whose numbers are all 0
abbrev pub blank_row : Row
blank_row = record { callee = record { level = 0; at = 0 }; start = 0; end = 0 }

-- the labels of a row, out of those of all rows
abbrev pub labels_in : {A : Type 0} → List A → Row → List A
labels_in labels r = take (r.end - r.start) (drop r.start labels)

-- The labels of the rows stand one row after another, from one place of the list to another.
abbrev pub AreInTurn : ℕ → List Row → ℕ → Type 0
AreInTurn start [] end = start ≡ end
AreInTurn start (r ∷ rows) end = (r.start ≡ start) × (r.start ≤ r.end) × AreInTurn r.end rows end

-- a row whose labels are exits, as a B-connection
abbrev pub row_connection : List ℕ → Row → Connection
row_connection labels r = returning r.callee.at (labels_in labels r)

-- an A-callee with such rows, as a node
abbrev pub loose_node : ℕ → List Row → List ℕ → Node
loose_node a rows labels = record { a_callee = a; connections = map (row_connection labels) rows }

-- a B-connection with each exit replaced by its class
abbrev pub classed_connection : List ℕ → Connection → Connection
classed_connection classes b = returning b.callee (classed classes b.returns)

-- The ids name a good B-connection over level l that has the given row, and that gives out the numbers that the
-- labels give out.
pub record IsThin (t : Groupings) (l : ℕ) (ranks labels : List ℕ) (b : BConn) : Type 0 where
  pub level : b.«to».level ≡ l
  pub listed : b.ret.at < length t.tuples
  pub good : IsGoodConnection (count t.levels l) (exits t.levels l) (connection_of t.tuples b)
  pub row_is : row (pattern t.levels l) (connection_of t.tuples b) ≡ ranks
  pub carries : (m : ℕ) → Grows m labels → Grows m (connection_of t.tuples b).returns × (width m (connection_of t.tuples b).returns ≡ width m labels)

-- the B-connection whose ids are all 0
abbrev pub blank : BConn
blank = record { «to» = record { level = 0; at = 0 }; ret = record { at = 0 } }

-- Each of the loose B-connections has such a good one at its place.
pub record AreThin (t : Groupings) (l : ℕ) (patterns : ℕ → List ℕ) (loose : List Connection) (bs : List BConn) : Type 0 where
  pub long : length bs ≡ length loose
  pub each : (j : ℕ) → j < length loose → IsThin t l (row patterns (connection_at loose j)) (connection_at loose j).returns (get_or bs j blank)

-- a row's grouping, and its labels out of those of all rows
abbrev pub labelled : {A : Type 0} → List A → Row → Gid × List A
labelled labels r = (r.callee, labels_in labels r)

-- rows by their places, those of the labels from `start` on being of a row that isn't ended yet
abbrev pub rowed : {A : Type 0} → List Row → List A → ℕ → Rowed A
rowed rows labels start = record { rows = map (labelled labels) rows; begun = drop start labels }

-- The labels of the rows stand in turn, up to `start`.
pub record ArePlaces (rows : List Row) (start count : ℕ) : Type 0 where
  pub in_turn : AreInTurn 0 rows start
  pub within : start ≤ count

-- a row's grouping, and how many labels it has
abbrev pub frame : {A : Type 0} → Gid × List A → Gid × ℕ
frame r = (r.0, length r.1)

-- the same of a row whose labels stand in a list
abbrev pub row_frame : Row → Gid × ℕ
row_frame r = (r.callee, r.end - r.start)

-- The labels of the given rows stand in turn in one list, at the places of the rows.
pub record ArePlaced {A : Type 0} (given : List (Gid × List A)) (rows : List Row) (labels : List A) : Type 0 where
  pub all : flat_map (λ r. r.1) given ≡ labels
  pub frames : map row_frame rows ≡ map frame given
  pub in_turn : AreInTurn 0 rows (length labels)

-- The rows have the groupings of the given rows, and the ranks of their labels, which stand in turn in one list. The
-- ranks and the different labels are the canon of all labels, row after row.
pub record AreNumbered {A : Type 0} (given : List (Gid × List A)) (rows : List Row) (ranks : List ℕ) (different : List A) : Type 0 where
  pub canon : IsCanon (flat_map (λ r. r.1) given) ranks different
  pub frames : map row_frame rows ≡ map frame given
  pub in_turn : AreInTurn 0 rows (length ranks)
