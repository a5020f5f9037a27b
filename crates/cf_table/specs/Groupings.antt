use Rattle.std.specs.Prelude.{◌≡◌, ◌≢◌, ℕ, ◌<◌, ◌≤◌, List, [], ◌∷◌, length, map, slice_get, Some, slice_index_or as get_or, ◌⊎◌, All}
use Rattle.std.specs.List.{zip}
use Rattle.cf_model.specs.Renumbering.{width, IsNew, IsCanon}
use Rattle.cf_model.specs.Patterns.{Pattern}
use Rattle.cf_model.specs.Diagrams.{Levels, Connection, Node, no_node, connection_at, count, node, pattern, exits, all_returns, with_node, IsGoodNode}
use Rattle.cf_tuple.specs.declared.Tid.{Tid}
use Rattle.cf_table.specs.declared.Gid.{Gid}
use Rattle.cf_table.specs.declared.BConn.{BConn}

-- A table as contracts see it: the groupings, level by level, the return tuples, and the pairs and the triples of
-- patterns whose product it has kept, in the order in which they came. An id's number is its place.
pub record Groupings : Type 0 where
  pub levels : Levels
  pub tuples : List (List ℕ)
  pub products : List (Pattern × Pattern)
  pub triples : List (Pattern × Pattern × Pattern)

-- the two groupings of level 0, no other grouping, no return tuple and no product
abbrev pub only_base : Groupings
only_base = record { levels = (no_node ∷ no_node ∷ []) ∷ [] ∷ [] ∷ [] ∷ [] ∷ [] ∷ [] ∷ [] ∷ []; tuples = []; products = []; triples = [] }

-- The table has the grouping.
abbrev pub Owns : Groupings → Gid → Type 0
Owns t g = g.at < count t.levels g.level

-- The table has the return tuple.
abbrev pub OwnsTuple : Groupings → Tid → Type 0
OwnsTuple t r = r.at < length t.tuples

-- the return tuple of an id
abbrev pub tuple_of : List (List ℕ) → Tid → List ℕ
tuple_of tuples r = get_or tuples r.at []

-- the node of a grouping
abbrev pub node_of : Groupings → Gid → Node
node_of t g = node t.levels g.level g.at

-- the pattern of a grouping
abbrev pub pattern_of : Groupings → Gid → List ℕ
pattern_of t g = pattern t.levels g.level g.at

-- the pattern of a grouping, with its level
abbrev pub grouping_pattern : Levels → Gid → Pattern
grouping_pattern t g = record { level = g.level; ranks = pattern t g.level g.at }

-- the patterns of two groupings
abbrev pub patterns_of : Levels → Gid → Gid → Pattern × Pattern
patterns_of t g h = (grouping_pattern t g, grouping_pattern t h)

-- the patterns of three groupings
abbrev pub three_patterns_of : Levels → Gid → Gid → Gid → Pattern × Pattern × Pattern
three_patterns_of t f g h = (grouping_pattern t f, grouping_pattern t g, grouping_pattern t h)

-- The two groupings are in the table, at one level, and so is the head, whose pattern and the pairs are the canon of
-- the pairs of their exits.
pub record IsProduct (t : Levels) (g h head : Gid) (pairs : List (ℕ × ℕ)) : Type 0 where
  pub first : g.at < count t g.level
  pub second : h.at < count t h.level
  pub levels : h.level ≡ g.level
  pub level : head.level ≡ g.level
  pub there : head.at < count t head.level
  pub canon : IsCanon (zip (pattern t g.level g.at) (pattern t h.level h.at)) (pattern t head.level head.at) pairs

-- The grouping is in the table, at the level of the first of two patterns, and its pattern and the pairs are the canon of
-- the pairs of their numbers, place by place. It is the same for any groupings with these patterns.
pub record IsProductOf (t : Levels) (k : Pattern × Pattern) (head : Gid) (pairs : List (ℕ × ℕ)) : Type 0 where
  pub level : head.level ≡ k.0.level
  pub there : head.at < count t head.level
  pub canon : IsCanon (zip k.0.ranks k.1.ranks) (pattern t head.level head.at) pairs

-- The two groupings are in the table, at one level, and the second has the first one's pattern with each exit replaced
-- by its class.
pub record IsReduction (t : Levels) (g : Gid) (classes : List ℕ) (h : Gid) : Type 0 where
  pub owned : g.at < count t g.level
  pub level : h.level ≡ g.level
  pub there : h.at < count t h.level
  pub is_it : pattern t h.level h.at ≡ map (λ exit. get_or classes exit 0) (pattern t g.level g.at)

-- how many exits a grouping has
abbrev pub exits_of : Groupings → Gid → ℕ
exits_of t g = exits t.levels g.level g.at

-- the B-connection that a pair of ids names
abbrev pub connection_of : List (List ℕ) → BConn → Connection
connection_of tuples b = record { callee = b.«to».at; returns = tuple_of tuples b.ret }

-- the node that an A-callee and pairs of ids name
abbrev pub node_with : List (List ℕ) → ℕ → List BConn → Node
node_with tuples a bs = record { a_callee = a; connections = map (connection_of tuples) bs }

-- how many exits a node has that pairs of ids name
abbrev pub exits_with : List (List ℕ) → List BConn → ℕ
exits_with tuples bs = width 0 (all_returns (map (connection_of tuples) bs))

-- A B-connection of a node one level above l: its callee is of level l, and the table has its return tuple.
pub record IsConnectionOver (t : Groupings) (l : ℕ) (b : BConn) : Type 0 where
  pub level : b.«to».level ≡ l
  pub tuple : OwnsTuple t b.ret

-- The node with this A-callee and these B-connections may be interned: there is a level above, the ids are the table's,
-- and the node is good.
pub record IsInternable (t : Groupings) (a : Gid) (bs : List BConn) : Type 0 where
  pub level : a.level ≤ 6
  pub connections : All (IsConnectionOver t a.level) bs
  pub good : IsGoodNode (count t.levels a.level) (exits t.levels a.level) (node_with t.tuples a.at bs)

-- No node of a level is this one.
abbrev pub LacksNode : Levels → ℕ → Node → Type 0
LacksNode t l n = (i : ℕ) → i < count t l → node t l i ≢ n

-- The node stands at place `at` of level l of the table now, which is as before, or lacked the node and has it as one
-- more.
pub record IsInterned (before now : Levels) (l : ℕ) (n : Node) (at : ℕ) : Type 0 where
  pub there : at < count now l
  pub is_it : node now l at ≡ n
  pub grown : (now ≡ before) ⊎ ((now ≡ with_node before l n) × LacksNode before l n)

-- Each grouping that was there has its pattern.
abbrev pub KeepsPatterns : Levels → Levels → Type 0
KeepsPatterns before now = (l i : ℕ) → i < count before l → pattern now l i ≡ pattern before l i

-- Middle vertex j is the first whose return tuple has the exit, which stands at place i of that tuple.
pub record IsFirstOf (bs : List Connection) (exit j i : ℕ) : Type 0 where
  pub middle : j < length bs
  pub there : slice_get (connection_at bs j).returns i ≡ Some exit
  pub least : (k : ℕ) → k < j → IsNew (connection_at bs k).returns exit
