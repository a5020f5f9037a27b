use Rattle.std.specs.Prelude.{◌≡◌, ℕ, ◌<◌, List, [], ◌∷◌, ◌++◌, length, map, slice_set, slice_index_or as get_or, slice_get, Some, All, ◌⊎◌}
use Rattle.cf_model.specs.Renumbering.{width, AllDiffer, IsNew}
use Rattle.cf_model.specs.Diagrams.{Levels, Connection, Node, no_node, all_returns, IsGood}
use Rattle.cf_table.specs.declared.BConn.{BConn}
use Rattle.cf_table.specs.declared.level.PackedConnection.{PackedConnection}
use Rattle.cf_table.specs.declared.level.PackedNode.{PackedNode}
use Rattle.cf_model.specs.Patterns.{Pattern}
use Rattle.cf_table.specs.declared.Operands.{Operands}
use Rattle.cf_table.specs.declared.Product.{Product}
use Rattle.cf_table.specs.declared.ThreeOperands.{ThreeOperands}
use Rattle.cf_table.specs.declared.TripleProduct.{TripleProduct}
use Rattle.cf_table.specs.declared.Gid.{Gid}
use Rattle.cf_table.specs.declared.Classed.{Classed}
use Rattle.cf_table.specs.Groupings.{Groupings, IsProduct, IsReduction, patterns_of, three_patterns_of}
use Rattle.cf_table.specs.Triples.{IsTriple}

-- A grouping as it is kept: the place of its A-callee, its B-connections by their places, and the number of its exits.
pub record Kept : Type 0 where
  pub a_callee : ℕ
  pub connections : List PackedConnection
  pub exits : ℕ

-- an entry of a level's map
abbrev pub kept_of : PackedNode × ℕ → Kept
kept_of e = record { a_callee = e.0.a_callee; connections = e.0.connections.items; exits = e.1 }

-- what two groupings of a level are compared by
abbrev pub ids : Kept → ℕ × List PackedConnection
ids k = (k.a_callee, k.connections)

abbrev pub ids_of : PackedNode → ℕ × List PackedConnection
ids_of n = (n.a_callee, n.connections.items)

-- a B-connection without its level, which is that of its grouping
abbrev pub packed : BConn → PackedConnection
packed b = record { callee = b.«to».at; returns = b.ret.at }

-- the B-connection that two places name
abbrev pub shown_connection : List (List ℕ) → PackedConnection → Connection
shown_connection tuples p = record { callee = p.callee; returns = get_or tuples p.returns [] }

-- the node that places name
abbrev pub node_by : List (List ℕ) → ℕ → List PackedConnection → Node
node_by tuples a ps = record { a_callee = a; connections = map (shown_connection tuples) ps }

-- the node that a kept grouping shows
abbrev pub shown_node : List (List ℕ) → Kept → Node
shown_node tuples k = node_by tuples k.a_callee k.connections

abbrev pub shown_level : List (List ℕ) → List Kept → List Node
shown_level tuples ks = map (shown_node tuples) ks

-- level 0, which isn't kept, and the levels above it
abbrev pub shown_levels : List (List Kept) → List (List ℕ) → Levels
shown_levels levels tuples = (no_node ∷ no_node ∷ []) ∷ map (shown_level tuples) levels

-- the pairs of patterns whose products are kept
abbrev pub shown_products : Levels → List (Operands × Product) → List (Pattern × Pattern)
shown_products t entries = map (λ e. patterns_of t e.0.left e.0.right) entries

-- the triples of patterns whose products are kept
abbrev pub shown_triples : Levels → List (ThreeOperands × TripleProduct) → List (Pattern × Pattern × Pattern)
shown_triples t entries = map (λ e. three_patterns_of t e.0.first e.0.second e.0.third) entries

abbrev pub shown : List (List Kept) → List (List ℕ) → List (Operands × Product) → List (ThreeOperands × TripleProduct) → Groupings
shown levels tuples entries threes = record {
  levels = shown_levels levels tuples;
  tuples = tuples;
  products = shown_products (shown_levels levels tuples) entries;
  triples = shown_triples (shown_levels levels tuples) threes;
}

-- The return tuple of a B-connection is in the list.
abbrev pub IsPackedOver : List (List ℕ) → PackedConnection → Type 0
IsPackedOver tuples p = p.returns < length tuples

-- A grouping that is kept: so are its return tuples, and the number of exits is that of its node.
pub record IsKept (tuples : List (List ℕ)) (k : Kept) : Type 0 where
  pub connections : All (IsPackedOver tuples) k.connections
  pub counted : k.exits ≡ width 0 (all_returns (shown_node tuples k).connections)

-- What a table keeps: the seven levels above level 0, which show a good table, and no return tuple twice.
pub record Holds (levels : List (List Kept)) (tuples : List (List ℕ)) : Type 0 where
  pub seven : length levels ≡ 7
  pub good : IsGood (shown_levels levels tuples)
  pub kept : (l : ℕ) (d : List Kept) → l < length levels → All (IsKept tuples) (get_or levels l d)
  pub differ : AllDiffer tuples

-- One more grouping is kept, at the end of its level.
abbrev pub IsAdded : List (List Kept) → List (List Kept) → ℕ → Kept → Type 0
IsAdded before now l k = now ≡ slice_set before l (get_or before l [] ++ k ∷ [])

-- A grouping stands at place `at` of a level, which is as before, or lacked it and has it as one more, at its end.
abbrev pub IsEntered : List Kept → List Kept → Kept → ℕ → Type 0
IsEntered before now k at =
    ((now ≡ before) × (slice_get (map ids before) at ≡ Some (ids k)))
    ⊎ ((now ≡ before ++ k ∷ []) × IsNew (map ids before) (ids k) × (at ≡ length before))

-- The same of level l, where the other levels stay.
abbrev pub IsEnteredAt : List (List Kept) → List (List Kept) → ℕ → Kept → ℕ → Type 0
IsEnteredAt before now l k at =
    let level = get_or before l [] in
    ((now ≡ before) × (slice_get (map ids level) at ≡ Some (ids k)))
    ⊎ (IsAdded before now l k × IsNew (map ids level) (ids k) × (at ≡ length level))

-- What a table keeps of products: each is one, and no pair of patterns stands twice.
pub record HoldsProducts (t : Levels) (entries : List (Operands × Product)) : Type 0 where
  pub are : (i : ℕ) (e : Operands × Product) → slice_get entries i ≡ Some e → IsProduct t e.0.left e.0.right e.1.head e.1.pairs.items
  pub differ : AllDiffer (shown_products t entries)

-- Each entry of a memo has a property.
abbrev pub Each : {A : Type 0} → (A → Type 0) → List A → Type 0
Each {A} P entries = (i : ℕ) (e : A) → slice_get entries i ≡ Some e → P e

-- The entry is the product of its three groupings.
abbrev pub KeepsTriple : Levels → ThreeOperands × TripleProduct → Type 0
KeepsTriple t e = IsTriple t e.0.first e.0.second e.0.third e.1.head e.1.triples.items

-- What a table keeps of products of three groupings: each is one, and no triple of patterns stands twice.
pub record HoldsTriples (t : Levels) (entries : List (ThreeOperands × TripleProduct)) : Type 0 where
  pub are : Each (KeepsTriple t) entries
  pub differ : AllDiffer (shown_triples t entries)

-- The entry is the reduction of its grouping by its classes.
abbrev pub KeepsReduction : Levels → Classed × Gid → Type 0
KeepsReduction t e = IsReduction t e.0.grouping e.0.classes.items e.1

-- The whole of what a table keeps.
pub record HoldsAll (levels : List (List Kept)) (tuples : List (List ℕ)) (entries : List (Operands × Product)) (threes : List (ThreeOperands × TripleProduct)) (classed : List (Classed × Gid)) : Type 0 where
  pub groupings : Holds levels tuples
  pub products : HoldsProducts (shown_levels levels tuples) entries
  pub triples : HoldsTriples (shown_levels levels tuples) threes
  pub reductions : Each (KeepsReduction (shown_levels levels tuples)) classed
