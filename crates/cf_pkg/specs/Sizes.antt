use Rattle.std.specs.Prelude.{ℕ, ◌==◌, List, ◌∷◌, map, filter, Contains}
use Rattle.cf_model.specs.Renumbering.{AllDiffer}
use Rattle.cf_model.specs.Diagrams.{Levels, Node}
use Rattle.cf_table.specs.declared.Gid.{Gid}
use Rattle.cf_build.specs.Parts.{IsPart}

-- the places of the groupings of a level that are listed
abbrev pub places_at : ℕ → List Gid → List ℕ
places_at level gs = map (λ g. g.at) (filter (λ g. g.level == level) gs)

-- the places of the callees of a node: its A-callee, and the callees of its B-connections
abbrev pub callees : Node → List ℕ
callees n = n.a_callee ∷ map (λ b. b.callee) n.connections

-- Grouping i of a level is one of the heads, or one that a head is made of.
abbrev pub IsReached : Levels → List Gid → ℕ → ℕ → Type 0
IsReached t heads level i = (h : Gid) × Contains heads h × IsPart t h.level h.at level i

-- The list has the places of all such groupings of a level, each once.
pub record ListsReached (t : Levels) (heads : List Gid) (level : ℕ) (places : List ℕ) : Type 0 where
  pub once : AllDiffer places
  pub reached : (i : ℕ) → Contains places i → IsReached t heads level i
  pub complete : (i : ℕ) → IsReached t heads level i → Contains places i
