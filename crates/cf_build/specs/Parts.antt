use Rattle.std.specs.Prelude.{◌≡◌, ℕ, zero, suc, ◌<◌, ◌≤◌, List, length, take, ◌⊎◌, slice_index_or as get_or}
use Rattle.cf_model.specs.Diagrams.{Levels, Connection, connection_at, count, node, pattern, IsGood, Extends}
use Rattle.cf_table.specs.declared.BConn.{BConn}
use Rattle.cf_table.specs.Groupings.{Groupings}
use Rattle.cf_tuple.specs.Books.{Lengthens}
use Rattle.cf_build.specs.Joining.{blank, AreThin}

-- Grouping j of level k is grouping i of level l, or one that it is made of: its A-callee, a B-callee, and so on.
abbrev pub IsPart : Levels → ℕ → ℕ → ℕ → ℕ → Type 0
IsPart t zero i k j = (k ≡ 0) × (j ≡ i)
IsPart t (suc l) i k j =
    let n = node t (suc l) i in
    ((k ≡ suc l) × (j ≡ i)) ⊎ (IsPart t l n.a_callee k j ⊎ ((m : ℕ) × (m < length n.connections) × IsPart t l (connection_at n.connections m).callee k j))

-- Each grouping that the table has now and hadn't before is a part of grouping i of level l.
abbrev pub AddsParts : Levels → Levels → ℕ → ℕ → Type 0
AddsParts before now l i = (k j : ℕ) → count before k ≤ j → j < count now k → IsPart now l i k j

-- Each such grouping is a part of the callee of one of the B-connections, which is of level l.
abbrev pub AddsPartsOf : Levels → Levels → ℕ → List BConn → Type 0
AddsPartsOf before now l bs = (k j : ℕ) → count before k ≤ j → j < count now k → (m : ℕ) × (m < length bs) × IsPart now l (get_or bs m blank).«to».at k j

-- The first `done` of the loose B-connections have good ones, and the table has gained only what those are made of.
pub record HasThinned (before now : Groupings) (l : ℕ) (loose : List Connection) (done : ℕ) (bs : List BConn) : Type 0 where
  pub good : IsGood now.levels
  pub extends : Extends before.levels now.levels
  pub longer : Lengthens before.tuples now.tuples
  pub products : now.products ≡ before.products
  pub triples : now.triples ≡ before.triples
  pub thin : AreThin now l (pattern before.levels l) (take done loose) bs
  pub added : AddsPartsOf before.levels now.levels l bs
