use Rattle.std.specs.Prelude.{◌≡◌, ℕ, ◌<◌, List, [], ◌∷◌, ◌++◌, Bool, ◌==◌, ◌&&◌, All, map, length, slice_get}
use Rattle.std.specs.Option.{option_map_or}
use Rattle.cf_model.specs.Renumbering.{distinct, IsNew}
use Rattle.cf_model.specs.Patterns.{Pattern}
use Rattle.cf_table.specs.declared.Gid.{Gid}
use Rattle.cf_table.specs.declared.BConn.{BConn}
use Rattle.cf_table.specs.Groupings.{Groupings, pattern_of, three_patterns_of}
use Rattle.cf_table.specs.Triples.{zip3}
use Rattle.cf_build.specs.Assembling.{HasCanon}
use Rattle.cf_pair.specs.Products.{pairs_at, IsPlace, connection_row}
use Rattle.cf_pair.specs.declared.middle_triples.Place.{Place}
use Rattle.cf_pair.specs.declared.middle_triples.Place.TheVariants.{First, Second, Third}
use Rattle.cf_pair.specs.declared.middle_triples.TripleMiddles.{TripleMiddles}
use Rattle.cf_pair.specs.declared.middle_triples.TripleMiddles.TheVariants.{DontCare, Fork, Beside, Kept}

-- the one of three at a place
abbrev pub at_place : {A : Type 0} → Place → A → A → A → A
at_place First x y z = x
at_place Second x y z = y
at_place Third x y z = z

-- a pair of exits with exit 0 at a place among them
abbrev pub zero_put : Place → ℕ × ℕ → ℕ × ℕ × ℕ
zero_put First p = (0, p.0, p.1)
zero_put Second p = (p.0, 0, p.1)
zero_put Third p = (p.0, p.1, 0)

-- whether two triples are equal
abbrev pub same_triple : ℕ × ℕ × ℕ → ℕ × ℕ × ℕ → Bool
same_triple s t = s.0 == t.0 && (s.1 == t.1 && s.2 == t.2)

-- the triples of the product of three patterns: the different triples of their numbers, in order of first appearance
abbrev pub pattern_triples : Pattern × Pattern × Pattern → List (ℕ × ℕ × ℕ)
pattern_triples k = distinct same_triple (zip3 k.0.ranks k.1.ranks k.2.ranks)

-- the triples of a product, where they stand
abbrev pub triples_at : Groupings → TripleMiddles → List (ℕ × ℕ × ℕ)
triples_at t DontCare = (0, 0, 0) ∷ []
triples_at t (Fork x y z) = (0, 0, 0) ∷ (x, y, z) ∷ []
triples_at t (Beside place pairs) = map (zero_put place) (pairs_at t.products pairs)
triples_at t (Kept place) = option_map_or pattern_triples (slice_get t.triples place) []

-- The place is one where a product is kept.
abbrev pub IsTriplePlace : Groupings → TripleMiddles → Type 0
IsTriplePlace t DontCare = Unit {0}
IsTriplePlace t (Fork x y z) = Unit {0}
IsTriplePlace t (Beside place pairs) = IsPlace t.products pairs
IsTriplePlace t (Kept place) = place < length t.triples

-- the triples of exits that three B-connections lead to, over the assignments of the second half
abbrev pub row_triples : Groupings → BConn → BConn → BConn → List (ℕ × ℕ × ℕ)
row_triples t x y z = zip3 (connection_row t x.«to».level x) (connection_row t x.«to».level y) (connection_row t x.«to».level z)

-- A grouping of the table `now` and a list are the product of three groupings of the table `before`.
abbrev pub IsTriplesOf : (before now : Groupings) → Gid → Gid → Gid → Gid → List (ℕ × ℕ × ℕ) → Type 0
IsTriplesOf before now f g h head triples =
    HasCanon now.levels head f.level (zip3 (pattern_of before f) (pattern_of before g) (pattern_of before h)) triples

-- The same where the triples stand at a place.
pub record IsTripledAt (before now : Groupings) (f g h head : Gid) (middles : TripleMiddles) : Type 0 where
  pub there : IsTriplePlace now middles
  pub triples : IsTriplesOf before now f g h head (triples_at now middles)

-- The memo has no product of the three groupings.
abbrev pub IsNewTriple : Groupings → Gid → Gid → Gid → Type 0
IsNewTriple t f g h = IsNew t.triples (three_patterns_of t.levels f g h)

-- The table keeps the products that it had, each at its place, and of three groupings it has gained only products below a
-- level.
pub record KeepsProducts (before now : Groupings) (limit : ℕ) : Type 0 where
  pub pairs : List (Pattern × Pattern)
  pub products : now.products ≡ before.products ++ pairs
  pub all : List (Pattern × Pattern × Pattern)
  pub triples : now.triples ≡ before.triples ++ all
  pub below : All (λ k. k.0.level < limit) all
