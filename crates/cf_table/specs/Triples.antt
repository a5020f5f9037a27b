use Rattle.std.specs.Prelude.{◌≡◌, ℕ, ◌<◌, List, map}
use Rattle.std.specs.List.{zip}
use Rattle.cf_model.specs.Renumbering.{IsCanon}
use Rattle.cf_model.specs.Patterns.{Pattern}
use Rattle.cf_model.specs.Diagrams.{Levels, count, pattern}
use Rattle.cf_table.specs.declared.Gid.{Gid}

-- an entry beside a pair, as a triple
abbrev pub triple_of : ℕ × (ℕ × ℕ) → ℕ × ℕ × ℕ
triple_of t = (t.0, t.1.0, t.1.1)

-- the triples of the entries of three lists, place by place, as `zip` gives the pairs of two
abbrev pub zip3 : List ℕ → List ℕ → List ℕ → List (ℕ × ℕ × ℕ)
zip3 xs ys zs = map triple_of (zip xs (zip ys zs))

-- The three groupings are in the table, at one level, and so is the head, whose pattern and the triples are the canon
-- of the triples of their exits.
pub record IsTriple (t : Levels) (f g h head : Gid) (triples : List (ℕ × ℕ × ℕ)) : Type 0 where
  pub first : f.at < count t f.level
  pub second : g.at < count t g.level
  pub third : h.at < count t h.level
  pub level : head.level ≡ f.level
  pub there : head.at < count t head.level
  pub canon : IsCanon (zip3 (pattern t f.level f.at) (pattern t g.level g.at) (pattern t h.level h.at)) (pattern t head.level head.at) triples

-- The grouping is in the table, at the level of the first of three patterns, and its pattern and the triples are the
-- canon of the triples of their numbers, place by place. It is the same for any groupings with these patterns.
pub record IsTripleOf (t : Levels) (k : Pattern × Pattern × Pattern) (head : Gid) (triples : List (ℕ × ℕ × ℕ)) : Type 0 where
  pub level : head.level ≡ k.0.level
  pub there : head.at < count t head.level
  pub canon : IsCanon (zip3 k.0.ranks k.1.ranks k.2.ranks) (pattern t head.level head.at) triples
