use Rattle.std.specs.Prelude.{◌<◌, ℕ, ℤ, pos, List, length, map, All, Option, slice_index_or as get_or}
use Rattle.cf_model.specs.Terms.{term}
use Rattle.cf_model.specs.declared.terms.Term.{Term}

-- the values of a tree of one argument at a list of values
abbrev pub map_each : Term → List ℤ → List (Option ℤ)
map_each tree values = map (λ x. term tree x (pos 0) (pos 0)) values

-- the values of a tree of two arguments at pairs of places in two lists of values
abbrev pub apply_each : Term → List ℤ → List ℤ → List (ℕ × ℕ) → List (Option ℤ)
apply_each tree vs ws pairs = map (λ p. term tree (get_or vs p.0 (pos 0)) (get_or ws p.1 (pos 0)) (pos 0)) pairs

-- the values of a tree of three arguments at triples of places in three lists of values
abbrev pub ternary_each : Term → List ℤ → List ℤ → List ℤ → List (ℕ × ℕ × ℕ) → List (Option ℤ)
ternary_each tree us vs ws triples = map (λ t. term tree (get_or us t.0 (pos 0)) (get_or vs t.1 (pos 0)) (get_or ws t.2 (pos 0))) triples

-- Each pair has its places in the two lists.
abbrev pub PairsWithin : List ℤ → List ℤ → List (ℕ × ℕ) → Type 0
PairsWithin vs ws pairs = All (λ p. (p.0 < length vs) × (p.1 < length ws)) pairs

-- Each triple has its places in the three lists.
abbrev pub TriplesWithin : List ℤ → List ℤ → List ℤ → List (ℕ × ℕ × ℕ) → Type 0
TriplesWithin us vs ws triples = All (λ t. (t.0 < length us) × (t.1 < length vs) × (t.2 < length ws)) triples
