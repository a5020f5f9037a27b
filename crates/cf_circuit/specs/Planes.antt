use Rattle.std.specs.Prelude.{◌≡◌, ◌<◌, ℕ, suc, Bool, false, ◌||◌, List, [], ◌∷◌, length, drop, All, slice_index_or, if◌then◌else◌}
use Rattle.std.specs.List.{list_any}
use Rattle.cf_circuits.specs.declared.gates.Cell.{Cell}
use Rattle.cf_circuits.specs.declared.gates.Cell.TheVariants.{Any}
use Rattle.cf_circuits.specs.Covers.{matches}

-- whether some plane matches
abbrev pub some_matches : List (List Cell) → List Bool → Bool
some_matches planes vs = list_any (λ plane. matches plane vs) planes

-- the plane at a place
abbrev pub plane_at : List (List Cell) → ℕ → List Cell
plane_at planes place = slice_index_or planes place []

-- what it asks of an input
abbrev pub cell_at : List (List Cell) → ℕ → ℕ → Cell
cell_at planes place input = slice_index_or (plane_at planes place) input Any

-- The place has a plane with so many cells.
abbrev pub IsWide : List (List Cell) → ℕ → ℕ → Type 0
IsWide planes width place = (place < length planes) × (length (plane_at planes place) ≡ width)

-- whether one of the planes at these places matches, read from an input on
abbrev pub matches_from : List (List Cell) → ℕ → List ℕ → List Bool → Bool
matches_from planes input [] vs = false
matches_from planes input (place ∷ places) vs =
    matches (drop input (plane_at planes place)) vs || matches_from planes input places vs

-- The places are those of all planes.
pub record AreAllPlaces (planes : List (List Cell)) (places : List ℕ) : Type 0 where
  pub there : All (λ place. place < length planes) places
  pub match : (vs : List Bool) → matches_from planes 0 places vs ≡ some_matches planes vs

-- The planes match where, after the input, one of the others does, or one of those that ask for its value.
pub record AreParted (planes : List (List Cell)) (width input : ℕ)
    (places zeros ones others : List ℕ) : Type 0 where
  pub wide_zeros : All (IsWide planes width) zeros
  pub wide_ones : All (IsWide planes width) ones
  pub wide_others : All (IsWide planes width) others
  pub match : (v : Bool) (vs : List Bool) → matches_from planes input places (v ∷ vs)
      ≡ (matches_from planes (suc input) others vs
      || (if v then matches_from planes (suc input) ones vs else matches_from planes (suc input) zeros vs))
