use Rattle.std.specs.Prelude.{ℕ, List, [], Option, Vec, slice_get, map}
use Rattle.std.specs.Option.{option_map_or, option_map}
use Rattle.std.proofs.Common.{Global}

-- files by name, in memory
abbrev pub entries_of : List (Vec ℕ Global × Vec ℕ Global) → List (List ℕ × List ℕ)
entries_of files = map (λ f. (f.0.items, f.1.items)) files

-- the content of the file at a place, if there is one
abbrev pub content_at : List (Vec ℕ Global × Vec ℕ Global) → ℕ → Option (List ℕ)
content_at files k = option_map (λ f. f.1.items) (slice_get files k)

-- the content of the file at a place, or nothing
abbrev pub content_or_nothing : List (Vec ℕ Global × Vec ℕ Global) → ℕ → List ℕ
content_or_nothing files k = option_map_or (λ f. f.1.items) (slice_get files k) []

-- the name of the file at a place, or nothing
abbrev pub name_or_nothing : List (Vec ℕ Global × Vec ℕ Global) → ℕ → List ℕ
name_or_nothing files k = option_map_or (λ f. f.0.items) (slice_get files k) []
