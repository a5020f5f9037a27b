use Rattle.std.specs.Prelude.{ℕ, List, ◌∷◌, decimal}
use Rattle.std.specs.List.{flat_map}

-- each count in decimal, with a blank before it
abbrev pub counts_behind : List ℕ → List ℕ
counts_behind counts = flat_map (λ count. 32 ∷ decimal count) counts
