use Rattle.std.specs.Prelude.{ℕ, List, map}
use Rattle.std.specs.declared.vec.Vec.{Vec}

-- the names that vectors of bytes hold
abbrev pub names_of : {Z : Type 0} → List (Vec ℕ Z) → List (List ℕ)
names_of vectors = map (λ v. v.items) vectors
