use Rattle.std.specs.Prelude.{ℕ, ℤ, Bool, List, Option}
use Rattle.cf_model.specs.Assignments.{with_bit}
use Rattle.cf_model.specs.Terms.{term}
use Rattle.cf_model.specs.declared.terms.Term.{Term}

-- A term applied to three functions: at each assignment its value at theirs.
abbrev pub applied : Term → (List Bool → ℤ) → (List Bool → ℤ) → (List Bool → ℤ) → List Bool → Option ℤ
applied t f g h bits = term t (f bits) (g bits) (h bits)

-- A function with bit i restricted to b: its value where that bit of the assignment is set to b.
abbrev pub restricted : {A : Type 0} → (List Bool → A) → ℕ → Bool → List Bool → A
restricted f i b bits = f (with_bit bits i b)
