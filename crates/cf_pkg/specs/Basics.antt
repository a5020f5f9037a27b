use Rattle.std.specs.Prelude.{ℕ, ◌^◌, Bool, if◌then◌else◌, List, map}
use Rattle.cf_model.specs.Assignments.{all_bits, bit_at}
use Rattle.cf_model.specs.Diagrams.{Levels}
use Rattle.cf_build.specs.Assembling.{Stands}
use Rattle.cf_pkg.specs.declared.basics.BasicGroupings.{BasicGroupings}

-- the exit that a variable's grouping has at an assignment: its bit
abbrev pub bit_exit : ℕ → List Bool → ℕ
bit_exit i bits = if bit_at bits i then 1 else 0

-- the pattern of the variable at position i, and below that of a constant, whose grouping has one exit
abbrev pub variable_pattern : ℕ → ℕ → List ℕ
variable_pattern level i = map (bit_exit i) (all_bits (2 ^ level))

abbrev pub constant_pattern : ℕ → List ℕ
constant_pattern level = map (λ bits. 0) (all_bits (2 ^ level))

-- The table has the two groupings: a level's constant, and its variable at a position.
pub record AreBasics (t : Levels) (b : BasicGroupings) (level i : ℕ) : Type 0 where
  pub constant : Stands t b.constant level (constant_pattern level)
  pub variable : Stands t b.variable level (variable_pattern level i)
