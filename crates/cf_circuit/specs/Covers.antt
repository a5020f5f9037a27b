use Rattle.std.specs.Prelude.{◌<◌, ◌-◌, ℕ, Bool, List, map, length, All, slice_index_or}
use Rattle.cf_circuits.specs.declared.gates.Cell.{Cell}
use Rattle.cf_circuits.specs.declared.gates.Cover.{Cover}
use Rattle.cf_circuits.specs.Covers.{cover_value}
use Rattle.cf_pkg.specs.Packages.{Package}
use Rattle.cf_circuit.specs.declared.truths.Truth.{Truth}
use Rattle.cf_circuit.specs.declared.truths.Truth.TheVariants.{Never}
use Rattle.cf_circuit.specs.Truths.{Test, Tells}
use Rattle.cf_circuit.specs.Planes.{matches_from}

-- where a wire is 1
abbrev pub truth_at : List Truth → ℕ → Truth
truth_at truths w = slice_index_or truths w Never

-- tests of wires
abbrev pub Tests : Type 0
Tests = ℕ → Test

-- Each of the wires is there, and 1 where its test holds.
abbrev pub TellWires : Package → ℕ → List Truth → List ℕ → Tests → Type 0
TellWires p l truths wires tests =
    All (λ w. (w < length truths) × Tells p l (tests w) (truth_at truths w)) wires

abbrev pub AreWiresAt : Package → ℕ → List Truth → List ℕ → Type 0
AreWiresAt p l truths wires = (tests : Tests) × TellWires p l truths wires tests

-- the values of wires at an assignment
abbrev pub at_wires : Tests → List ℕ → List Bool → List Bool
at_wires tests wires a = map (λ w. tests w a) wires

-- where one of the planes matches, read from the input of the first of these wires on
abbrev pub TellsPlanes : (before now : Package) → List (List Cell) → ℕ → List ℕ → List Truth → List ℕ → Truth
    → Type 0
TellsPlanes before now planes width places truths wires r =
    (l : ℕ) (tests : Tests) → TellWires before l truths wires tests
    → Tells now l (λ a. matches_from planes (width - length wires) places (at_wires tests wires a)) r

-- where a cover is 1
abbrev pub TellsCover : (before now : Package) → Cover → List Truth → List ℕ → Truth → Type 0
TellsCover before now cover truths wires r =
    (l : ℕ) (tests : Tests) → TellWires before l truths wires tests
    → Tells now l (λ a. cover_value cover (at_wires tests wires a)) r
