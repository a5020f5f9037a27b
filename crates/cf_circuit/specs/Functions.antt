use Rattle.std.specs.Prelude.{◌≡◌, ◌<◌, ℕ, Bool, true, List, map, length, slice_get, Some}
use Rattle.cf_model.specs.Assignments.{bit_at}
use Rattle.cf_flat.specs.declared.flat.Flat.{Flat}
use Rattle.cf_flat.specs.declared.flat.Out.{Out}
use Rattle.cf_flat.specs.Flats.{wire_value}
use Rattle.cf_pkg.specs.declared.Func.{Func}
use Rattle.cf_pkg.specs.Packages.{Package}
use Rattle.cf_circuit.specs.declared.truths.Truth.{Truth}
use Rattle.cf_circuit.specs.Truths.{Test, Shows, Tells}
use Rattle.cf_circuit.specs.Covers.{Tests, truth_at}
use Rattle.cf_circuit.specs.Needs.{is_needed}

-- the bits of an assignment at positions
abbrev pub bits_at : List ℕ → List Bool → List Bool
bits_at positions a = map (bit_at a) positions

-- where a circuit's wire is 1 whose inputs are the bits at these positions
abbrev pub wire_test : Flat → List ℕ → ℕ → Test
wire_test flat positions w a = wire_value flat (bits_at positions a) w

-- Each function is the package's, of the level, and at each assignment 1 where the output at its place is 1,
-- else 0.
abbrev pub AreFunctionsOf : Package → ℕ → Flat → List ℕ → List Func → Type 0
AreFunctionsOf p level flat positions fs =
    (i : ℕ) (f : Func) (out : Out) → slice_get fs i ≡ Some f → slice_get flat.outputs i ≡ Some out
    → Shows p level (wire_test flat positions out.wire) f

-- Each of these first wires that is needed is 1 where its test holds.
abbrev pub AreTold : Package → ℕ → Tests → List Bool → List Truth → Type 0
AreTold p l tests needed truths =
    (w : ℕ) → w < length truths → is_needed needed w ≡ true → Tells p l (tests w) (truth_at truths w)
