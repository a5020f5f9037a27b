use Rattle.std.specs.Prelude.{◌&&◌, not, Bool, true, false, List, [], ◌∷◌, if◌then◌else◌}
use Rattle.std.specs.List.{list_any}
use Rattle.cf_circuits.specs.declared.gates.Cell.{Cell}
use Rattle.cf_circuits.specs.declared.gates.Cell.TheVariants as cell
use Rattle.cf_circuits.specs.declared.gates.Cover.{Cover}

-- What a gate's cover gives on the values of its inputs.

-- whether a cell lets a value pass
abbrev pub allows : Cell → Bool → Bool
allows cell.Zero value = not value
allows cell.One value = value
allows cell.Any value = true

-- whether a plane matches values, cell by cell; one of another length doesn't
abbrev pub matches : List Cell → List Bool → Bool
matches [] [] = true
matches [] (value ∷ values) = false
matches (c ∷ cells) [] = false
matches (c ∷ cells) (value ∷ values) = allows c value && matches cells values

-- `on` where some plane matches, else the opposite
abbrev pub cover_value : Cover → List Bool → Bool
cover_value cover values = if list_any (λ plane. matches plane values) cover.planes then cover.on else not cover.on
