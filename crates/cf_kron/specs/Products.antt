use Rattle.std.specs.Prelude.{◌<◌, ℕ, ℤ, pos, ◌*ℤ◌, Bool, List, length, map, Option, All, slice_index_or as get_or}
use Rattle.cf_model.specs.Assignments.{number_of}
use Rattle.cf_model.specs.Values.{Fits, fitting}
use Rattle.cf_model.specs.Diagrams.{Levels}
use Rattle.cf_model.specs.Functions.{function_of}
use Rattle.cf_table.specs.declared.Gid.{Gid}
use Rattle.cf_pkg.specs.Faults.{IsFirstNone}

-- the value at an assignment of a grouping whose exits have the values
abbrev pub value_by : Levels → Gid → List ℤ → List Bool → ℤ
value_by t g values bits = get_or (function_of t g.level g.at values).values (number_of bits) (pos 0)

-- a number times each of a list
abbrev pub scaled : ℤ → List ℤ → List ℤ
scaled x values = map (λ y. x *ℤ y) values

-- the same, or none where a product doesn't fit
abbrev pub scaled_fitting : ℤ → List ℤ → List (Option ℤ)
scaled_fitting x values = map (λ y. fitting (x *ℤ y)) values

-- Each of the left values times each of the right ones fits.
abbrev pub AllFit : List ℤ → List ℤ → Type 0
AllFit left right = All (λ x. All Fits (scaled x right)) left

-- The left value i and the right value j are the first whose product doesn't fit: no left value before has such a product,
-- nor has this one with a right value before.
pub record IsFirstUnfit (left right : List ℤ) (i j : ℕ) : Type 0 where
  pub within : i < length left
  pub here : IsFirstNone (scaled_fitting (get_or left i (pos 0)) right) j
  pub before : (a : ℕ) → a < i → All Fits (scaled (get_or left a (pos 0)) right)

-- rows of one grouping, one for each left value: its products with the right values
abbrev pub product_rows : Gid → List ℤ → List ℤ → List (Gid × List ℤ)
product_rows g left right = map (λ x. (g, scaled x right)) left
