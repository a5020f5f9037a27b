use Rattle.std.specs.Prelude.{◌≡◌, ℕ, ◌<◌, true, List, length, map, Option, Some, None, slice_index_or, if◌then◌else◌}
use Rattle.std.specs.List.{slice_get}
use Rattle.std.specs.Str.{bytes_eq}
use Rattle.cf_model.specs.Renumbering.{place}
use Rattle.cf_circuits.specs.declared.models.ModelDef.{ModelDef}
use Rattle.cf_links.specs.declared.directory.Listed.{Listed}
use Rattle.cf_circuits.specs.Links.{is_among, names_of, no_model, first_of}

-- Two lists have the same names, in whatever order and however often.
abbrev pub HaveSame : List (List ℕ) → List (List ℕ) → Type 0
HaveSame names others = (name : List ℕ) → is_among names name ≡ is_among others name

-- The formals of a model are listed.
pub record Lists (m : ModelDef) (listed : Listed) : Type 0 where
  pub inputs : HaveSame listed.inputs m.inputs
  pub outputs : HaveSame listed.outputs m.outputs

-- The formals of each model are listed, in the order of the models.
pub record ListsEach (models : List ModelDef) (all : List Listed) : Type 0 where
  pub same_count : length all ≡ length models
  pub each : (k : ℕ) (m : ModelDef) (listed : Listed) → slice_get models k ≡ Some m → slice_get all k ≡ Some listed
      → Lists m listed

-- The model with a name stands at the place.
pub record IsPlace (models : List ModelDef) (name : List ℕ) (at : ℕ) : Type 0 where
  pub within : at < length models
  pub known : is_among (names_of models) name ≡ true
  pub is_it : at ≡ place bytes_eq (names_of models) name

-- the model at a place, if there is one
abbrev pub model_at : List ModelDef → Option ℕ → ModelDef
model_at models None = no_model
model_at models (Some at) = slice_index_or models at no_model

-- the first of some names that isn't among others
abbrev pub first_lacking : List (List ℕ) → List (List ℕ) → Option (List ℕ)
first_lacking others names = first_of (map (λ name. if is_among others name then None else Some name) names)

-- the places of the models that a model calls
abbrev pub places_of : List ModelDef → ModelDef → List ℕ
places_of models m = map (λ c. place bytes_eq (names_of models) c.model) m.calls
