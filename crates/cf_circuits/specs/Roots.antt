use Rattle.std.specs.Prelude.{ℕ, List, slice_index_or}
use Rattle.std.specs.Str.{bytes_eq}
use Rattle.cf_model.specs.Renumbering.{distinct}
use Rattle.cf_circuits.specs.declared.models.ModelDef.{ModelDef}
use Rattle.cf_circuits.specs.Links.{no_model}

-- The first model is the root. Its inputs and outputs are those of the whole circuit.

abbrev pub root : List ModelDef → ModelDef
root models = slice_index_or models 0 no_model

abbrev pub inputs_of : List ModelDef → List (List ℕ)
inputs_of models = (root models).inputs

-- an output that stands again counts once
abbrev pub outputs_of : List ModelDef → List (List ℕ)
outputs_of models = distinct bytes_eq (root models).outputs
