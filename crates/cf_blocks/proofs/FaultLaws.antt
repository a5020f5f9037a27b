-- What a netlist without faults of names keeps.
use Rattle.std.proofs.Common.{◌≡◌, List, [], ◌∷◌, Option, Some, None, refl}
use Rattle.std.specs.Option.{option_map}
use Rattle.cf_circuits.specs.declared.models.ModelDef.{ModelDef}
use Rattle.cf_circuits.specs.declared.faults.LinkFault.TheVariants.{NoModel, NoFormal, Unconnected, TwiceDriven, Undriven}
use Rattle.cf_circuits.specs.Links.{first_of, missing_model, missing_formal, missing_pin, twice_driven, undriven, in_calls, in_models}
use Rattle.cf_circuits.specs.LinkFaults.{fault_of_names}
use Rattle.cf_links.proofs.CallsRings.{all-none}
use Rattle.cf_blocks.specs.Once.{DriveOnce}

-- where a list has no answer, its first item has none, and those behind it have none
first-none : {A : Type 0} (o : Option A) (later : List (Option A)) → first_of (o ∷ later) ≡ None → (o ≡ None) × (first_of later ≡ None)
first-none None later h = (refl, h)
first-none (Some x) later h = cc

image-none : {A B : Type 0} (f : A → B) (o : Option A) → option_map f o ≡ None → o ≡ None
image-none f None h = refl
image-none f (Some x) h = cc

pub drive-once : (models : List ModelDef) → fault_of_names models ≡ None → DriveOnce models
drive-once models none =
    let fifth = option_map Undriven (in_models (undriven models) models) ∷ [] in
    let fourth = option_map TwiceDriven (in_models (twice_driven models) models) ∷ fifth in
    let third = option_map Unconnected (in_models (in_calls (missing_pin models)) models) ∷ fourth in
    let second = option_map NoFormal (in_models (in_calls (missing_formal models)) models) ∷ third in
    let behind_first = (first-none (option_map NoModel (in_models (in_calls (missing_model models)) models)) second none).1 in
    let behind_second = (first-none (option_map NoFormal (in_models (in_calls (missing_formal models)) models)) third behind_first).1 in
    let behind_third = (first-none (option_map Unconnected (in_models (in_calls (missing_pin models)) models)) fourth behind_second).1 in
    let at_fourth = (first-none (option_map TwiceDriven (in_models (twice_driven models) models)) fifth behind_third).0 in
    all-none (twice_driven models) models (image-none TwiceDriven (in_models (twice_driven models) models) at_fourth)
