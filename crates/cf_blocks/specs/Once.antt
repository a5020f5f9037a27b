use Rattle.std.specs.Prelude.{◌≡◌, List, None, All}
use Rattle.cf_circuits.specs.declared.models.ModelDef.{ModelDef}
use Rattle.cf_circuits.specs.Links.{twice_driven}

-- No model drives a signal twice.
abbrev pub DriveOnce : List ModelDef → Type 0
DriveOnce models = All (λ m. twice_driven models m ≡ None) models
