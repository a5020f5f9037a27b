use Rattle.std.specs.Prelude.{ℕ, List, Option}
use Rattle.cf_circuits.specs.declared.models.ModelDef.{ModelDef}
use Rattle.cf_links.specs.declared.kinds.Kind.{Kind}
use Rattle.cf_links.specs.declared.kinds.Kind.TheVariants as kind
use Rattle.cf_circuits.specs.Links.{missing_model, missing_formal, missing_pin, twice_driven, undriven, in_calls}

-- the first fault of a kind in a model
abbrev pub of_kind : Kind → List ModelDef → ModelDef → Option (List ℕ)
of_kind kind.NoModel models = in_calls (missing_model models)
of_kind kind.NoFormal models = in_calls (missing_formal models)
of_kind kind.Unconnected models = in_calls (missing_pin models)
of_kind kind.TwiceDriven models = twice_driven models
of_kind kind.Undriven models = undriven models
