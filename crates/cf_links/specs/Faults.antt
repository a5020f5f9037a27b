use Rattle.std.specs.Prelude.{◌≡◌, ℕ, List, Some, None, slice_get}
use Rattle.cf_circuits.specs.declared.models.ModelDef.{ModelDef}
use Rattle.cf_circuits.specs.declared.faults.LinkFault.{LinkFault}
use Rattle.cf_circuits.specs.declared.faults.LinkFault.TheVariants.{Recursive}
use Rattle.cf_circuits.specs.LinkFaults.{fault_of_names}
use Rattle.cf_circuits.specs.Links.{names_of, calls_of}
use Rattle.cf_order.specs.Orders.{HasNoRing}
use Rattle.cf_order.specs.Rings.{IsFirstOnRing}

-- Kind 6: the first model that calls itself, directly or through others, has the name.
pub record IsRecursive (models : List ModelDef) (name : List ℕ) : Type 0 where
  pub at : ℕ
  pub first : IsFirstOnRing (calls_of models) at
  pub is_it : slice_get (names_of models) at ≡ Some name

-- A fault is the first of the kinds 1 to 5, or there is none of them, and it is of kind 6.
abbrev pub IsNameFault : List ModelDef → LinkFault → Type 0
IsNameFault models (Recursive name) = (fault_of_names models ≡ None) × IsRecursive models name
IsNameFault models fault = fault_of_names models ≡ Some fault

-- None of the kinds 1 to 6 stands.
pub record HasNoNameFault (models : List ModelDef) : Type 0 where
  pub none : fault_of_names models ≡ None
  pub ring : HasNoRing (calls_of models)
