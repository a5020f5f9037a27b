use Rattle.std.specs.Prelude.{ℕ, suc, ◌+◌, ◌==◌, nat_lt, Bool, true, false, List, [], ◌∷◌, length, map, replicate, reverse, Option, Some, None, if◌then◌else◌}
use Rattle.std.specs.List.{list_any}
use Rattle.std.specs.Option.{option_map, option_map_or, is_none}
use Rattle.cf_order.specs.Chains.{end_of, chains, total}
use Rattle.cf_circuits.specs.declared.models.ModelDef.{ModelDef}
use Rattle.cf_circuits.specs.declared.faults.LinkFault.{LinkFault}
use Rattle.cf_circuits.specs.declared.faults.LinkFault.TheVariants.{NoModel, NoFormal, Unconnected, TwiceDriven, Undriven, Recursive, TooDeep, TooLarge, Cycle}
use Rattle.cf_circuits.specs.Links.{first_of, names_of, missing_model, missing_formal, missing_pin, twice_driven, undriven, in_calls, in_models, calls_of}
use Rattle.cf_circuits.specs.Expansions.{model_at, signals, cval, signal_count}
use Rattle.cf_circuits.specs.Roots.{inputs_of}

-- The first of the nine kinds of faults that stands in a netlist.

-- the number of a fault's kind, and the name of its place
abbrev pub number_of : LinkFault → ℕ
number_of (NoModel name) = 1
number_of (NoFormal name) = 2
number_of (Unconnected name) = 3
number_of (TwiceDriven name) = 4
number_of (Undriven name) = 5
number_of (Recursive name) = 6
number_of TooDeep = 7
number_of TooLarge = 8
number_of Cycle = 9

abbrev pub name_of : LinkFault → Option (List ℕ)
name_of (NoModel name) = Some name
name_of (NoFormal name) = Some name
name_of (Unconnected name) = Some name
name_of (TwiceDriven name) = Some name
name_of (Undriven name) = Some name
name_of (Recursive name) = Some name
name_of TooDeep = None
name_of TooLarge = None
name_of Cycle = None

-- The first of the kinds 1 to 5, with the name of its first place: all models are tried for a kind before the next one.
abbrev pub fault_of_names : List ModelDef → Option LinkFault
fault_of_names models =
    first_of
    (option_map NoModel (in_models (in_calls (missing_model models)) models)
    ∷ option_map NoFormal (in_models (in_calls (missing_formal models)) models)
    ∷ option_map Unconnected (in_models (in_calls (missing_pin models)) models)
    ∷ option_map TwiceDriven (in_models (twice_driven models) models)
    ∷ option_map Undriven (in_models (undriven models) models)
    ∷ [])

-- whether a chain of calls from a model has calls, and ends at the model
abbrev pub comes_back : List (List ℕ) → ℕ → List ℕ → Bool
comes_back calls m [] = false
comes_back calls m (i ∷ is) = option_map_or (λ e. e == m) (end_of calls m (i ∷ is)) false

-- Kind 6: the model calls itself, directly or through others. If so, it does by at most as many calls as there are
-- models.
abbrev pub is_recursive : List (List ℕ) → ℕ → Bool
is_recursive calls m = list_any (comes_back calls m) (chains calls (length calls) m)

-- the name of the first model that does, where the first of the names is that of model k
abbrev pub recursive_from : List (List ℕ) → ℕ → List (List ℕ) → Option (List ℕ)
recursive_from calls k [] = None
recursive_from calls k (name ∷ later) = if is_recursive calls k then Some name else recursive_from calls (suc k) later

-- Kind 7: a chain of calls from the root has more than 64 calls. If so, one has 65.
abbrev pub is_deep : List (List ℕ) → Bool
is_deep calls = list_any (λ is. nat_lt 64 (length is)) (chains calls 65 0)

-- the gates and calls of each model
abbrev pub weights_of : List ModelDef → List ℕ
weights_of models = map (λ m. length m.gates + length m.calls) models

-- Kind 8: the gates and calls of all chains are more than 1,000,000.
abbrev pub is_large : List ModelDef → Bool
is_large models = nat_lt 1000000 (total (calls_of models) (weights_of models) 64 0)

-- the expansion: all chains of at most 64 calls from the root, the last call first
abbrev pub expansion : List ModelDef → List (List ℕ)
expansion models = map reverse (chains (calls_of models) 64 0)

-- whether a signal has no value where all inputs are 0
abbrev pub lacks_value : List ModelDef → List ℕ → List ℕ → Bool
lacks_value models chain name =
    is_none (cval models (replicate (length (inputs_of models)) false) (signal_count models) chain name)

-- Kind 9: signals of the expansion need one another in a ring. These are the ones without a value, with those that need
-- them.
abbrev pub has_cycle : List ModelDef → Bool
has_cycle models =
    list_any
    (λ chain. option_map_or (λ m. list_any (lacks_value models chain) (signals models m)) (model_at models chain) false)
    (expansion models)

-- each kind, where none of those before it stands
abbrev pub or_cycle : List ModelDef → Bool → Option LinkFault
or_cycle models true = Some TooLarge
or_cycle models false = if has_cycle models then Some Cycle else None

abbrev pub or_large : List ModelDef → Bool → Option LinkFault
or_large models true = Some TooDeep
or_large models false = or_cycle models (is_large models)

abbrev pub or_deep : List ModelDef → Option (List ℕ) → Option LinkFault
or_deep models (Some name) = Some (Recursive name)
or_deep models None = or_large models (is_deep (calls_of models))

abbrev pub or_recursive : List ModelDef → Option LinkFault → Option LinkFault
or_recursive models (Some fault) = Some fault
or_recursive models None = or_deep models (recursive_from (calls_of models) 0 (names_of models))

-- the first kind that stands, in order of the numbers
abbrev pub link : List ModelDef → Option LinkFault
link models = or_recursive models (fault_of_names models)
